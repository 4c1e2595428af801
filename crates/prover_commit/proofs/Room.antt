-- The room of the job's matrices and of the scratch's regions, by the code's parameters.
use mathlib.Core.Path.{◌≡◌, sym, ap, subst}
use mathlib.Core.List.{List}
use Prim.Native.Nat.{ℕ, ◌+◌, ◌*◌, ◌≤◌, ◌<◌, ◌^◌}
use native.Mathlib.Nat.{mul-le-mul}
use native.Mathlib.Omega.{arith}
use mir.Syntax.{w64}
use mir.Val.{Fits}
use lib.ListN.{length}
use Rattle.spec_protocol.specs.Parameters.{parameters, T, triangular}
use Rattle.spec_protocol.specs.Layout.{start, job_sections, witness_sections}
use Rattle.commitments_outer.specs.Cells.{Cells}
use Rattle.commitments_outer.proofs.Formula.{digits}
use Rattle.layout_regions.specs.declared.Regions.{Regions}
use Rattle.relation_env_params.specs.declared.env_params.EnvironmentParameters.{EnvironmentParameters}
use Rattle.relation_env_params.specs.Parameters.{parameters_of}
use Rattle.core_workspace.specs.Ready.{Ready}
use Rattle.core_workspace.proofs.Ready.{ready-sized, a-end, g_end, c-end, t-end, u-end, b''-end, B-within, C-within, D-within}
use Rattle.prover_commit.specs.Work.{WorkGiven, Placed}

-- a product of two small numbers
pub small_product : (a b : ℕ) → a ≤ 16 → b ≤ 16 → a * b ≤ 256
small_product a b h k = mul-le-mul h k

pub fits_product : (a b : ℕ) → a ≤ 16 → b ≤ 16 → Fits w64 (a * b)
fits_product a b h k = let m : a * b ≤ 256 = small_product a b h k in record { fits = omega (arith, m) }

module _ (J : List ℕ) (params : EnvironmentParameters) (regions : Regions) (S : List ℕ) (h : Ready J params regions S) where
  -- the matrices by the code's parameters
  pub B-room : (at : ℕ) → at ≡ 31 + start (job_sections (parameters_of params)) 7 → at + 64 * (params.kappa_1 * (params.multiplicity * params.kappa * params.t_1)) ≤ length J
  B-room at e =
      subst (λ a. a + 64 * (params.kappa_1 * (params.multiplicity * params.kappa * params.t_1)) ≤ length J) (sym e)
      (subst (λ P. 31 + start (job_sections P) 7 + 64 * (P.κ₁ * (P.r * P.κ * P.t₁)) ≤ length J) (sym h.same) (B-within J params regions S h))

  pub C-room : (at cells : ℕ) → at ≡ 31 + start (job_sections (parameters_of params)) 8 → cells ≡ triangular params.multiplicity → at + 64 * (params.kappa_1 * (cells * params.t_2)) ≤ length J
  C-room at cells e f =
      subst (λ a. a + 64 * (params.kappa_1 * (cells * params.t_2)) ≤ length J) (sym e)
      (subst (λ k. 31 + start (job_sections (parameters_of params)) 8 + 64 * (params.kappa_1 * (k * params.t_2)) ≤ length J) (sym f)
      (subst (λ P. 31 + start (job_sections P) 8 + 64 * (P.κ₁ * (T P * P.t₂)) ≤ length J) (sym h.same) (C-within J params regions S h)))

  pub D-room : (at cells : ℕ) → at ≡ 31 + start (job_sections (parameters_of params)) 9 → cells ≡ triangular params.multiplicity → at + 64 * (params.kappa_2 * (cells * params.t_1)) ≤ length J
  D-room at cells e f =
      subst (λ a. a + 64 * (params.kappa_2 * (cells * params.t_1)) ≤ length J) (sym e)
      (subst (λ k. 31 + start (job_sections (parameters_of params)) 9 + 64 * (params.kappa_2 * (k * params.t_1)) ≤ length J) (sym f)
      (subst (λ P. 31 + start (job_sections P) 9 + 64 * (P.κ₂ * (T P * P.t₁)) ≤ length J) (sym h.same) (D-within J params regions S h)))

  -- the regions by the code's parameters
  t_room : regions.t + 64 * (params.multiplicity * params.kappa) ≤ length S
  t_room =
      subst (λ P. regions.t + 64 * (P.r * P.κ) ≤ length S) (sym h.same)
      (up regions.t _ regions.u regions.b2 (length S) (t-end J params regions S h) (u-end J params regions S h) (b''-end J params regions S h))
    where
      up : (t k u b n : ℕ) → t + k ≤ u → u + 64 * 16 ≤ b → b + 64 * 32 ≤ n → t + k ≤ n
      up t k u b n a c d = omega arith

  c-room : regions.challenges + 64 * params.multiplicity ≤ length S
  c-room = subst (λ P. regions.challenges + 64 * P.r ≤ length S) (sym h.same)
      (up regions.challenges _ regions.t (64 * ((parameters J).r * (parameters J).κ)) regions.u regions.b2 (length S) (c-end J params regions S h)
      (t-end J params regions S h) (u-end J params regions S h) (b''-end J params regions S h))
    where
      up : (c k t m u b n : ℕ) → c + k ≤ t → t + m ≤ u → u + 64 * 16 ≤ b → b + 64 * 32 ≤ n → c + k ≤ n
      up c k t m u b n a d e f = omega arith

  -- the places rise
  g_room_of : regions.g + 64 * T (parameters J) ≤ length S
  g_room_of = up regions.g (64 * T (parameters J)) regions.challenges (64 * (parameters J).r) regions.t (64 * ((parameters J).r * (parameters J).κ)) regions.u
      regions.b2 (length S) (g_end J params regions S h) (c-end J params regions S h) (t-end J params regions S h) (u-end J params regions S h) (b''-end J params regions S h)
    where
      up : (g k c l t m u b n : ℕ) → g + k ≤ c → c + l ≤ t → t + m ≤ u → u + 64 * 16 ≤ b → b + 64 * 32 ≤ n → g + k ≤ n
      up g k c l t m u b n a d e f i = omega arith

  g_room : regions.g + 64 * triangular params.multiplicity ≤ length S
  g_room = subst (λ k. regions.g + 64 * k ≤ length S) (sym (ap (λ P. T P) h.same)) g_room_of

  h_room : regions.a_or_h + 64 * triangular params.multiplicity ≤ length S
  h_room =
      subst (λ k. regions.a_or_h + 64 * k ≤ length S) (sym (ap (λ P. T P) h.same))
      (up regions.a_or_h (64 * T (parameters J)) regions.g (length S) (a-end J params regions S h) g_room_of)
    where
      up : (a k g n : ℕ) → a + k ≤ g → g + k ≤ n → a + k ≤ n
      up a k g n b c = omega arith

  b''-room : regions.b2 + 64 * params.const_agg_length ≤ length S
  b''-room = up regions.b2 params.const_agg_length (length S) (ready-sized J params regions S h).within.L.1 (b''-end J params regions S h)
    where
      up : (b k n : ℕ) → k ≤ 32 → b + 64 * 32 ≤ n → b + 64 * k ≤ n
      up b k n l m = omega arith

  -- a ready call's regions lie within the scratch
  pub placed : Placed params regions S
  placed = record { sized = ready-sized J params regions S h; t = t_room; g = g_room; h = h_room; b'' = b''-room; challenges = c-room }

module _ (params : EnvironmentParameters) (regions : Regions) (S : List ℕ) (h : Placed params regions S) where
  -- digits have a base
  pub base-room : 1 < params.b
  base-room = let k : 2 ≤ params.b = h.sized.within.b.0 in omega arith

  -- the cells of t
  pub t_cells : Cells S (digits regions.t (params.multiplicity * params.kappa) params.t_1)
  t_cells = record {
    within = h.t;
    few_cells = up (params.multiplicity * params.kappa)
        (small_product params.multiplicity params.kappa h.sized.within.r.1 h.sized.within.κ.1);
    few_parts = h.sized.within.t₁.1;
  }
    where
      up : (n : ℕ) → n ≤ 256 → n ≤ 2 ^ 18
      up n l = omega arith

-- the cells of a triangle
pub triangle-cells : (params : EnvironmentParameters) (at parts cells : ℕ) (S : List ℕ) → at + 64 * triangular params.multiplicity ≤ length S → parts ≤ 32
    → (cells ≡ triangular params.multiplicity) × (cells ≤ 136) → Cells S (digits at cells parts)
triangle-cells params at parts cells S h l e =
    record { within = subst (λ k. at + 64 * k ≤ length S) (sym e.0) h; few_cells = few cells e.1; few_parts = l }
  where
    few : (n : ℕ) → n ≤ 136 → n ≤ 2 ^ 18
    few n l = omega arith

-- the witness by the code's parameters
pub s-room : (J W : List ℕ) (params : EnvironmentParameters) (regions : Regions) (S : List ℕ) → WorkGiven J W params regions S → 1 + 64 * (params.multiplicity * params.rank) ≤ length W
unfolding start
s-room J W params regions S h = subst (λ P. start (witness_sections P) 0 + 64 * (P.r * P.n) ≤ length W) (sym h.ready.same) h.witness
