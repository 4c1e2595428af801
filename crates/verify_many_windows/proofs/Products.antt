-- The products of rows are those of the protocol's matrices, of the parameters and places that the code holds.
use mathlib.Core.Path.{◌≡◌, refl, sym, ap, ap₂, subst, ◌∙◌}
use mathlib.Core.Bool.{cond}
use mathlib.Core.List.{List, []}
use Prim.Native.Nat.{ℕ, ◌+◌, ◌-◌, ◌*◌, ◌≤◌, ◌<◌, ◌^◌}
use native.Mathlib.Nat.{mul-le-mul}
use native.Mathlib.Omega.{arith}
use borrow.Author.Tests.{lt-ltb, le-ltb}
use lib.Dec.{ltb}
use lib.ListN.{length, get_or}
use Rattle.std.specs.Prelude.{Option, Some, None, MatchOption, IsSomeAnd, unwrap_or}
use Rattle.std.specs.Option.{ForSome}
use Rattle.std.proofs.lemmas.Option.{none-some}
use Rattle.spec_leaves.specs.Rq.{Element}
use Rattle.spec_leaves.specs.Ring.{RqOps, words}
use Rattle.math.specs.lists.Table.{table}
use Rattle.math.specs.lists.Part.{splice}
use Rattle.ring_inner_product.specs.Run.{Run, run}
use Rattle.spec_protocol.specs.Parameters.{Parameters, parameters, triangular}
use Rattle.spec_protocol.specs.Views.{public, message}
use Rattle.spec_protocol.specs.Formulas.{◌⊗◌, sum, dot, flat, times, digits_of}
use Rattle.spec_protocol.specs.Many.{row_product}
use Rattle.spec_protocol.proofs.Stored.{flat-one}
use Rattle.ring_rq_matrix.specs.Region.{vector}
use Rattle.ring_rq_matrix.proofs.Place.{rows-within, run-vector}
use Rattle.core_aggregate.proofs.Grid.{row-run}
use Rattle.commitments_outer.specs.declared.outer_commitments.Digits.{Digits}
use Rattle.commitments_outer.specs.Cells.{Room, width, digits_at, digits_product}
use Rattle.commitments_outer.proofs.Formula.{digits, vectors_cells, triangle_cells}
use Rattle.relation_env_params.specs.declared.env_params.EnvironmentParameters.{EnvironmentParameters}
use Rattle.relation_env_params.specs.Parameters.{parameters_of}
use Rattle.verifier_common.specs.Work.{Posed}
use Rattle.verifier_common.proofs.Sent.{transcript_at, reckoned, received, job-room, z-run}
use Rattle.verifier_commitments.proofs.OuterLaws.{job_at, B-within, C-within, D-within}
use Rattle.core_workspace.specs.Holds.{Holds}
use Rattle.verify_many_windows.specs.declared.row.Held.{Held}
use Rattle.verify_many_windows.specs.Held.{DigitsHeld, AllHeld}
use Rattle.verify_many_windows.specs.Row.{of_A, of_B, of_C, of_D}

-- the words of one element
pub flat-table-one : (f : ℕ → Element) → flat (table 1 f) ≡ words (f 0)
unfolding table
flat-table-one f = flat-one (f 0)

-- the first row of the rows from row k on is row k
pub row_from : (J : List ℕ) (at row w k : ℕ) (v : List Element) → row ≡ at + 64 * (k * w) → times (vector J row w) v 0 ≡ times (vector J at w) v k
unfolding times
row_from J at row w k v e =
    let first : run J row 64 ≡ vector J row w 0 = run-vector J row w 0 row (omega arith) in
    ap (λ f. sum (length v) (λ m. f m ⊗ get_or v m RqOps.nil)) (sym first ∙ run-vector J at w k row e)

-- what is stored of a row with digits
pub stored_row : (J X : List ℕ) (at row k : ℕ) (d : Digits) (b : ℕ) (S S' : List ℕ) (place : ℕ) → row ≡ at + 64 * (k * width d)
    → S' ≡ splice S place (flat (table 1 (digits_product J row X d b)))
    → S' ≡ splice S place (words (digits_product J at X d b k))
stored_row J X at row k d b S S' place e h =
    h
    ∙ ap (splice S place) (flat-table-one (digits_product J row X d b))
    ∙ ap (λ x. splice S place (words x)) (row_from J at row (width d) k (digits_at X d b) e)

module _ (J X : List ℕ) (params : EnvironmentParameters) (s : Posed J X params) where
  -- row k of A lies within the job
  a-end : (at k : ℕ) → at ≡ job_at (parameters_of params) 6 → k < params.kappa → at + 64 * (k * params.rank) + 64 * params.rank ≤ length J
  a-end at k e h = omega (arith, job-room s 6 at (omega arith) e, rows-within k params.kappa params.rank h)

  -- and its place is small
  pub a_bounds : (at k : ℕ) → length J < 2 ^ 61 → at ≡ job_at (parameters_of params) 6 → k < params.kappa → (k * params.rank ≤ 1024) × (at + 64 * (k * params.rank) ≤ 2 ^ 62)
  a_bounds at k j e h =
      let w = (reckoned s).within in
      let few : k ≤ 16 = omega (arith, w.κ.1) in
      let small : k * params.rank ≤ 1024 = mul-le-mul few w.n.1 in
      (small, omega (arith, a-end at k e h))

  -- what its inner product with z requires
  pub a_requires : (at z_at k : ℕ) → length J < 2 ^ 61 → length X < 2 ^ 61 → at ≡ job_at (parameters_of params) 6 → z_at ≡ transcript_at (parameters_of params) 4 → k < params.kappa
      → Run J (at + 64 * (k * params.rank)) 64 params.rank × Run X z_at 64 params.rank
  a_requires at z_at k j x ea ez h =
      let few : params.rank ≤ 2 ^ 18 = omega (arith, (reckoned s).within.n.1) in
      (row-run J (at + 64 * (k * params.rank)) params.rank (a-end at k ea h) few j, z-run X params (received s) z_at ez x)

  -- row k of B, of C and of D lies within the job
  pub b-room : (at k : ℕ) → at ≡ job_at (parameters_of params) 7 → k < params.kappa_1
      → Room J at (k * (params.multiplicity * params.kappa * params.t_1) + params.multiplicity * params.kappa * params.t_1)
  b-room at k e h = omega (arith, B-within J X params s at e, rows-within k params.kappa_1 (params.multiplicity * params.kappa * params.t_1) h)

  pub c-room : (at cells k : ℕ) → at ≡ job_at (parameters_of params) 8 → cells ≡ triangular params.multiplicity → k < params.kappa_1
      → Room J at (k * (cells * params.t_2) + cells * params.t_2)
  c-room at cells k e f h = omega (arith, C-within J X params s at cells e f, rows-within k params.kappa_1 (cells * params.t_2) h)

  pub d_room : (at cells k : ℕ) → at ≡ job_at (parameters_of params) 9 → cells ≡ triangular params.multiplicity → k < params.kappa_2
      → Room J at (k * (cells * params.t_1) + cells * params.t_1)
  d_room at cells k e f h = omega (arith, D-within J X params s at cells e f, rows-within k params.kappa_2 (cells * params.t_1) h)

  -- row k of A with z
  pub a_is : (at z_at k : ℕ) (l : List ℕ) → at ≡ job_at (parameters_of params) 6 → z_at ≡ transcript_at (parameters_of params) 4
      → l ≡ words (dot params.rank (run J (at + 64 * (k * params.rank)) 64) (run X z_at 64)) → l ≡ words (of_A J X k)
  a_is at z_at k l ea ez h =
      h
      ∙ ap (λ f. words (dot params.rank f (run X z_at 64))) (run-vector J at params.rank k (at + 64 * (k * params.rank)) refl)
      ∙ ap₂ (λ a z. words (dot params.rank (vector J a params.rank k) (run X z 64))) ea ez
      ∙ ap (λ Q. words (dot Q.n (vector J (job_at Q 6) Q.n k) (run X (transcript_at Q 4) 64))) s.same

  -- of B with the digits of t
  pub b_is : (at t-at k : ℕ) → at ≡ job_at (parameters_of params) 7 → t-at ≡ transcript_at (parameters_of params) 5
      → digits_product J at X (digits t-at (params.multiplicity * params.kappa) params.t_1) params.b k ≡ of_B J X k
  b_is at t-at k ea et =
      ap₂ (λ a t. digits_product J a X (digits t (params.multiplicity * params.kappa) params.t_1) params.b k) ea et
      ∙ ap (λ Q. digits_product J (job_at Q 7) X (digits (transcript_at Q 5) (Q.r * Q.κ) Q.t₁) Q.b k) s.same
      ∙ ap (λ v. times (public J []).B (digits_of (parameters J).b (parameters J).t₁ v) k)
      (vectors_cells X (transcript_at (parameters J) 5) (parameters J).r (parameters J).κ (message (parameters J) X).t (λ i k l m. refl))

  -- of C with the digits of g
  pub c_is : (at g-at cells k : ℕ) → at ≡ job_at (parameters_of params) 8 → g-at ≡ transcript_at (parameters_of params) 6 → cells ≡ triangular params.multiplicity
      → digits_product J at X (digits g-at cells params.t_2) params.b k ≡ of_C J X k
  c_is at g-at cells k ea eg en =
      ap₂ (λ a g. digits_product J a X (digits g cells params.t_2) params.b k) ea eg
      ∙ ap (λ n. digits_product J (job_at (parameters_of params) 8) X (digits (transcript_at (parameters_of params) 6) n params.t_2) params.b k) en
      ∙ ap (λ Q. digits_product J (job_at Q 8) X (digits (transcript_at Q 6) (triangular Q.r) Q.t₂) Q.b k) s.same
      ∙ ap (λ v. times (public J []).C (digits_of (parameters J).b (parameters J).t₂ v) k)
      (triangle_cells X (transcript_at (parameters J) 6) (parameters J).r (message (parameters J) X).g (λ i j l m. refl))

  -- of D with the digits of h
  pub d_is : (at h-at cells k : ℕ) → at ≡ job_at (parameters_of params) 9 → h-at ≡ transcript_at (parameters_of params) 7 → cells ≡ triangular params.multiplicity
      → digits_product J at X (digits h-at cells params.t_1) params.b k ≡ of_D J X k
  d_is at h-at cells k ea eh en =
      ap₂ (λ a h. digits_product J a X (digits h cells params.t_1) params.b k) ea eh
      ∙ ap (λ n. digits_product J (job_at (parameters_of params) 9) X (digits (transcript_at (parameters_of params) 7) n params.t_1) params.b k) en
      ∙ ap (λ Q. digits_product J (job_at Q 9) X (digits (transcript_at Q 7) (triangular Q.r) Q.t₁) Q.b k) s.same
      ∙ ap (λ v. times (public J []).D (digits_of (parameters J).b (parameters J).t₁ v) k)
      (triangle_cells X (transcript_at (parameters J) 7) (parameters J).r (message (parameters J) X).h (λ i j l m. refl))

-- a place among those of stored digits, where they are stored
pub held_place : (P : ℕ → Type 0) (A : Held → Type 0) (Q : Held → ℕ → Type 0) (held : Option Held) (o : Option ℕ) (f : Held → ℕ) → MatchOption held (o ≡ None) (λ h. IsSomeAnd o (Q h))
    → ForSome held A → ((h : Held) (a : ℕ) → Q h a → a ≡ f h) → ((h : Held) → A h → P (f h)) → ForSome o P
held_place P A Q None o f m all q g at e = absurd (none-some at (sym m ∙ e))
held_place P A Q (Some h) (Some a) f m all q g at e = subst P (sym (q h a m) ∙ ap (λ o. unwrap_or o 0) e) (g h (all h refl))
held_place P A Q (Some h) None f m all q g at e = absurd m

-- stored digits by the places and parameters that the code holds
module _ (J X : List ℕ) (params : EnvironmentParameters) (s : Posed J X params) (S : List ℕ) (h : Held) (all : AllHeld J X S h) where
  abbrev Q' : Parameters
  Q' = parameters J

  pub t-held : (t-at : ℕ) → t-at ≡ transcript_at (parameters_of params) 5 → DigitsHeld S h.t X (digits t-at (params.multiplicity * params.kappa) params.t_1) params.b
  t-held t-at e =
      subst (λ a. DigitsHeld S h.t X (digits a (params.multiplicity * params.kappa) params.t_1) params.b) (sym e)
      (subst (λ Q. DigitsHeld S h.t X (digits (transcript_at Q 5) (Q.r * Q.κ) Q.t₁) Q.b) (sym s.same) (record {
        room = all.t_room;
        held = subst (λ v. Holds S h.t (flat (digits_of Q'.b Q'.t₁ v))) (sym (vectors_cells X (transcript_at Q' 5) Q'.r Q'.κ (message Q' X).t (λ i k l m. refl))) all.t;
      }))

  pub g_held : (g-at cells : ℕ) → g-at ≡ transcript_at (parameters_of params) 6 → cells ≡ triangular params.multiplicity → DigitsHeld S h.g X (digits g-at cells params.t_2) params.b
  g_held g-at cells e f =
      subst (λ a. DigitsHeld S h.g X (digits a cells params.t_2) params.b) (sym e)
      (subst (λ n. DigitsHeld S h.g X (digits (transcript_at (parameters_of params) 6) n params.t_2) params.b) (sym f)
      (subst (λ Q. DigitsHeld S h.g X (digits (transcript_at Q 6) (triangular Q.r) Q.t₂) Q.b) (sym s.same) (record {
        room = all.g_room;
        held = subst (λ v. Holds S h.g (flat (digits_of Q'.b Q'.t₂ v))) (sym (triangle_cells X (transcript_at Q' 6) Q'.r (message Q' X).g (λ i j l m. refl))) all.g;
      })))

  pub h-held : (h-at cells : ℕ) → h-at ≡ transcript_at (parameters_of params) 7 → cells ≡ triangular params.multiplicity → DigitsHeld S h.h X (digits h-at cells params.t_1) params.b
  h-held h-at cells e f =
      subst (λ a. DigitsHeld S h.h X (digits a cells params.t_1) params.b) (sym e)
      (subst (λ n. DigitsHeld S h.h X (digits (transcript_at (parameters_of params) 7) n params.t_1) params.b) (sym f)
      (subst (λ Q. DigitsHeld S h.h X (digits (transcript_at Q 7) (triangular Q.r) Q.t₁) Q.b) (sym s.same) (record {
        room = all.h_room;
        held = subst (λ v. Holds S h.h (flat (digits_of Q'.b Q'.t₁ v))) (sym (triangle_cells X (transcript_at Q' 7) Q'.r (message Q' X).h (λ i j l m. refl))) all.h;
      })))

-- the rows of each matrix among all rows
module _ (J X : List ℕ) (ρ : ℕ) where
  open parameters J use {κ, κ₁}

  -- what is taken of two by a test
  taken : (t u : Element) {a b : ℕ} → a < b → cond (ltb a b) t u ≡ t
  taken t u {a} {b} h = ap (λ x. cond x t u) (lt-ltb a b h)

  passed : (t u : Element) {a b : ℕ} → b ≤ a → cond (ltb a b) t u ≡ u
  passed t u {a} {b} h = ap (λ x. cond x t u) (le-ltb a b h)

  pub row_of-a : ρ < κ → row_product J X ρ ≡ of_A J X ρ
  unfolding row_product
  row_of-a h = taken _ _ h

  row_of-b : κ ≤ ρ → ρ < κ + κ₁ → row_product J X ρ ≡ of_B J X (ρ - κ)
  unfolding row_product
  row_of-b h h' = passed _ _ h ∙ taken _ _ h'

  row_of-c : κ + κ₁ ≤ ρ → ρ < κ + κ₁ + κ₁ → row_product J X ρ ≡ of_C J X (ρ - (κ + κ₁))
  unfolding row_product
  row_of-c h h' =
      let low : κ ≤ ρ = omega arith in
      passed _ _ low ∙ passed _ _ h ∙ taken _ _ h'

  row_of_d : κ + κ₁ + κ₁ ≤ ρ → row_product J X ρ ≡ of_D J X (ρ - (κ + κ₁ + κ₁))
  unfolding row_product
  row_of_d h =
      let low : κ ≤ ρ = omega arith in
      let mid : κ + κ₁ ≤ ρ = omega arith in
      passed _ _ low ∙ passed _ _ mid ∙ passed _ _ h

module _ (J X : List ℕ) (params : EnvironmentParameters) (s : Posed J X params) (ρ : ℕ) where
  -- the same by the parameters that the code holds
  pub a-row : ρ < params.kappa → of_A J X ρ ≡ row_product J X ρ
  a-row h = sym (row_of-a J X ρ (subst (λ Q. ρ < Q.κ) s.same h))

  pub b-row : params.kappa ≤ ρ → ρ < params.kappa + params.kappa_1 → of_B J X (ρ - params.kappa) ≡ row_product J X ρ
  b-row = subst (λ Q. Q.κ ≤ ρ → ρ < Q.κ + Q.κ₁ → of_B J X (ρ - Q.κ) ≡ row_product J X ρ) (sym s.same) (λ h h'. sym (row_of-b J X ρ h h'))

  pub c-row : params.kappa + params.kappa_1 ≤ ρ → ρ < params.kappa + params.kappa_1 + params.kappa_1 → of_C J X (ρ - (params.kappa + params.kappa_1)) ≡ row_product J X ρ
  c-row =
      subst (λ Q. Q.κ + Q.κ₁ ≤ ρ → ρ < Q.κ + Q.κ₁ + Q.κ₁ → of_C J X (ρ - (Q.κ + Q.κ₁)) ≡ row_product J X ρ) (sym s.same)
      (λ h h'. sym (row_of-c J X ρ h h'))

  pub d_row : params.kappa + params.kappa_1 + params.kappa_1 ≤ ρ → of_D J X (ρ - (params.kappa + params.kappa_1 + params.kappa_1)) ≡ row_product J X ρ
  d_row = subst (λ Q. Q.κ + Q.κ₁ + Q.κ₁ ≤ ρ → of_D J X (ρ - (Q.κ + Q.κ₁ + Q.κ₁)) ≡ row_product J X ρ) (sym s.same) (λ h. sym (row_of_d J X ρ h))
