-- The words of the sections, made of what stands in the scratch, are those of the formulas.
use mathlib.Core.Path.{◌≡◌, sym, ap, subst, ◌∙◌}
use mathlib.Core.List.{List, []}
use Prim.Native.Nat.{ℕ, ◌+◌, ◌*◌}
use lib.ListN.{length}
use Rattle.math.specs.lists.Table.{table}
use Rattle.math.specs.lists.Part.{part}
use Rattle.spec_protocol.specs.Parameters.{Parameters, parameters, T}
use Rattle.spec_protocol.specs.Layout.{start, job_sections, randomness_sections}
use Rattle.spec_protocol.specs.Views.{public}
use Rattle.spec_protocol.specs.Formulas as F
use Rattle.spec_protocol.specs.Formulas.{◌⊕◌, flat, times}
use Rattle.spec_protocol.proofs.ReadBack.{g_symmetric, h_symmetric}
use Rattle.ring_challenge_products.specs.Powers.{AllSparse}
use Rattle.ring_rq_matrix.specs.Region.{vector}
use Rattle.commitments_outer.specs.Cells.{digits_at}
use Rattle.commitments_outer.proofs.Formula.{digits, u₁_is, u₂_is}
use Rattle.core_jl.proofs.Formula.{run_is-p}
use Rattle.transcript_challenges.proofs.Formula.{challenges-sparse, z_formula}
use Rattle.layout_regions.specs.declared.Regions.{Regions}
use Rattle.relation_env_params.specs.declared.env_params.EnvironmentParameters.{EnvironmentParameters}
use Rattle.relation_env_params.specs.Parameters.{parameters_of}
use Rattle.core_workspace.specs.Holds.{Holds}
use Rattle.core_workspace.specs.Aggregated.{c_words}
use Rattle.core_workspace.proofs.Holds.{elements_held, vectors-held, triangle-held}
use Rattle.prover_commit.specs.Words.{statement, X, s, u₁_words, p_words, b''_words, u₂_words, z_words, t_words, g_words, h_words}
use Rattle.prover_commit.specs.Work.{Committed}
use Rattle.prover_commit.proofs.Lengths.{length-t, length-g, length-b'', length-h}
use Rattle.prover_p_and_b.specs.Sections.{p_in, b''_in}
use Rattle.prover_sections.specs.Sections.{u₁_in, u₂_in, z_in, t_in, g_in, h_in}

-- B times the digits of t and C times those of g, from the places of the matrices and so many cells of g
abbrev u₁_at : Parameters → Regions → List ℕ → List ℕ → ℕ → ℕ → ℕ → List ℕ
u₁_at P regions S J b_at c-at cells =
    flat
    (table P.κ₁
    (λ k.
    times (vector J b_at (P.r * P.κ * P.t₁)) (digits_at S (digits regions.t (P.r * P.κ) P.t₁) P.b) k
    ⊕ times (vector J c-at (cells * P.t₂)) (digits_at S (digits regions.g cells P.t₂) P.b) k))

pub u₁-stored : (P : Parameters) (regions : Regions) (S J : List ℕ) (b_at c-at cells : ℕ) → b_at ≡ 31 + start (job_sections P) 7 → c-at ≡ 31 + start (job_sections P) 8 → cells ≡ T P
    → u₁_at P regions S J b_at c-at cells ≡ u₁_in P regions S J
u₁-stored P regions S J b_at c-at cells e f g =
    ap (λ a. u₁_at P regions S J a c-at cells) e
    ∙ ap (λ a. u₁_at P regions S J (31 + start (job_sections P) 7) a cells) f
    ∙ ap (u₁_at P regions S J (31 + start (job_sections P) 7) (31 + start (job_sections P) 8)) g

-- D times the digits of h
abbrev u₂_at : Parameters → Regions → List ℕ → List ℕ → ℕ → ℕ → List ℕ
u₂_at P regions S J d-at cells = flat (table P.κ₂ (times (vector J d-at (cells * P.t₁)) (digits_at S (digits regions.a_or_h cells P.t₁) P.b)))

pub u₂-stored : (P : Parameters) (regions : Regions) (S J : List ℕ) (d-at cells : ℕ) → d-at ≡ 31 + start (job_sections P) 9 → cells ≡ T P → u₂_at P regions S J d-at cells ≡ u₂_in P regions S J
u₂-stored P regions S J d-at cells e f = ap (λ a. u₂_at P regions S J a cells) e ∙ ap (u₂_at P regions S J (31 + start (job_sections P) 9)) f

-- words that stand somewhere, taken by their number
taken : (S : List ℕ) (at n : ℕ) (ws : List ℕ) → length ws ≡ n → Holds S at ws → part S at n ≡ ws
taken S at n ws size held = ap (part S at) (sym size) ∙ held

module _ (J R W : List ℕ) (params : EnvironmentParameters) (regions : Regions) (S : List ℕ) (same : parameters_of params ≡ parameters J) where
  -- u1
  pub u₁-made : Committed J W regions S → u₁_in (parameters_of params) regions S J ≡ u₁_words J W
  unfolding F.u₁
  u₁-made held =
      ap (λ P. u₁_in P regions S J) same
      ∙ ap (λ f. flat (table (parameters J).κ₁ f))
      (u₁_is J [] S regions.t regions.g (F.t (statement J) (s J W)) (F.g (statement J) (s J W))
      (vectors-held S regions.t (parameters J).r (parameters J).κ (F.t (statement J) (s J W)) held.t)
      (triangle-held S regions.g (parameters J).r (F.g (statement J) (s J W)) (g_symmetric (statement J) (s J W)) held.g))

  -- u2
  pub u₂-made : Holds S regions.a_or_h (h_words J R W) → u₂_in (parameters_of params) regions S J ≡ u₂_words J R W
  unfolding F.u₂
  u₂-made held =
      ap (λ P. u₂_in P regions S J) same
      ∙ ap (λ f. flat (table (parameters J).κ₂ f))
      (u₂_is J R S regions.a_or_h (F.h (X J R) (s J W)) (triangle-held S regions.a_or_h (parameters J).r (F.h (X J R) (s J W)) (h_symmetric (X J R) (s J W)) held))

  -- p
  pub p-made : p_in (parameters_of params) R W ≡ p_words J R W
  unfolding start
  p-made = ap (λ P. p_in P R W) same ∙ run_is-p J R W

  -- the challenges have few coefficients
  pub c-sparse : Holds S regions.challenges (c_words J R) → AllSparse S regions.challenges params.multiplicity
  c-sparse held =
      subst (AllSparse S regions.challenges) (sym (ap (λ P. P.r) same))
      (challenges-sparse S regions.challenges (parameters J).r (λ i. part R (start (randomness_sections (parameters J)) 5 + 41 * i) 41)
      (λ i. part R (start (randomness_sections (parameters J)) 6 + 63 * i) 63) held)

  -- z
  pub z-made : Holds S regions.challenges (c_words J R) → z_in (parameters_of params) regions S W ≡ z_words J R W
  unfolding start
  z-made held = ap (λ P. z_in P regions S W) same ∙ ap flat (z_formula J R W S regions.challenges (elements_held S regions.challenges (parameters J).r (public J R).c held))

  -- b'', t, g and h
  pub b''-made : Holds S regions.b2 (b''_words J R W) → b''_in (parameters_of params) regions S ≡ b''_words J R W
  b''-made held = ap (λ P. b''_in P regions S) same ∙ taken S regions.b2 (64 * (parameters J).L) (b''_words J R W) (length-b'' J R W) held

  pub t_made : Committed J W regions S → t_in (parameters_of params) regions S ≡ t_words J W
  t_made held = ap (λ P. t_in P regions S) same ∙ taken S regions.t _ (t_words J W) (length-t J W) held.t

  pub g-made : Committed J W regions S → g_in (parameters_of params) regions S ≡ g_words J W
  g-made held = ap (λ P. g_in P regions S) same ∙ taken S regions.g _ (g_words J W) (length-g J W) held.g

  pub h-made : Holds S regions.a_or_h (h_words J R W) → h_in (parameters_of params) regions S ≡ h_words J R W
  h-made held = ap (λ P. h_in P regions S) same ∙ taken S regions.a_or_h _ (h_words J R W) (length-h J R W) held
