-- The norms and counts that `take` finds are those of the transcript's digits, and 14 to 16 follow from them.
use mathlib.Core.Path.{◌≡◌, refl, sym, ap, ap₂, ◌∙◌}
use mathlib.Core.List.{List, flat_map}
use Prim.Native.Nat.{ℕ, ◌+◌, ◌*◌}
use native.Mathlib.Omega.{arith}
use Rattle.math.specs.lists.Table.{table}
use Rattle.spec_leaves.specs.Answer.{refused, ◌then◌}
use Rattle.ring_inner_product.specs.Run.{run}
use Rattle.spec_protocol.specs.Parameters.{Parameters, triangular}
use Rattle.spec_protocol.specs.Layout.{start, transcript_sections}
use Rattle.spec_protocol.specs.Views.{message}
use Rattle.spec_protocol.specs.Formulas.{norm_of, two_parts, digits_of, count_left, t_digits, g_digits, h_digits}
use Rattle.spec_protocol.specs.Prover.{t_norm, g_norm, h_norm}
use Rattle.spec_protocol.proofs.CellsLeft.{counted_cells}
use Rattle.commitments_outer.proofs.Answers.{require-by}
use Rattle.commitments_outer.proofs.Formula.{vectors_cells, triangle_cells}
use Rattle.relation_env_params.specs.declared.env_params.EnvironmentParameters.{EnvironmentParameters}
use Rattle.relation_env_params.specs.Parameters.{parameters_of}
use Rattle.verifier_common.specs.Answers.{bare, cells_left, t_and_g_bounds, h_bound}
use Rattle.verifier_digits.specs.declared.SentDigits.{SentDigits}
use Rattle.verifier_digits.specs.Taken.{digit_norms, Taken, t_and_g_found, h_found}

-- four norms added one after the other
four : (s₃ s₂ s₁ z t g h z' t' g' h' : ℕ) → s₃ ≡ s₂ + h → s₂ ≡ s₁ + g → s₁ ≡ z + t → z ≡ z' → t ≡ t' → g ≡ g' → h ≡ h' → s₃ ≡ z' + t' + g' + h'
four s₃ s₂ s₁ z t g h z' t' g' h' a b c d e f i = omega arith

module _ (T : List ℕ) (params : EnvironmentParameters) where
  -- the norm of the two parts of z in the transcript
  z-norm : (at v : ℕ) → at ≡ start (transcript_sections (parameters_of params)) 4 → v ≡ norm_of (flat_map (two_parts params.b) (table params.rank (run T at 64)))
      → v ≡ norm_of (flat_map (two_parts (parameters_of params).b) (table (parameters_of params).n (message (parameters_of params) T).z))
  z-norm at v place e = e ∙ ap (λ at. norm_of (flat_map (two_parts params.b) (table params.rank (run T at 64)))) place

  -- of t's digits
  pub t_norm_is : (at v : ℕ) → at ≡ start (transcript_sections (parameters_of params)) 5
      → v ≡ norm_of (digits_of params.b params.t_1 (table (params.multiplicity * params.kappa) (run T at 64)))
      → v ≡ norm_of (t_digits (bare (parameters_of params)) (message (parameters_of params) T).t)
  t_norm_is at v place e =
      e
      ∙ ap (λ at. norm_of (digits_of params.b params.t_1 (table (params.multiplicity * params.kappa) (run T at 64)))) place
      ∙ ap (λ cells. norm_of (digits_of (parameters_of params).b (parameters_of params).t₁ cells))
      (vectors_cells T (start (transcript_sections (parameters_of params)) 5) (parameters_of params).r (parameters_of params).κ (message (parameters_of params) T).t (λ i k h l. refl))

  -- of g's
  pub g_norm_is : (at v cells : ℕ) → at ≡ start (transcript_sections (parameters_of params)) 6 → cells ≡ triangular params.multiplicity
      → v ≡ norm_of (digits_of params.b params.t_2 (table cells (run T at 64)))
      → v ≡ norm_of (g_digits (bare (parameters_of params)) (message (parameters_of params) T).g)
  g_norm_is at v cells place size e =
      e
      ∙ ap₂ (λ at cells. norm_of (digits_of params.b params.t_2 (table cells (run T at 64)))) place size
      ∙ ap (λ cells. norm_of (digits_of (parameters_of params).b (parameters_of params).t₂ cells))
      (triangle_cells T (start (transcript_sections (parameters_of params)) 6) (parameters_of params).r (message (parameters_of params) T).g (λ i j h l. refl))

  -- of h's
  pub h_norm_is : (at v cells : ℕ) → at ≡ start (transcript_sections (parameters_of params)) 7 → cells ≡ triangular params.multiplicity
      → v ≡ norm_of (digits_of params.b params.t_1 (table cells (run T at 64)))
      → v ≡ norm_of (h_digits (bare (parameters_of params)) (message (parameters_of params) T).h)
  h_norm_is at v cells place size e =
      e
      ∙ ap₂ (λ at cells. norm_of (digits_of params.b params.t_1 (table cells (run T at 64)))) place size
      ∙ ap (λ cells. norm_of (digits_of (parameters_of params).b (parameters_of params).t₁ cells))
      (triangle_cells T (start (transcript_sections (parameters_of params)) 7) (parameters_of params).r (message (parameters_of params) T).h (λ i j h l. refl))

  -- what the code finds of the four norms
  pub record Found (cells z_at t-at g-at h-at z t g h : ℕ) : Type 0 where
    pub size : cells ≡ triangular params.multiplicity
    pub z-place : z_at ≡ start (transcript_sections (parameters_of params)) 4
    pub t-place : t-at ≡ start (transcript_sections (parameters_of params)) 5
    pub g-place : g-at ≡ start (transcript_sections (parameters_of params)) 6
    pub h-place : h-at ≡ start (transcript_sections (parameters_of params)) 7
    pub z_is : z ≡ norm_of (flat_map (two_parts params.b) (table params.rank (run T z_at 64)))
    pub t_is : t ≡ norm_of (digits_of params.b params.t_1 (table (params.multiplicity * params.kappa) (run T t-at 64)))
    pub g_is : g ≡ norm_of (digits_of params.b params.t_2 (table cells (run T g-at 64)))
    pub h_is : h ≡ norm_of (digits_of params.b params.t_1 (table cells (run T h-at 64)))

  -- their sum, added one after the other
  pub sum_is : (cells z_at t-at g-at h-at z t g h : ℕ) → Found cells z_at t-at g-at h-at z t g h
      → (s₁ s₂ s₃ : ℕ) → s₁ ≡ z + t → s₂ ≡ s₁ + g → s₃ ≡ s₂ + h → s₃ ≡ digit_norms (parameters_of params) T
  sum_is cells z_at t-at g-at h-at z t g h f s₁ s₂ s₃ e₁ e₂ e₃ =
      four s₃ s₂ s₁ z t g h _ _ _ _ e₃ e₂ e₁
      (z-norm z_at z f.z-place f.z_is)
      (t_norm_is t-at t f.t-place f.t_is)
      (g_norm_is g-at g cells f.g-place f.size f.g_is)
      (h_norm_is h-at h cells f.h-place f.size f.h_is)

  -- the cells with something left, by the three numbers that the code counts
  pub cells_left_is : (cells t-at g-at h-at t g h : ℕ) → cells ≡ triangular params.multiplicity
      → t-at ≡ start (transcript_sections (parameters_of params)) 5 → g-at ≡ start (transcript_sections (parameters_of params)) 6 → h-at ≡ start (transcript_sections (parameters_of params)) 7
      → t ≡ count_left params.b params.t_1 (table (params.multiplicity * params.kappa) (run T t-at 64))
      → g ≡ count_left params.b params.t_2 (table cells (run T g-at 64))
      → h ≡ count_left params.b params.t_1 (table cells (run T h-at 64))
      → t + g + h ≡ cells_left (parameters_of params) T
  cells_left_is cells t-at g-at h-at t g h size t-place g-place h-place t_is g_is h_is =
      let P = parameters_of params in
      ap₂ ◌+◌
      (ap₂ ◌+◌
      (t_is
      ∙ ap (λ at. count_left P.b P.t₁ (table (P.r * P.κ) (run T at 64))) t-place
      ∙ ap (count_left P.b P.t₁) (vectors_cells T (start (transcript_sections P) 5) P.r P.κ (message P T).t (λ i k h l. refl)))
      (g_is
      ∙ ap₂ (λ at cells. count_left P.b P.t₂ (table cells (run T at 64))) g-place size
      ∙ ap (count_left P.b P.t₂) (triangle_cells T (start (transcript_sections P) 6) P.r (message P T).g (λ i j h l. refl))))
      (h_is
      ∙ ap₂ (λ at cells. count_left P.b P.t₁ (table cells (run T at 64))) h-place size
      ∙ ap (count_left P.b P.t₁) (triangle_cells T (start (transcript_sections P) 7) P.r (message P T).h (λ i j h l. refl)))
      ∙ sym (counted_cells (bare P) (message P T).t (message P T).g (message P T).h)

module _ (P : Parameters) (T : List ℕ) (d : SentDigits) (found : Taken P T d) where
  -- 14 and 15 are what is found of t and g
  pub t_and-g_is : t_and_g_found d ≡ t_and_g_bounds P T
  unfolding t_norm g_norm
  t_and-g_is = sym (ap₂ ◌then◌ (require-by _ P.bound_B (refused 14 0) d.t_within found.t) (require-by _ P.bound_C (refused 15 0) d.g_within found.g))

  -- 16 is what is found of h
  pub h_is : h_found d ≡ h_bound P T
  unfolding h_norm
  h_is = sym (require-by _ P.bound_D (refused 16 0) d.h_within found.h)
