-- What each step requires of the slices and what it stores, of the parameters and places that the code holds.
use mathlib.Core.Path.{◌≡◌, refl, sym, ap, subst, ◌∙◌}
use mathlib.Core.List.{List, ◌++◌}
use Prim.Native.Nat.{ℕ, ◌+◌, ◌*◌, ◌≤◌, ◌<◌, ◌^◌}
use native.Mathlib.Nat.{mul-le-mul}
use native.Mathlib.Omega.{arith}
use lib.ListN.{length}
use Rattle.math.specs.lists.Table.{cat}
use Rattle.math.specs.lists.Part.{splice}
use Rattle.math.proofs.lists.Splice.{splice-append}
use Rattle.spec_protocol.specs.Parameters.{Parameters, parameters, T, triangular}
use Rattle.spec_protocol.specs.Layout.{start, job_sections, randomness_sections}
use Rattle.spec_protocol.specs.Views.{public}
use Rattle.spec_protocol.specs.Formulas.{flat, rows, a'', φ''}
use Rattle.layout_regions.specs.declared.Regions.{Regions}
use Rattle.relation_env_params.specs.declared.env_params.EnvironmentParameters.{EnvironmentParameters}
use Rattle.relation_env_params.specs.Parameters.{parameters_of}
use Rattle.core_aggregate_psi.specs.Grid.{Grid, weighed}
use Rattle.core_aggregate.specs.Weighed.{both, rows_at, mixed_words, Aggregates}
use Rattle.core_aggregate.proofs.Grid.{row-run}
use Rattle.core_aggregate.proofs.Laws.{job_at, randomness_at}
use Rattle.core_workspace.specs.Ready.{Ready, Drawn}
use Rattle.core_workspace.specs.Holds.{Holds}
use Rattle.core_workspace.specs.Aggregated.{a''_words, φ''_words, φ_words, a_words}
use Rattle.core_workspace.proofs.Holds.{vectors_list-held, triangle_list-held}
use Rattle.core_workspace.proofs.Aggregated.{a''_symmetric, φ''_formula, a''_formula, φ_formula, a_formula}
use Rattle.core_workspace.proofs.Ready.{length-φ'', φ''-end, a''-end, φ-end, a-end, g_end, c-end, t-end, u-end, b''-end, a'-within, φ'-within, a-within, φ-within}
use Rattle.core_workspace.proofs.Ready.{Π-within, psi-within, omega-within, alpha-within, beta-within}

-- few cells
few_cells : (r : ℕ) → r ≤ 16 → triangular r ≤ 1024
few_cells r h = omega (arith, mul-le-mul h h)

-- what `aggregate` requires, of rows from a place of the job on and others from a place of the scratch on
abbrev Mixes : (J R S : List ℕ) (at place width K L alpha beta to : ℕ) → Type 0
Mixes J R S at place width K L alpha beta to = Aggregates J (rows_at at width K) R alpha beta S (rows_at place width L) width to

-- it holds by these bounds
aggregates : (J R S : List ℕ) (at place width K L alpha beta to : ℕ) → length R < 2 ^ 61 → width ≤ 1024 → K ≤ 64 → L ≤ 32 → at + 64 * (width * K) ≤ length J
    → alpha + 64 * K ≤ length R → beta + 64 * L ≤ length R → place + 64 * (width * L) ≤ to → to + 64 * width ≤ length S → Mixes J R S at place width K L alpha beta to
aggregates J R S at place width K L alpha beta to short w k l a x y f t = (
  (record { within = a; narrow = omega arith; few = omega arith }, refl),
  row-run R alpha K x (omega arith) short,
  row-run R beta L y (omega arith) short,
  (record { within = omega arith; narrow = omega arith; few = omega arith }, refl),
  f,
  t,
)

-- what `core_aggregate::phi_double_prime` stores
abbrev φ''_of : (J R : List ℕ) → Parameters → (at pi psi om : ℕ) → List ℕ
φ''_of J R Q at pi psi om = flat (cat Q.L (λ k. rows Q.r Q.n (both J at Q.r Q.n Q.l R pi (psi + k * Q.l) (om + k * 256))))

-- what `core_aggregate::a_double_prime` stores
abbrev a''_of : (J R : List ℕ) → Parameters → (cells at psi : ℕ) → List ℕ
a''_of J R Q cells at psi = flat (rows Q.L cells (λ k. weighed J at cells Q.l R (psi + k * Q.l)))

-- what `core_aggregate::aggregate` stores
abbrev sum_of : (J R S : List ℕ) → Parameters → (width at alpha beta place : ℕ) → List ℕ
sum_of J R S Q width at alpha beta place = mixed_words J (rows_at at width Q.K) R alpha beta S (rows_at place width Q.L) width

module _ (J R S : List ℕ) (params : EnvironmentParameters) (regions : Regions) (h : Ready J params regions S) where
  abbrev P : Parameters
  P = parameters J

  -- a place in the job by the job's own parameters
  in_job : (m at : ℕ) → at ≡ 31 + start (job_sections (parameters_of params)) m → at ≡ job_at J m
  in_job m at e = e ∙ ap (λ Q. 31 + start (job_sections Q) m) h.same

  -- a place in the randomness
  in_randomness : (m at : ℕ) → at ≡ start (randomness_sections (parameters_of params)) m → at ≡ randomness_at J m
  in_randomness m at e = e ∙ ap (λ Q. start (randomness_sections Q) m) h.same

  -- the cells of a triangle
  in_cells : (cells : ℕ) → cells ≡ triangular params.multiplicity → cells ≡ T P
  in_cells cells e = e ∙ ap T h.same

  -- what `phi_double_prime` requires
  pub φ''_requires : (at pi psi om : ℕ) → Drawn 3 J R → at ≡ 31 + start (job_sections (parameters_of params)) 1 → pi ≡ start (randomness_sections (parameters_of params)) 0
      → psi ≡ start (randomness_sections (parameters_of params)) 1 → om ≡ start (randomness_sections (parameters_of params)) 2
      → Grid J at (params.multiplicity * params.rank) params.constraint_l
      × (pi + params.multiplicity * 256 * (64 * params.rank) ≤ length R)
      × (psi + params.const_agg_length * params.constraint_l ≤ length R)
      × (om + params.const_agg_length * 256 ≤ length R)
      × (regions.phi2 + 64 * (params.const_agg_length * (params.multiplicity * params.rank)) ≤ length S)
      × (params.multiplicity ≤ 64)
      × (params.rank ≤ 64)
  φ''_requires at pi psi om d a b c e =
      let w = h.sound.within in
      subst
      (λ Q. Grid J at (Q.r * Q.n) Q.l × (pi + Q.r * 256 * (64 * Q.n) ≤ length R) × (psi + Q.L * Q.l ≤ length R) × (om + Q.L * 256 ≤ length R)
      × (regions.phi2 + 64 * (Q.L * (Q.r * Q.n)) ≤ length S) × (Q.r ≤ 64) × (Q.n ≤ 64))
      (sym h.same) (
        record {
          within = omega (arith, in_job 1 at a, φ'-within J params regions S h);
          narrow = omega (arith, mul-le-mul w.r.1 w.n.1);
          few = omega (arith, w.l.1);
        },
        omega (arith, in_randomness 0 pi b, Π-within 3 J R d (omega arith)),
        omega (arith, in_randomness 1 psi c, psi-within 3 J R d (omega arith)),
        omega (arith, in_randomness 2 om e, omega-within 3 J R d (omega arith)),
        omega (
          arith,
          φ''-end J params regions S h,
          a''-end J params regions S h,
          φ-end J params regions S h,
          a-end J params regions S h,
          g_end J params regions S h,
          c-end
              J params regions S h,
          t-end J params regions S h,
          u-end J params regions S h,
          b''-end J params regions S h,
        ),
        omega (arith, w.r.1),
        w.n.1,
      )

  -- and what it stores
  pub φ''-made : (at pi psi om : ℕ) → at ≡ 31 + start (job_sections (parameters_of params)) 1 → pi ≡ start (randomness_sections (parameters_of params)) 0
      → psi ≡ start (randomness_sections (parameters_of params)) 1 → om ≡ start (randomness_sections (parameters_of params)) 2
      → φ''_of J R (parameters_of params) at pi psi om ≡ φ''_words J R
  φ''-made at pi psi om a b c e =
      ap (λ Q. φ''_of J R Q at pi psi om) h.same
      ∙ ap (λ x. φ''_of J R P x pi psi om) (in_job 1 at a)
      ∙ ap (λ x. φ''_of J R P (job_at J 1) x psi om) (in_randomness 0 pi b)
      ∙ ap (λ x. φ''_of J R P (job_at J 1) (randomness_at J 0) x om) (in_randomness 1 psi c)
      ∙ ap (λ x. φ''_of J R P (job_at J 1) (randomness_at J 0) (randomness_at J 1) x) (in_randomness 2 om e)
      ∙ φ''_formula J R

  -- what `a_double_prime` requires
  pub a''_requires : (cells at psi : ℕ) → Drawn 2 J R → cells ≡ triangular params.multiplicity → at ≡ 31 + start (job_sections (parameters_of params)) 0
      → psi ≡ start (randomness_sections (parameters_of params)) 1
      → Grid J at cells params.constraint_l × (psi + params.const_agg_length * params.constraint_l ≤ length R) × (regions.a2 + 64 * (params.const_agg_length * cells) ≤ length S)
  a''_requires cells at psi d t a b =
      let w = h.sound.within in
      subst (λ n. Grid J at n params.constraint_l × (psi + params.const_agg_length * params.constraint_l ≤ length R) × (regions.a2 + 64 * (params.const_agg_length * n) ≤ length S))
      (sym (in_cells cells t))
      (subst (λ Q. Grid J at (T P) Q.l × (psi + Q.L * Q.l ≤ length R) × (regions.a2 + 64 * (Q.L * T P) ≤ length S)) (sym h.same) (
        record {
          within = omega (arith, in_job 0 at a, a'-within J params regions S h);
          narrow = omega (arith, few_cells P.r w.r.1);
          few = omega (arith, w.l.1);
        },
        omega (arith, in_randomness 1 psi b, psi-within 2 J R d (omega arith)),
        omega (
          arith,
          a''-end J params regions S h,
          φ-end J params regions S h,
          a-end J params regions S h,
          g_end J params regions S h,
          c-end J params regions S h,
          t-end J
              params regions S h,
          u-end J params regions S h,
          b''-end J params regions S h,
        ),
      ))

  -- and what it stores
  pub a''-made : (cells at psi : ℕ) → cells ≡ triangular params.multiplicity → at ≡ 31 + start (job_sections (parameters_of params)) 0 → psi ≡ start (randomness_sections (parameters_of params)) 1
      → a''_of J R (parameters_of params) cells at psi ≡ a''_words J R
  a''-made cells at psi t a b =
      ap (λ Q. a''_of J R Q cells at psi) h.same
      ∙ ap (λ x. a''_of J R P x at psi) (in_cells cells t)
      ∙ ap (λ x. a''_of J R P (T P) x psi) (in_job 0 at a)
      ∙ ap (λ x. a''_of J R P (T P) (job_at J 0) x) (in_randomness 1 psi b)
      ∙ a''_formula J R

  -- φ'' and a'', stored one after the other
  pub double_prime_made : (S' S'' : List ℕ) → S' ≡ splice S regions.phi2 (φ''_words J R) → S'' ≡ splice S' regions.a2 (a''_words J R) → S'' ≡ splice S 0 (φ''_words J R ++ a''_words J R)
  double_prime_made S' S'' e f =
      let place : regions.a2 ≡ 0 + length (φ''_words J R) = omega (arith, length-φ'' J R, h.laid.first, h.laid.a2) in
      f
      ∙ ap (λ l. splice l regions.a2 (a''_words J R)) (e ∙ ap (λ x. splice S x (φ''_words J R)) h.laid.first)
      ∙ ap (λ x. splice (splice S 0 (φ''_words J R)) x (a''_words J R)) place
      ∙ splice-append S 0 (φ''_words J R) (a''_words J R)

  -- what `aggregate` requires for φ
  pub φ_requires : (at alpha beta : ℕ) → Drawn 5 J R → length R < 2 ^ 61 → at ≡ 31 + start (job_sections (parameters_of params)) 4
      → alpha ≡ start (randomness_sections (parameters_of params)) 3 → beta ≡ start (randomness_sections (parameters_of params)) 4
      → Mixes J R S at regions.phi2 (params.multiplicity * params.rank) params.constraint_k params.const_agg_length alpha beta regions.phi
  φ_requires at alpha beta d short a b c =
      let w = h.sound.within in
      subst (λ Q. Mixes J R S at regions.phi2 (Q.r * Q.n) Q.K Q.L alpha beta regions.phi) (sym h.same)
      (aggregates J R S at regions.phi2 (P.r * P.n) P.K P.L alpha beta regions.phi short
      (mul-le-mul w.r.1 w.n.1)
      w.K.1
      h.sound.within.L.1
      (omega (arith, in_job 4 at a, φ-within J params regions S h))
      (omega (arith, in_randomness 3 alpha b, alpha-within 5 J R d (omega arith)))
      (omega (arith, in_randomness 4 beta c, beta-within 5 J R d (omega arith)))
      (omega (arith, φ''-end J params regions S h, a''-end J params regions S h))
      (omega (
        arith,
        φ-end J params regions S h,
        a-end J params regions S h,
        g_end J params regions S h,
        c-end J params regions S h,
        t-end J params regions S h,
        u-end J
            params regions S h,
        b''-end J params regions S h,
      )))

  -- and what it stores
  pub φ-made : (at alpha beta : ℕ) → Holds S regions.phi2 (φ''_words J R) → at ≡ 31 + start (job_sections (parameters_of params)) 4
      → alpha ≡ start (randomness_sections (parameters_of params)) 3 → beta ≡ start (randomness_sections (parameters_of params)) 4
      → sum_of J R S (parameters_of params) (params.multiplicity * params.rank) at alpha beta regions.phi2 ≡ φ_words J R
  φ-made at alpha beta holds a b c =
      ap (λ Q. sum_of J R S Q (Q.r * Q.n) at alpha beta regions.phi2) h.same
      ∙ ap (λ x. sum_of J R S P (P.r * P.n) x alpha beta regions.phi2) (in_job 4 at a)
      ∙ ap (λ x. sum_of J R S P (P.r * P.n) (job_at J 4) x beta regions.phi2) (in_randomness 3 alpha b)
      ∙ ap (λ x. sum_of J R S P (P.r * P.n) (job_at J 4) (randomness_at J 3) x regions.phi2) (in_randomness 4 beta c)
      ∙ φ_formula J R S regions.phi2 (vectors_list-held S regions.phi2 P.L P.r P.n (φ'' (public J R)) holds)

  -- what `aggregate` requires for a
  pub a_requires : (cells at alpha beta : ℕ) → Drawn 5 J R → length R < 2 ^ 61 → cells ≡ triangular params.multiplicity → at ≡ 31 + start (job_sections (parameters_of params)) 3
      → alpha ≡ start (randomness_sections (parameters_of params)) 3 → beta ≡ start (randomness_sections (parameters_of params)) 4
      → Mixes J R S at regions.a2 cells params.constraint_k params.const_agg_length alpha beta regions.a_or_h
  a_requires cells at alpha beta d short t a b c =
      let w = h.sound.within in
      subst (λ n. Mixes J R S at regions.a2 n params.constraint_k params.const_agg_length alpha beta regions.a_or_h) (sym (in_cells cells t))
      (subst (λ Q. Mixes J R S at regions.a2 (T P) Q.K Q.L alpha beta regions.a_or_h) (sym h.same)
      (aggregates J R S at regions.a2 (T P) P.K P.L alpha beta regions.a_or_h short
      (few_cells P.r w.r.1)
      w.K.1
      h.sound.within.L.1
      (omega (arith, in_job 3 at a, a-within J params regions S h))
      (omega (arith, in_randomness 3 alpha b, alpha-within 5 J R d (omega arith)))
      (omega (arith, in_randomness 4 beta c, beta-within 5 J R d (omega arith)))
      (omega (arith, a''-end J params regions S h, φ-end J params regions S h))
      (omega (arith, a-end J params regions S h, g_end J params regions S h, c-end J params regions S h, t-end J params regions S h, u-end J params regions S h, b''-end J params regions S h))))

  -- and what it stores
  pub a-made : (cells at alpha beta : ℕ) → Holds S regions.a2 (a''_words J R) → cells ≡ triangular params.multiplicity → at ≡ 31 + start (job_sections (parameters_of params)) 3
      → alpha ≡ start (randomness_sections (parameters_of params)) 3 → beta ≡ start (randomness_sections (parameters_of params)) 4
      → sum_of J R S (parameters_of params) cells at alpha beta regions.a2 ≡ a_words J R
  a-made cells at alpha beta holds t a b c =
      ap (λ Q. sum_of J R S Q cells at alpha beta regions.a2) h.same
      ∙ ap (λ x. sum_of J R S P x at alpha beta regions.a2) (in_cells cells t)
      ∙ ap (λ x. sum_of J R S P (T P) x alpha beta regions.a2) (in_job 3 at a)
      ∙ ap (λ x. sum_of J R S P (T P) (job_at J 3) x beta regions.a2) (in_randomness 3 alpha b)
      ∙ ap (λ x. sum_of J R S P (T P) (job_at J 3) (randomness_at J 3) x regions.a2) (in_randomness 4 beta c)
      ∙ a_formula J R S regions.a2 (triangle_list-held S regions.a2 P.L P.r (a'' (public J R)) (a''_symmetric J R) holds)
