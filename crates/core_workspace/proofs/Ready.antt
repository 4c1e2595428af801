-- What a ready call's parameters, slices and regions are: sizes, places and bounds.
use mathlib.Core.Path.{◌≡◌, sym, ap, subst, ◌∙◌}
use mathlib.Core.List.{List}
use Prim.Native.Nat.{ℕ, ◌+◌, ◌*◌, ◌≤◌, ◌<◌}
use native.Mathlib.Omega.{arith}
use lib.ListN.{length}
use Rattle.math.proofs.lists.Table.{length-table}
use Rattle.spec_protocol.specs.Parameters.{parameters, T}
use Rattle.spec_protocol.specs.Layout.{start, randomness_sections, scratch_need}
use Rattle.spec_protocol.specs.Views.{public}
use Rattle.spec_protocol.specs.Formulas.{rows, triangle, a'', φ'', a_sum, φ_sum}
use Rattle.math.specs.lists.Table.{table, cat}
use Rattle.spec_protocol.proofs.Flat.{length-flat, length-rows, length-triangle}
use Rattle.spec_protocol.proofs.Region.{length-lists}
use Rattle.layout_regions.specs.declared.Regions.{Regions}
use Rattle.layout_regions.proofs.Need.{regions_fit}
use Rattle.relation_env_params.specs.declared.env_params.EnvironmentParameters.{EnvironmentParameters}
use Rattle.relation_env_params.specs.Parameters.{parameters_of}
use Rattle.layout_sizes.specs.Sizes.{Sized}
use Rattle.layout_sizes.proofs.Sized.{sized}
use Rattle.core_aggregate.proofs.Laws.{job_at, randomness_at}
use Rattle.core_workspace.specs.Ready.{Ready, Drawn, Challengeable}
use Rattle.core_workspace.specs.Aggregated.{a''_words, φ''_words, φ_words, a_words, c_words, challenge_words}

-- the first sections of those that lie within the randomness
pub drawn_fewer : (k m : ℕ) (J R : List ℕ) → m ≤ k → Drawn k J R → Drawn m J R
drawn_fewer k m J R h d i l = d i (omega arith)

-- how many words the regions have
module _ (J R : List ℕ) where
  -- φ''
  pub length-φ'' : length (φ''_words J R) ≡ 64 * ((parameters J).L * ((parameters J).r * (parameters J).n))
  length-φ'' =
      let P = parameters J in
      length-flat (cat P.L (λ k. rows P.r P.n (φ'' (public J R) k)))
      ∙ ap (λ n. 64 * n) (length-lists P.L (P.r * P.n) (λ k. rows P.r P.n (φ'' (public J R) k)) (λ k. length-rows P.r (φ'' (public J R) k) P.n))

  -- a''
  pub length-a'' : length (a''_words J R) ≡ 64 * ((parameters J).L * T (parameters J))
  length-a'' =
      let P = parameters J in
      length-flat (cat P.L (λ k. triangle P.r (a'' (public J R) k)))
      ∙ ap (λ n. 64 * n) (length-lists P.L (T P) (λ k. triangle P.r (a'' (public J R) k)) (λ k. length-triangle P.r (a'' (public J R) k)))

  -- φ
  pub length-φ : length (φ_words J R) ≡ 64 * ((parameters J).r * (parameters J).n)
  length-φ =
      let P = parameters J in
      length-flat (rows P.r P.n (φ_sum (public J R))) ∙ ap (λ n. 64 * n) (length-rows P.r (φ_sum (public J R)) P.n)

  -- a
  pub length-a : length (a_words J R) ≡ 64 * T (parameters J)
  length-a =
      let P = parameters J in
      length-flat (triangle P.r (a_sum (public J R))) ∙ ap (λ n. 64 * n) (length-triangle P.r (a_sum (public J R)))

  -- the challenges
  pub length-c : length (c_words J R) ≡ 64 * (parameters J).r
  length-c = length-flat (table (parameters J).r (public J R).c) ∙ ap (λ n. 64 * n) (length-table (parameters J).r (public J R).c)

module _ (J : List ℕ) (params : EnvironmentParameters) (regions : Regions) (S : List ℕ) (h : Ready J params regions S) where
  -- the parameters can be reckoned with
  pub ready-sized : Sized (parameters_of params)
  ready-sized = sized J (parameters_of params) h.sound h.same

  -- with a scratch of the same length
  pub ready-changed : (S' : List ℕ) → length S' ≡ length S → Ready J params regions S'
  ready-changed S' e = record { same = h.same; sound = h.sound; job = h.job; laid = h.laid; room = omega (arith, h.room) }

  -- the last region ends within the length needed
  pub regions_end : regions.b2 + 64 * 32 ≤ scratch_need (parameters J)
  regions_end = regions_fit (parameters J) regions h.sound.within.n.0 h.laid

  -- φ'' ends where a'' starts
  pub φ''-end : regions.phi2 + 64 * ((parameters J).L * ((parameters J).r * (parameters J).n)) ≤ regions.a2
  φ''-end = omega (arith, h.laid.a2)

  -- a'' where φ does
  pub a''-end : regions.a2 + 64 * ((parameters J).L * T (parameters J)) ≤ regions.phi
  a''-end = omega (arith, h.laid.phi)

  -- φ where a does
  pub φ-end : regions.phi + 64 * ((parameters J).r * (parameters J).n) ≤ regions.a_or_h
  φ-end = omega (arith, h.laid.a_or_h)

  -- a where g does
  pub a-end : regions.a_or_h + 64 * T (parameters J) ≤ regions.g
  a-end = omega (arith, h.laid.g)

  -- g where the challenges do
  pub g_end : regions.g + 64 * T (parameters J) ≤ regions.challenges
  g_end = omega (arith, h.laid.challenges)

  -- the challenges where t does
  pub c-end : regions.challenges + 64 * (parameters J).r ≤ regions.t
  c-end = omega (arith, h.laid.t)

  -- t where u does
  pub t-end : regions.t + 64 * ((parameters J).r * (parameters J).κ) ≤ regions.u
  t-end = omega (arith, h.laid.u)

  -- u where b'' does
  pub u-end : regions.u + 64 * 16 ≤ regions.b2
  u-end = omega (arith, h.laid.b2)

  -- b'' within the scratch
  pub b''-end : regions.b2 + 64 * 32 ≤ length S
  b''-end = omega (arith, regions_end, h.room)

  -- a' lies within the job
  pub a'-within : job_at J 0 + 64 * ((parameters J).l * T (parameters J)) ≤ length J
  a'-within = h.job.inside 0 (omega arith)

  -- φ'
  pub φ'-within : job_at J 1 + 64 * ((parameters J).l * (parameters J).r * (parameters J).n) ≤ length J
  φ'-within = h.job.inside 1 (omega arith)

  -- a of the ring constraints
  pub a-within : job_at J 3 + 64 * ((parameters J).K * T (parameters J)) ≤ length J
  a-within = h.job.inside 3 (omega arith)

  -- φ of the ring constraints
  pub φ-within : job_at J 4 + 64 * ((parameters J).K * (parameters J).r * (parameters J).n) ≤ length J
  φ-within = h.job.inside 4 (omega arith)

  -- b of the ring constraints
  pub b-within : job_at J 5 + 64 * (parameters J).K ≤ length J
  b-within = h.job.inside 5 (omega arith)

  -- A
  pub A-within : job_at J 6 + 64 * ((parameters J).κ * (parameters J).n) ≤ length J
  A-within = h.job.inside 6 (omega arith)

  -- B
  pub B-within : job_at J 7 + 64 * ((parameters J).κ₁ * ((parameters J).r * (parameters J).κ * (parameters J).t₁)) ≤ length J
  B-within = h.job.inside 7 (omega arith)

  -- C
  pub C-within : job_at J 8 + 64 * ((parameters J).κ₁ * (T (parameters J) * (parameters J).t₂)) ≤ length J
  C-within = h.job.inside 8 (omega arith)

  -- D
  pub D-within : job_at J 9 + 64 * ((parameters J).κ₂ * (T (parameters J) * (parameters J).t₁)) ≤ length J
  D-within = h.job.inside 9 (omega arith)

-- of the randomness's sections that are drawn
module _ (m : ℕ) (J R : List ℕ) (d : Drawn m J R) where
  -- the projection words lie within the randomness
  pub Π-within : 0 < m → randomness_at J 0 + 16384 * (parameters J).n * (parameters J).r ≤ length R
  Π-within h = d 0 h

  -- psi
  pub psi-within : 1 < m → randomness_at J 1 + (parameters J).L * (parameters J).l ≤ length R
  psi-within h = d 1 h

  -- omega
  pub omega-within : 2 < m → randomness_at J 2 + (parameters J).L * 256 ≤ length R
  omega-within h = d 2 h

  -- alpha
  pub alpha-within : 3 < m → randomness_at J 3 + 64 * (parameters J).K ≤ length R
  alpha-within h = d 3 h

  -- beta
  pub beta-within : 4 < m → randomness_at J 4 + 64 * (parameters J).L ≤ length R
  beta-within h = d 4 h

  -- the sign words
  pub signs-within : 5 < m → randomness_at J 5 + 41 * (parameters J).r ≤ length R
  signs-within h = d 5 h

  -- the shuffle words
  pub shuffle-within : 6 < m → randomness_at J 6 + 63 * (parameters J).r ≤ length R
  shuffle-within h = d 6 h

-- the challenges of a scratch that is ready
module _ (J R S : List ℕ) (params : EnvironmentParameters) (regions : Regions) (h : Ready J params regions S) where
  -- what `generate_challenges` requires
  pub c_requires : Drawn 7 J R → Challengeable R params regions S
  c_requires d =
      let placed : (start (randomness_sections (parameters_of params)) 5 + 41 * params.multiplicity ≤ length R)
      × (start (randomness_sections (parameters_of params)) 6 + 63 * params.multiplicity ≤ length R)
      × (regions.challenges + 64 * params.multiplicity ≤ length S) =
      subst (λ Q. (start (randomness_sections Q) 5 + 41 * Q.r ≤ length R) × (start (randomness_sections Q) 6 + 63 * Q.r ≤ length R) × (regions.challenges + 64 * Q.r ≤ length S)) (sym h.same) (
        signs-within 7 J R d (omega arith),
        shuffle-within 7 J R d (omega arith),
        omega (arith, c-end J params regions S h, t-end J params regions S h, u-end J params regions S h, b''-end J params regions S h),
      ) in
      record { sized = ready-sized J params regions S h; signs = placed.0; shuffle = placed.1; room = placed.2 }

  -- and what it stores
  pub c-made : challenge_words (parameters_of params) R ≡ c_words J R
  c-made = ap (λ Q. challenge_words Q R) h.same

-- what each step needs to find a section: the parameters can be reckoned with
pub ruleset sizes = ready-sized
