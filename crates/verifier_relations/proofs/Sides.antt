-- The two sides of the checks 24 to 26, of the parameters and places that the code holds.
use mathlib.Core.Path.{◌≡◌, refl, sym, ap, ap₂, fun_ext, subst, ◌∙◌}
use mathlib.Core.Bool.{Bool, cond}
use mathlib.Core.List.{List, []}
use Prim.Native.Nat.{ℕ, ◌+◌, ◌*◌, ◌≤◌, ◌<◌, ◌^◌}
use native.Mathlib.Nat.{mul-le-mul}
use native.Mathlib.Omega.{arith}
use lib.ListN.{length}
use Rattle.spec_leaves.specs.Answer.{Answer, fine, failed}
use Rattle.spec_leaves.specs.Rq.{Element, radd}
use Rattle.spec_leaves.specs.Ring.{RqOps, words, element}
use Rattle.math.specs.lists.Part.{part}
use Rattle.math.proofs.algebra.Sum.{sum_ext}
use Rattle.math.proofs.algebra.Dot.{dot_ext}
use Rattle.ring_inner_product.specs.Run.{Run, run, further}
use Rattle.spec_protocol.specs.Checks.{require, first}
use Rattle.spec_protocol.specs.Parameters.{Parameters, parameters, triangular}
use Rattle.spec_protocol.specs.Layout.{start, job_sections, randomness_sections}
use Rattle.spec_protocol.specs.Region.{Elements}
use Rattle.spec_protocol.specs.Views.{public, message}
use Rattle.spec_protocol.specs.Formulas.{◌⊗◌, sum, dot, pairs, φ_sum, φ''}
use Rattle.spec_protocol.specs.Verifier.{same, twice, check_24, check_25, check_26}
use Rattle.ring_rq_matrix.specs.Region.{vector, triangle_at}
use Rattle.ring_rq_matrix.proofs.Place.{rows-within}
use Rattle.ring_rq_matrix.proofs.Word.{stands_for, words_of-sum, words_of-vector}
use Rattle.ring_rq_matrix.proofs.Formula.{sum-of_t, sum-of_g, sum-of_h, sum_of-φ}
use Rattle.transcript_challenges.proofs.Formula.{challenges-sparse}
use Rattle.core_aggregate.specs.Weighed.{mixed, rows_at}
use Rattle.core_aggregate.proofs.Grid.{row-run}
use Rattle.core_aggregate.proofs.Laws.{job_at, randomness_at, φ_sum_is}
use Rattle.ring_challenge_products.specs.Powers.{AllSparse}
use Rattle.core_challenge_sums.specs.Lines as Sums
use Rattle.core_challenge_sums.specs.Lines.{LinesRoom}
use Rattle.layout_regions.specs.declared.Regions.{Regions}
use Rattle.relation_env_params.specs.declared.env_params.EnvironmentParameters.{EnvironmentParameters}
use Rattle.relation_env_params.specs.Parameters.{parameters_of}
use Rattle.core_workspace.specs.Ready.{Ready, Drawn}
use Rattle.core_workspace.specs.Holds.{Holds}
use Rattle.core_workspace.specs.Aggregated.{φ_words, φ''_words, c_words}
use Rattle.core_workspace.proofs.Holds.{elements_held, vectors-held, vectors_list-held}
use Rattle.core_workspace.proofs.Steps.{φ_requires}
use Rattle.core_workspace.proofs.Ready.{φ-end, a-end, g_end, c-end, t-end, u-end, b''-end, A-within}
use Rattle.verifier_common.specs.Answers.{az, z_inner, phi}
use Rattle.verifier_common.specs.Work.{Received, Posed, equal}
use Rattle.verifier_relations.specs.Weighed.{challenges_in, ChallengesWithin, LinesWithin, az_of, z_inner_of, phi_of, φ_lines}
use Rattle.verifier_common.proofs.Runs.{require-equal}
use Rattle.verifier_common.proofs.Verdicts.{first-failed}
use Rattle.verifier_common.proofs.Sent.{transcript_at, reckoned, received, placed, z-within, z-run, t_within}

-- check 24 for row k, of challenges c
abbrev pub az_test : (J X : List ℕ) → (ℕ → Element) → ℕ → Answer
az_test J X c k =
    let P = parameters J in
    let M = message P X in
    require (same (dot P.n ((public J []).A k) M.z) (sum P.r (λ i. M.t i k ⊗ c i))) (failed 24 [])

-- 24, of a job and a transcript
module _ (J X : List ℕ) (params : EnvironmentParameters) (regions : Regions) (S : List ℕ) (s : Posed J X params) (ready : Ready J params regions S) where
  -- the challenges lie within the scratch
  pub c-within : ChallengesWithin params regions S
  c-within =
      placed J X params s S (λ Q. regions.challenges) (λ Q. Q.r) regions.challenges refl
      (omega (arith, c-end J params regions S ready, t-end J params regions S ready, u-end J params regions S ready, b''-end J params regions S ready))

  -- so does φ
  pub φ-within : LinesWithin params regions S
  φ-within =
      placed J X params s S (λ Q. regions.phi) (λ Q. Q.r * Q.n) regions.phi refl
      (omega (
        arith,
        φ-end J params regions S ready,
        a-end J params regions S ready,
        g_end J params regions S ready,
        c-end J params regions S ready,
        t-end J params regions
            S ready,
        u-end J params regions S ready,
        b''-end J params regions S ready,
      ))

  -- the challenges have few coefficients
  sparse : (R : List ℕ) → Holds S regions.challenges (c_words J R) → AllSparse S regions.challenges (parameters J).r
  sparse R holds =
      challenges-sparse S regions.challenges (parameters J).r (λ i. part R (randomness_at J 5 + 41 * i) 41) (λ i. part R (randomness_at J 6 + 63 * i) 63) holds

  -- what `core_challenge_sums::sum_of_lines` requires
  pub constraints_require : (R : List ℕ) (at alpha beta z_at : ℕ) → Drawn 5 J R → Holds S regions.challenges (c_words J R) → length R < 2 ^ 61
      → at ≡ 31 + start (job_sections (parameters_of params)) 4 → alpha ≡ start (randomness_sections (parameters_of params)) 3
      → beta ≡ start (randomness_sections (parameters_of params)) 4 → z_at ≡ transcript_at (parameters_of params) 4
      → let width = params.multiplicity * params.rank in
      LinesRoom J (rows_at at width params.constraint_k) R alpha beta S (rows_at regions.phi2 width params.const_agg_length) params.multiplicity params.rank
      regions.challenges X z_at
  constraints_require R at alpha beta z_at d holds short a b c e =
      let m = φ_requires J R S params regions ready at alpha beta d short a b c in
      record {
        in_job = (m.0, m.1);
        in_scratch = (m.3, m.2);
        challenges = (c-within, subst (λ Q. AllSparse S regions.challenges Q.r) (sym ready.same) (sparse R holds));
        vector = z-within X params (received s) z_at e;
        few = (reckoned s).within.r.1;
        narrow = (reckoned s).within.n.1;
      }

  -- the rows of A lie within the job
  pub A-rows : (a_at : ℕ) → a_at ≡ 31 + start (job_sections (parameters_of params)) 6 → a_at + 64 * (params.kappa * params.rank) ≤ length J
  A-rows a_at e = placed J X params s J (λ Q. 31 + start (job_sections Q) 6) (λ Q. Q.κ * Q.n) a_at e (A-within J params regions S ready)

  -- row k ends within them
  pub row-end : (a_at k : ℕ) → a_at ≡ 31 + start (job_sections (parameters_of params)) 6 → k < params.kappa → a_at + 64 * (k * params.rank) + 64 * params.rank ≤ length J
  row-end a_at k e h = omega (arith, A-rows a_at e, rows-within k params.kappa params.rank h)

  -- and its place is small
  pub row_bounds : (a_at k : ℕ) → length J < 2 ^ 61 → a_at ≡ 31 + start (job_sections (parameters_of params)) 6 → k < params.kappa
      → (k * params.rank ≤ 1024) × (a_at + 64 * (k * params.rank) ≤ 2 ^ 62)
  row_bounds a_at k j e h =
      let w = (reckoned s).within in
      let few : k ≤ 16 = omega (arith, w.κ.1) in
      let small : k * params.rank ≤ 1024 = mul-le-mul few w.n.1 in
      (small, omega (arith, row-end a_at k e h))

  -- check 24 fails where a row's does after rows that are equal
  pub az_fails : (c : ℕ → Element) (k : ℕ) → k < params.kappa → first k (az_test J X c) ≡ fine → az_test J X c k ≡ failed 24 [] → failed 24 [] ≡ az_of J X c
  unfolding check_24
  az_fails c k h e f = sym (first-failed (parameters J).κ k (az_test J X c) 24 [] (subst (λ Q. k < Q.κ) s.same h) e f)

  -- and is fine where all rows are equal
  pub az-passes : (c : ℕ → Element) (k : ℕ) → k ≡ params.kappa → first k (az_test J X c) ≡ fine → fine ≡ az_of J X c
  unfolding check_24
  az-passes c k h e = sym (ap (λ n. first n (az_test J X c)) (sym (h ∙ ap (λ Q. Q.κ) s.same)) ∙ e)

  -- what row k of A·z requires
  pub row_requires : (a_at z_at k : ℕ) → length J < 2 ^ 61 → length X < 2 ^ 61 → a_at ≡ 31 + start (job_sections (parameters_of params)) 6 → z_at ≡ transcript_at (parameters_of params) 4
      → k < params.kappa
      → Run J (a_at + 64 * (k * params.rank)) 64 params.rank × Run X z_at 64 params.rank
  row_requires a_at z_at k j x e f h =
      let few : params.rank ≤ 2 ^ 18 = omega (arith, (reckoned s).within.n.1) in
      (row-run J (a_at + 64 * (k * params.rank)) params.rank (row-end a_at k e h) few j, z-run X params (received s) z_at f x)

  -- what Σ t_ik·c_i requires
  pub column_requires : (t-at k : ℕ) → t-at ≡ transcript_at (parameters_of params) 5 → k < params.kappa
      → (t-at + 64 * (params.multiplicity * params.kappa) ≤ length X) × (regions.challenges + 64 * params.multiplicity ≤ length S) × (k < params.kappa)
      × (params.kappa ≤ 64) × (params.multiplicity ≤ 64)
  column_requires t-at k e h = (t_within X params (received s) t-at e, c-within, h, omega (arith, (reckoned s).within.κ.1), omega (arith, (reckoned s).within.r.1))

  -- check 24 for row k by the boolean's value, of the words that are compared
  pub az_tested : (a_at z_at t-at k : ℕ) (left right : List ℕ) (t : Bool) → a_at ≡ 31 + start (job_sections (parameters_of params)) 6 → z_at ≡ transcript_at (parameters_of params) 4
      → t-at ≡ transcript_at (parameters_of params) 5
      → left ≡ words (dot params.rank (run J (a_at + 64 * (k * params.rank)) 64) (run X z_at 64))
      → right ≡ words (sum params.multiplicity (λ i. vector X t-at params.kappa i k ⊗ challenges_in S regions i))
      → t ≡ equal left right → az_test J X (challenges_in S regions) k ≡ cond t fine (failed 24 [])
  az_tested a_at z_at t-at k left right t ea ez et hl hr h =
      let P = parameters J in
      let M = message P X in
      let l : left ≡ words (dot P.n ((public J []).A k) M.z) =
      words_of-vector left J a_at params.rank k (a_at + 64 * (k * params.rank)) (run X z_at 64) hl refl
      ∙ ap₂ (λ a z. words (dot params.rank (vector J a params.rank k) (run X z 64))) ea ez
      ∙ ap (λ Q. words (dot Q.n (vector J (31 + start (job_sections Q) 6) Q.n k) (run X (transcript_at Q 4) 64))) s.same in
      let r : right ≡ words (sum P.r (λ i. M.t i k ⊗ challenges_in S regions i)) =
      hr
      ∙ ap (λ a. words (sum params.multiplicity (λ i. vector X a params.kappa i k ⊗ challenges_in S regions i))) et
      ∙ ap (λ Q. words (sum Q.r (λ i. vector X (transcript_at Q 5) Q.κ i k ⊗ challenges_in S regions i))) s.same in
      require-equal (words (dot P.n ((public J []).A k) M.z)) (words (sum P.r (λ i. M.t i k ⊗ challenges_in S regions i))) (failed 24 []) t (h ∙ ap₂ equal l r)

-- 25 and 26, of a transcript and what stands in the scratch
module _ (X : List ℕ) (params : EnvironmentParameters) (regions : Regions) (S : List ℕ) (s : Received X params) where
  -- what a sum over a triangle of the transcript, weighed by the challenges, requires
  pub weighted_requires : (at : ℕ) → ChallengesWithin params regions S → at + 64 * triangular params.multiplicity ≤ length X
      → (at + 64 * triangular params.multiplicity ≤ length X) × (regions.challenges + 64 * params.multiplicity ≤ length S) × (params.multiplicity ≤ 64)
  weighted_requires at c h = (h, c, omega (arith, s.sized.within.r.1))

  -- what the sum over the lines φ_i requires
  pub lines_requires : (z_at : ℕ) → ChallengesWithin params regions S → LinesWithin params regions S → z_at ≡ transcript_at (parameters_of params) 4
      → (regions.phi + 64 * (params.multiplicity * params.rank) ≤ length S) × (z_at + 64 * params.rank ≤ length X) × (regions.challenges + 64 * params.multiplicity ≤ length S)
      × (params.rank ≤ 64)
  lines_requires z_at c l e = (l, z-within X params s z_at e, c, s.sized.within.n.1)

  -- a sum over a triangle of the transcript, weighed by the challenges
  abbrev weighted : ℕ → Element
  weighted at = pairs params.multiplicity (λ i j. triangle_at X at i j ⊗ challenges_in S regions i ⊗ challenges_in S regions j)

  -- check 25 by the boolean's value, of the words that are compared
  pub z_inner-answer : (z_at g-at : ℕ) (left right : List ℕ) (t : Bool) → z_at ≡ transcript_at (parameters_of params) 4 → g-at ≡ transcript_at (parameters_of params) 6
      → left ≡ words (dot params.rank (run X z_at 64) (run X z_at 64))
      → right ≡ words (weighted g-at)
      → t ≡ equal left right → cond t fine (failed 25 []) ≡ z_inner_of (parameters_of params) X (challenges_in S regions)
  unfolding check_25
  z_inner-answer z_at g-at left right t ez eg hl hr h =
      let M = message (parameters_of params) X in
      let c = challenges_in S regions in
      let l : left ≡ words (dot params.rank M.z M.z) = hl ∙ ap (λ a. words (dot params.rank (run X a 64) (run X a 64))) ez in
      let r : right ≡ words (pairs params.multiplicity (λ i j. M.g i j ⊗ c i ⊗ c j)) = hr ∙ ap (λ a. words (weighted a)) eg in
      sym (require-equal (words (dot params.rank M.z M.z)) (words (pairs params.multiplicity (λ i j. M.g i j ⊗ c i ⊗ c j))) (failed 25 []) t (h ∙ ap₂ equal l r))

  -- check 26 by the boolean's value, of the words that are compared
  pub phi-answer : (h-at : ℕ) (lines left right : List ℕ) (t : Bool) → h-at ≡ transcript_at (parameters_of params) 7 → right ≡ words (weighted h-at) → left ≡ radd lines lines
      → t ≡ equal left right → cond t fine (failed 26 []) ≡ phi_of (parameters_of params) X (challenges_in S regions) (element lines)
  phi-answer h-at lines left right t eh hr hl h =
      let M = message (parameters_of params) X in
      let c = challenges_in S regions in
      let x = element lines in
      let y = pairs params.multiplicity (λ i j. M.h i j ⊗ c i ⊗ c j) in
      let r : right ≡ words y = hr ∙ ap (λ a. words (weighted a)) eh in
      sym (require-equal (words (twice x)) (words y) (failed 26 []) t (h ∙ ap₂ equal (words_of-sum left lines lines x x hl refl refl) r))

-- where the challenges stand in their region, 24 and 25 are those of the randomness, and 26 where the lines do too
module _ (J R X : List ℕ) (params : EnvironmentParameters) (regions : Regions) (S : List ℕ) (same-parameters : parameters_of params ≡ parameters J)
    (holds : Holds S regions.challenges (c_words J R)) where
  -- element m of φ_i, mixed of the constraints
  abbrev mixed_line : Parameters → (at alpha beta : ℕ) → ℕ → ℕ → Element
  mixed_line Q at alpha beta i m =
      let width = Q.r * Q.n in mixed J (further (rows_at at width Q.K) (i * Q.n + m)) R alpha beta S (further (rows_at regions.phi2 width Q.L) (i * Q.n + m))

  -- what `core_challenge_sums::sum_of_lines` answers
  abbrev constraint_lines : Parameters → (at alpha beta z_at : ℕ) → Element
  constraint_lines Q at alpha beta z_at =
      let width = Q.r * Q.n in Sums.φ_lines J (rows_at at width Q.K) R alpha beta S (rows_at regions.phi2 width Q.L) Q.r Q.n regions.challenges X z_at

  abbrev held : Elements S regions.challenges (parameters J).r (public J R).c
  held = elements_held S regions.challenges (parameters J).r (public J R).c holds

  pub az-held : az_of J X (challenges_in S regions) ≡ az J R X
  unfolding check_24
  az-held =
      let P = parameters J in
      let M = message P X in
      ap (first P.κ) (fun_ext (λ k. ap (λ e. require (same (dot P.n ((public J []).A k) M.z) e) (failed 24 [])) (sum-of_t J R X S regions.challenges held k)))

  pub z_inner-held : z_inner_of (parameters_of params) X (challenges_in S regions) ≡ z_inner J R X
  unfolding check_25
  z_inner-held =
      let P = parameters J in
      let M = message P X in
      ap (λ Q. z_inner_of Q X (challenges_in S regions)) same-parameters
      ∙ ap (λ e. require (same (dot P.n M.z M.z) e) (failed 25 [])) (sum-of_g J R X S regions.challenges held)

  pub phi-held : (lines : List ℕ) → lines ≡ words (φ_lines J R X) → phi_of (parameters_of params) X (challenges_in S regions) (element lines) ≡ phi J R X
  unfolding check_26
  phi-held lines e =
      ap (λ Q. phi_of Q X (challenges_in S regions) (element lines)) same-parameters
      ∙ ap₂ (λ x y. require (same (twice x) y) (failed 26 [])) (stands_for lines (φ_lines J R X) e) (sum-of_h J R X S regions.challenges held)

  -- Σ⟨φ_i,z⟩·c_i of the lines in their region
  pub lines-held : (z_at : ℕ) → z_at ≡ transcript_at (parameters_of params) 4 → Holds S regions.phi (φ_words J R)
      → sum params.multiplicity (λ i. dot params.rank (vector S regions.phi params.rank i) (run X z_at 64) ⊗ challenges_in S regions i) ≡ φ_lines J R X
  lines-held z_at e lines =
      let P = parameters J in
      ap (λ a. sum params.multiplicity (λ i. dot params.rank (vector S regions.phi params.rank i) (run X a 64) ⊗ challenges_in S regions i)) e
      ∙ ap (λ Q. sum Q.r (λ i. dot Q.n (vector S regions.phi Q.n i) (run X (transcript_at Q 4) 64) ⊗ challenges_in S regions i)) same-parameters
      ∙ sum_of-φ J R X S regions.challenges held regions.phi (vectors-held S regions.phi P.r P.n (φ_sum (public J R)) lines)

  -- of the constraints, where φ'' stands in its region
  pub lines_summed : (at alpha beta z_at : ℕ) → at ≡ 31 + start (job_sections (parameters_of params)) 4 → alpha ≡ start (randomness_sections (parameters_of params)) 3
      → beta ≡ start (randomness_sections (parameters_of params)) 4 → z_at ≡ transcript_at (parameters_of params) 4 → Holds S regions.phi2 (φ''_words J R)
      → constraint_lines (parameters_of params) at alpha beta z_at ≡ φ_lines J R X
  lines_summed at alpha beta z_at a b c e φ''-held =
      let P = parameters J in
      ap (λ x. constraint_lines (parameters_of params) x alpha beta z_at) a
      ∙ ap₂ (λ x y. constraint_lines (parameters_of params) (31 + start (job_sections (parameters_of params)) 4) x y z_at) b c
      ∙ ap (constraint_lines (parameters_of params) (31 + start (job_sections (parameters_of params)) 4) (start (randomness_sections (parameters_of params)) 3)
      (start (randomness_sections (parameters_of params)) 4)) e
      ∙ ap (λ Q. constraint_lines Q (31 + start (job_sections Q) 4) (start (randomness_sections Q) 3) (start (randomness_sections Q) 4) (transcript_at Q 4)) same-parameters
      ∙ sum_ext RqOps P.r (λ i. dot P.n (mixed_line P (job_at J 4) (randomness_at J 3) (randomness_at J 4) i) (message P X).z ⊗ challenges_in S regions i)
      (λ i. dot P.n (φ_sum (public J R) i) (message P X).z ⊗ (public J R).c i)
      (λ i l. ap₂ ◌⊗◌ (dot_ext RqOps P.n (mixed_line P (job_at J 4) (randomness_at J 3) (randomness_at J 4) i) (φ_sum (public J R) i) (message P X).z (message P X).z
      (λ m k. φ_sum_is J R S regions.phi2 (vectors_list-held S regions.phi2 P.L P.r P.n (φ'' (public J R)) φ''-held) i m l k) (λ m k. refl)) (held i l))
