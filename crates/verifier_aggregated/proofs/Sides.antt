-- The two sides of check 27, of the parameters and places that the code holds.
use mathlib.Core.Path.{◌≡◌, refl, sym, ap, ap₂, ◌∙◌}
use mathlib.Core.Bool.{Bool, cond}
use mathlib.Core.List.{List, []}
use Prim.Native.Nat.{ℕ, ◌+◌, ◌*◌, ◌≤◌, ◌<◌, ◌^◌}
use native.Mathlib.Omega.{arith}
use lib.ListN.{length}
use Rattle.spec_leaves.specs.Answer.{fine, failed}
use Rattle.spec_leaves.specs.Rq.{Element, radd}
use Rattle.spec_leaves.specs.Ring.{words}
use Rattle.spec_protocol.specs.Parameters.{Parameters, parameters, T, triangular}
use Rattle.spec_protocol.specs.Layout.{start, job_sections, randomness_sections}
use Rattle.spec_protocol.specs.Views.{Public, Message, public, message}
use Rattle.spec_protocol.specs.Formulas.{◌⊕◌, ◌⊗◌, sum, pairs, a_sum, b_sum}
use Rattle.spec_protocol.specs.Verifier.{twice, check_27}
use Rattle.ring_rq_matrix.specs.Region.{triangle_at}
use Rattle.ring_rq_matrix.proofs.Word.{stands_for, words_of-sum}
use Rattle.ring_rq_matrix.proofs.Formula.{sum_of-a}
use Rattle.core_aggregate.specs.Weighed.{mixed, rows_at, Mixable}
use Rattle.core_aggregate.proofs.Grid.{row-run}
use Rattle.core_aggregate.proofs.Laws.{b_sum_is}
use Rattle.layout_regions.specs.declared.Regions.{Regions}
use Rattle.relation_env_params.specs.declared.env_params.EnvironmentParameters.{EnvironmentParameters}
use Rattle.relation_env_params.specs.Parameters.{parameters_of}
use Rattle.core_workspace.specs.Ready.{Ready}
use Rattle.core_workspace.specs.Holds.{Holds}
use Rattle.core_workspace.specs.Aggregated.{a_words}
use Rattle.core_workspace.proofs.Holds.{triangle-held}
use Rattle.core_workspace.proofs.Aggregated.{a_symmetric}
use Rattle.core_workspace.proofs.Ready.{a-end, g_end, c-end, t-end, u-end, b''-end, b-within, alpha-within, beta-within}
use Rattle.verifier_common.specs.Work.{Sent, equal}
use Rattle.verifier_common.proofs.Runs.{require-equal}
use Rattle.verifier_common.proofs.Sent.{transcript_at, reckoned, placed, b''-within}

-- the words of an element twice
pub words_of-twice : (l a : List ℕ) (e : Element) → l ≡ radd a a → a ≡ words e → l ≡ words (twice e)
words_of-twice l a e h params = words_of-sum l a a e e h (stands_for a e params) (stands_for a e params)

-- 27, of a job, a randomness and a transcript
module _ (J R X : List ℕ) (params : EnvironmentParameters) (regions : Regions) (S : List ℕ) (s : Sent J R X params) (ready : Ready J params regions S) where
  abbrev P : Parameters
  P = parameters J

  abbrev Y : Public
  Y = public J R

  abbrev M : Message
  M = message P X

  abbrev p' : Parameters
  p' = parameters_of params

  -- a lies within the scratch
  a-within : regions.a_or_h + 64 * triangular params.multiplicity ≤ length S
  a-within =
      placed J X params s.posed S (λ Q. regions.a_or_h) T regions.a_or_h refl
      (omega (
        arith,
        a-end J params regions S ready,
        g_end J params regions S ready,
        c-end J params regions S ready,
        t-end J params regions S ready,
        u-end J params regions
            S ready,
        b''-end J params regions S ready,
      ))

  -- few vectors
  few-vectors : params.multiplicity ≤ 64
  few-vectors = omega (arith, (reckoned s.posed).within.r.1)

  -- what the sum over a and g requires
  pub products_requires : (at : ℕ) → at + 64 * triangular params.multiplicity ≤ length X
      → (regions.a_or_h + 64 * triangular params.multiplicity ≤ length S) × (at + 64 * triangular params.multiplicity ≤ length X) × (params.multiplicity ≤ 64)
  products_requires at h = (a-within, h, few-vectors)

  -- what the sum over h's diagonal requires
  pub diagonal_requires : (at : ℕ) → at + 64 * triangular params.multiplicity ≤ length X → (at + 64 * triangular params.multiplicity ≤ length X) × (params.multiplicity ≤ 64)
  diagonal_requires at h = (h, few-vectors)

  -- what the aggregated b requires
  pub mix_requires : (at alpha beta place : ℕ) → length J < 2 ^ 61 → length R < 2 ^ 61 → length X < 2 ^ 61
      → at ≡ 31 + start (job_sections p') 5 → alpha ≡ start (randomness_sections p') 3 → beta ≡ start (randomness_sections p') 4 → place ≡ transcript_at p' 2
      → Mixable J (rows_at at 1 params.constraint_k) R alpha beta X (rows_at place 1 params.const_agg_length)
  mix_requires at alpha beta place j r x e f g h =
      let z = reckoned s.posed in
      let K : params.constraint_k ≤ 2 ^ 18 = omega (arith, z.within.K.1) in
      let L : params.const_agg_length ≤ 2 ^ 18 = omega (arith, z.within.L.1) in (
        row-run J at params.constraint_k (placed J X params s.posed J (λ Q. 31 + start (job_sections Q) 5) (λ Q. Q.K) at e (b-within J params regions S ready)) K j,
        row-run R alpha params.constraint_k (placed J X params s.posed R (λ Q. start (randomness_sections Q) 3) (λ Q. Q.K) alpha f (alpha-within 7 J R s.drawn (omega arith))) K r,
        row-run R beta params.const_agg_length (placed J X params s.posed R (λ Q. start (randomness_sections Q) 4) (λ Q. Q.L) beta g (beta-within 7 J R s.drawn (omega arith))) L r,
        row-run X place params.const_agg_length (b''-within J X params s.posed place h) L x,
      )

  -- check 27 by the boolean's value, of the words that are compared
  pub relation-answer : (g-at h-at at alpha beta place : ℕ) (products doubled diagonal left b right : List ℕ) (t : Bool) → Holds S regions.a_or_h (a_words J R)
      → g-at ≡ transcript_at p' 6 → h-at ≡ transcript_at p' 7
      → at ≡ 31 + start (job_sections p') 5 → alpha ≡ start (randomness_sections p') 3 → beta ≡ start (randomness_sections p') 4 → place ≡ transcript_at p' 2
      → products ≡ words (pairs params.multiplicity (λ i j. triangle_at S regions.a_or_h i j ⊗ triangle_at X g-at i j))
      → diagonal ≡ words (sum params.multiplicity (λ i. triangle_at X h-at i i))
      → b ≡ words (mixed J (rows_at at 1 params.constraint_k) R alpha beta X (rows_at place 1 params.const_agg_length))
      → doubled ≡ radd products products → left ≡ radd doubled diagonal → right ≡ radd b b
      → t ≡ equal left right → cond t fine (failed 27 []) ≡ check_27 Y M
  unfolding check_27
  relation-answer g-at h-at at alpha beta place products doubled diagonal left b right t holds eg eh ea eα eβ ef hp hd hb h2 hl hr ht =
      let x = pairs P.r (λ i j. a_sum Y i j ⊗ M.g i j) in
      let y = sum P.r (λ i. M.h i i) in
      let z = b_sum Y M.b'' in
      let px : products ≡ words x =
      hp
      ∙ ap (λ a. words (pairs params.multiplicity (λ i j. triangle_at S regions.a_or_h i j ⊗ triangle_at X a i j))) eg
      ∙ ap (λ Q. words (pairs Q.r (λ i j. triangle_at S regions.a_or_h i j ⊗ triangle_at X (transcript_at Q 6) i j))) s.posed.same
      ∙ ap words (sum_of-a J R X S regions.a_or_h (triangle-held S regions.a_or_h P.r (a_sum Y) (a_symmetric J R) holds)) in
      let py : diagonal ≡ words y =
      hd
      ∙ ap (λ a. words (sum params.multiplicity (λ i. triangle_at X a i i))) eh
      ∙ ap (λ Q. words (sum Q.r (λ i. triangle_at X (transcript_at Q 7) i i))) s.posed.same in
      let pz : b ≡ words z =
      hb
      ∙ ap₂ (λ a c. words (mixed J (rows_at a 1 params.constraint_k) R c beta X (rows_at place 1 params.const_agg_length))) ea eα
      ∙ ap₂ (λ a c. words (mixed J (rows_at (31 + start (job_sections p') 5) 1 params.constraint_k) R (start (randomness_sections p') 3) a X (rows_at c 1 params.const_agg_length))) eβ ef
      ∙ ap (λ Q. words (mixed J (rows_at (31 + start (job_sections Q) 5) 1 Q.K) R (start (randomness_sections Q) 3) (start (randomness_sections Q) 4) X (rows_at (transcript_at Q 2) 1 Q.L)))
      s.posed.same
      ∙ ap words (b_sum_is J R X (transcript_at P 2)) in
      let l : left ≡ words (twice x ⊕ y) = words_of-sum left doubled diagonal (twice x) y hl (stands_for doubled (twice x) (words_of-twice doubled products x h2 px)) (stands_for diagonal y py) in
      sym (require-equal (words (twice x ⊕ y)) (words (twice z)) (failed 27 []) t (ht ∙ ap₂ equal l (words_of-twice right b z hr pz)))
