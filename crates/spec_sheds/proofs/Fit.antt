-- Where the slices of the whole are refused nothing, the calls on its runs and the adding calls are not either.
use mathlib.Core.Path.{◌≡◌, refl, sym, ap, subst, ◌∙◌}
use mathlib.Core.List.{List, [], ◌∷◌}
use Prim.Native.Nat.{ℕ, suc, ◌+◌, ◌*◌, ◌%◌, ◌<◌, ◌≤◌}
use native.Mathlib.Decide.{dec_le, dec_lt}
use native.Mathlib.Nat.{mul-le-mul_left}
use native.Mathlib.Omega.{arith}
use lib.ListN.{length, get_or, take}
use Rattle.math.specs.lists.Part.{part}
use Rattle.math.specs.lists.Table.{table}
use Rattle.math.specs.lists.Sum.{Σ}
use Rattle.math.proofs.lists.Splice.{length_part, get_d_part}
use Rattle.math.proofs.lists.Table.{length-table, get_or-table}
use Rattle.spec_leaves.specs.Zq.{Q}
use Rattle.spec_leaves.specs.Ring.{canonical_mod}
use Rattle.spec_leaves.specs.Answer.{fine, refused, ◌then◌}
use Rattle.spec_protocol.specs.Parameters.{Parameters, parameters}
use Rattle.spec_protocol.specs.Layout.{Section, canonical, span, start, sections, layout, ranged, randomness_sections, witness_sections, job_refusal, randomness_refusal, witness_refusal, scratch_need}
use Rattle.spec_protocol.specs.Views.{public, witness}
use Rattle.spec_protocol.specs.Formulas as F
use Rattle.spec_protocol.specs.Formulas.{rows}
use Rattle.spec_protocol.proofs.Fine.{require-holds, then_both_fine, then_fine_left, then_fine_right}
use Rattle.spec_protocol.proofs.Flat.{flat-canonical}
use Rattle.spec_protocol.proofs.Sections.{Filled, none, more, layout-fine, ranged-fine}
use Rattle.spec_protocol.specs.Laid.{Laid}
use Rattle.spec_protocol.proofs.Laid.{laid}
use Rattle.spec_sheds.specs.Runs.{Run, size, p_section, rows_section, run_refusal, projection_refusal, vectors_refusal, lent_refusal, project_refusal, rows_refusal}
use Rattle.spec_sheds.specs.Runs.{p_refusal, add_refusal, run_p, run_rows, p_sum}
use Rattle.spec_sheds.specs.Split.{Sum, one, both, projection_of, vectors_of, sum_p}
use Rattle.spec_sheds.proofs.Calls.{length-run_rows}

-- a job, the first sections of a randomness and a witness that are refused nothing
pub record Fit (more-sections : ℕ) (J R W : List ℕ) : Type 0 where
  pub job : job_refusal J ≡ fine
  pub randomness : randomness_refusal (parameters J) (suc more-sections) R ≡ fine
  pub witness : witness_refusal (parameters J) W ≡ fine

-- one section that is filled is refused nothing
one-fine : (a b count : ℕ) (ws : List ℕ) → length ws ≡ count → ((k : ℕ) → k < length ws → get_or ws k 0 < Q)
    → layout a (sections (ws ∷ [])) 0 (canonical count ∷ []) then ranged b (sections (ws ∷ [])) 0 (canonical count ∷ []) ≡ fine
one-fine a b count ws e h = let f : Filled (canonical count ∷ []) (ws ∷ []) = more e h none in then_both_fine (layout-fine f a) (ranged-fine f b)

-- a part of words below Q
module _ (l : List ℕ) (from at count : ℕ) (words : (k : ℕ) → k < count → get_or l (from + k) 0 < Q) where
  part-canonical : (n : ℕ) → at + n ≤ count → from + at + n ≤ length l → (k : ℕ) → k < length (part l (from + at) n) → get_or (part l (from + at) n) k 0 < Q
  part-canonical n a b k h =
      let size = length_part l (from + at) n b in
      let place : from + at + k ≡ from + (at + k) = omega arith in
      let inside : k < n = omega arith in
      subst (λ w. w < Q) (sym (get_d_part 0 l (from + at) n k inside ∙ ap (λ i. get_or l i 0) place)) (words (at + k) (omega arith))

-- the words of a run lie within the whole's
run-within : (c first count r : ℕ) → first + count ≤ r → c * first + c * count ≤ c * r
run-within c first count r h = omega (arith, mul-le-mul_left c h)

past : (k : ℕ) → 0 + 1 + k ≡ 1 + k
past k = omega arith

module _ {m : ℕ} {J R W : List ℕ} (fit : Fit m J R W) (x : Run) (some : x.first < x.end) (within : x.end ≤ (parameters J).r) where
  P : Parameters
  P = parameters J

  -- 34 is not given
  run-fine : run_refusal P x ≡ fine
  unfolding P run_refusal
  run-fine = then_both_fine (require-holds (dec_lt x.first x.end) (refused 34 x.first) some) (require-holds (dec_le x.end P.r) (refused 34 x.first) within)

  -- neither are 7 and 8
  projection-laid : Laid R 0 (take (suc m) (randomness_sections P))
  unfolding P randomness_refusal
  projection-laid =
      let ss = take (suc m) (randomness_sections P) in
      laid 7 8 R 0 ss (omega arith) (then_fine_left (layout 7 R 0 ss) (ranged 8 R 0 ss) fit.randomness) (then_fine_right (layout 7 R 0 ss) (ranged 8 R 0 ss) fit.randomness)

  projection-fine : projection_refusal P x (projection_of J R x) ≡ fine
  unfolding P projection_refusal start
  projection-fine =
      let at = 16384 * P.n * x.first in
      let n = 16384 * P.n * size x in
      let count = 16384 * P.n * P.r in
      let l = projection-laid in
      let words : (k : ℕ) → k < count → get_or R (1 + k) 0 < Q = λ k h. subst (λ i. get_or R i 0 < Q) (past k) (l.ranges 0 k (omega arith) h) in
      let last : at + n ≤ count = omega (arith, run-within (16384 * P.n) x.first (size x) P.r (omega arith)) in
      let room : 1 + at + n ≤ length R = omega (arith, l.inside 0 (omega arith)) in
      one-fine 7 8 n (part R (1 + at) n) (length_part R (1 + at) n room) (part-canonical R 1 at count words n last room)

  -- nor are 11 and 12
  vectors-laid : Laid W 0 (witness_sections P)
  unfolding P witness_refusal
  vectors-laid =
      let ss = witness_sections P in
      laid 11 12 W 0 ss (omega arith) (then_fine_left (layout 11 W 0 ss) (ranged 12 W 0 ss) fit.witness) (then_fine_right (layout 11 W 0 ss) (ranged 12 W 0 ss) fit.witness)

  vectors-fine : vectors_refusal P x (vectors_of J W x) ≡ fine
  unfolding P vectors_refusal start
  vectors-fine =
      let at = 64 * (x.first * P.n) in
      let n = 64 * (size x * P.n) in
      let count = 64 * (P.r * P.n) in
      let l = vectors-laid in
      let words : (k : ℕ) → k < count → get_or W (1 + k) 0 < Q = λ k h. subst (λ i. get_or W i 0 < Q) (past k) (l.ranges 0 k (omega arith) h) in
      let last : at + n ≤ count = omega (arith, run-within P.n x.first (size x) P.r (omega arith)) in
      let room : 1 + at + n ≤ length W = omega (arith, l.inside 0 (omega arith)) in
      one-fine 11 12 n (part W (1 + at) n) (length_part W (1 + at) n room) (part-canonical W 1 at count words n last room)

  -- nor 1 and 2 with buffers that are long enough
  lent-fine : (made : List Section) (scratch output : ℕ) → scratch_need P ≤ scratch → span made ≤ output → lent_refusal P x (vectors_of J W x) scratch made output ≡ fine
  unfolding lent_refusal
  lent-fine made scratch output a b =
      then_both_fine (then_both_fine vectors-fine (require-holds (dec_le (scratch_need P) scratch) (refused 1 (scratch_need P)) a))
      (require-holds (dec_le (span made) output) (refused 2 (span made)) b)

  -- the call that gives a run's p is refused nothing
  pub project_fine : (scratch output : ℕ) → scratch_need (parameters J) ≤ scratch → span p_section ≤ output → project_refusal J x (projection_of J R x) (vectors_of J W x) scratch output ≡ fine
  unfolding P project_refusal
  project_fine scratch output a b = then_both_fine (then_both_fine (then_both_fine fit.job run-fine) projection-fine) (lent-fine p_section scratch output a b)

  -- and the call that gives its rows nothing before its work
  pub rows-fine : (scratch output : ℕ) → scratch_need (parameters J) ≤ scratch → span (rows_section (parameters J) x) ≤ output → rows_refusal J x (vectors_of J W x) scratch output ≡ fine
  unfolding P rows_refusal
  rows-fine scratch output a b = then_both_fine (then_both_fine fit.job run-fine) (lent-fine (rows_section P x) scratch output a b)

-- a p of words that are reduced
reduced-fine : (f g : ℕ → ℕ) → ((j : ℕ) → f j ≡ g j % Q) → p_refusal (sections (table 256 f ∷ [])) ≡ fine
unfolding p_refusal
reduced-fine f g e =
    one-fine 9 10 256 (table 256 f) (length-table 256 f)
    (λ k h. subst (λ w. w < Q) (sym (get_or-table 256 f k 0 (subst (λ n. k < n) (length-table 256 f) h) ∙ e k)) (canonical_mod (g k)))

-- what a sum comes to is a p that is refused nothing
pub sum-fine : (J R W : List ℕ) (t : Sum) → p_refusal (sum_p J R W t) ≡ fine
unfolding sum_p run_p p_sum
sum-fine J R W (one x) =
    reduced-fine (run_p J x (projection_of J R x) (vectors_of J W x)) (λ j. Σ (size x) (λ i. F.projection (public J (projection_of J R x)) (witness (parameters J) (vectors_of J W x)) i j)) (λ j. refl)
sum-fine J R W (both a b) =
    reduced-fine (λ j. (get_or (sum_p J R W a) (1 + j) 0 + get_or (sum_p J R W b) (1 + j) 0) % Q) (λ j. get_or (sum_p J R W a) (1 + j) 0 + get_or (sum_p J R W b) (1 + j) 0) (λ j. refl)

-- so the call that adds two such sums is refused nothing
pub add-fine : (J R W : List ℕ) (a b : Sum) (output : ℕ) → span p_section ≤ output → add_refusal (sum_p J R W a) (sum_p J R W b) output ≡ fine
unfolding add_refusal
add-fine J R W a b output h = then_both_fine (then_both_fine (sum-fine J R W a) (sum-fine J R W b)) (require-holds (dec_le (span p_section) output) (refused 2 (span p_section)) h)

-- a run's rows fill their section
pub rows_filled : (J : List ℕ) (x : Run) (S : List ℕ) → Filled (rows_section (parameters J) x) (run_rows J x S ∷ [])
rows_filled J x S = more (length-run_rows J x S) in_range none
  where
    in_range : (k : ℕ) → k < length (run_rows J x S) → get_or (run_rows J x S) k 0 < Q
    in_range = unfold run_rows in flat-canonical (rows (size x) (parameters J).κ (F.t (public J []) (witness (parameters J) S)))
