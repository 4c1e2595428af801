-- "For any split into runs, added in any order, the sum is the whole p."
use mathlib.Core.Path.{◌≡◌, sym, ap, ap₂, ◌∙◌}
use mathlib.Core.List.{List, [], ◌∷◌}
use Prim.Native.Nat.{ℕ, ◌+◌, ◌*◌, ◌%◌, ◌<◌, ◌≤◌}
use native.Mathlib.Nat.{mod-add-mod, add-mod-mod, add-mul}
use native.Mathlib.Omega.{arith}
use lib.ListN.{get_or}
use Rattle.math.specs.lists.Sum.{Σ}
use Rattle.math.specs.lists.Table.{table}
use Rattle.math.proofs.lists.Sum.{Σ_ext, Σ-add}
use Rattle.math.proofs.lists.Table.{get_or-table, table_ext}
use Rattle.spec_leaves.specs.Zq.{Q, zadd}
use Rattle.spec_protocol.specs.Parameters.{parameters}
use Rattle.spec_protocol.specs.Layout.{sections}
use Rattle.spec_protocol.specs.Views.{public, witness}
use Rattle.spec_protocol.specs.Formulas as F
use Rattle.spec_protocol.specs.Prover.{transcript}
use Rattle.spec_sheds.specs.Runs.{run_p, p_sum}
use Rattle.spec_sheds.specs.Split.{in_runs, holds, Splits, Sum, one, both, runs_of, projection_of, vectors_of, sum_p}
use Rattle.spec_sheds.proofs.Indexes.{in_both, sum_of-run, sum_of_split}
use Rattle.spec_sheds.proofs.Cut.{word_of, run_p_is}

-- no run of a sum ends after this index
last : Sum → ℕ
last (one x) = x.end
last (both a b) = last a + last b

-- two sums reduced and added
add-reduced : (a b : ℕ) → zadd (a % Q) (b % Q) ≡ (a + b) % Q
add-reduced a b = mod-add-mod a Q (b % Q) ∙ add-mod-mod a b Q

-- a section of 256 words by its words
by-words : (g f : ℕ → ℕ) → ((j : ℕ) → j < 256 → get_or (sections (table 256 g ∷ [])) (1 + j) 0 ≡ f j) → sections (table 256 g ∷ []) ≡ sections (table 256 f ∷ [])
by-words g f e = ap (λ ws. sections (ws ∷ [])) (table_ext 256 g f (λ j l. sym (word_of (table 256 g) j ∙ get_or-table 256 g j 0 l) ∙ e j l))

module _ (J R W : List ℕ) where
  -- row j of Π_i·s_i of the whole
  term : ℕ → ℕ → ℕ
  term j i = F.projection (public J R) (witness (parameters J) W) i j

  -- word j of what a sum comes to: the terms of all indexes, as often as they are in its runs
  word_is : (t : Sum) (N : ℕ) → last t ≤ N → (j : ℕ) → j < 256 → get_or (sum_p J R W t) (1 + j) 0 ≡ Σ N (λ i. in_runs (runs_of t) i * term j i) % Q
  unfolding last term sum_p runs_of in_runs p_sum
  word_is (one x) N h j l =
      word_of (table 256 (run_p J x (projection_of J R x) (vectors_of J W x))) j
      ∙ get_or-table 256 (run_p J x (projection_of J R x) (vectors_of J W x)) j 0 l
      ∙ run_p_is J R W x j l
      ∙ ap (λ n. n % Q) (sum_of-run x (term j) N h ∙ Σ_ext N (λ i. holds x i * term j i) (λ i. (holds x i + 0) * term j i) (λ i k. ap (λ n. n * term j i) (plus_zero (holds x i))))
    where
      plus_zero : (n : ℕ) → n ≡ n + 0
      plus_zero n = omega arith
  word_is (both a b) N h j l =
      word_of (table 256 (λ j. zadd (get_or (sum_p J R W a) (1 + j) 0) (get_or (sum_p J R W b) (1 + j) 0))) j
      ∙ get_or-table 256 (λ j. zadd (get_or (sum_p J R W a) (1 + j) 0) (get_or (sum_p J R W b) (1 + j) 0)) j 0 l
      ∙ ap₂ zadd (word_is a N (omega arith) j l) (word_is b N (omega arith) j l)
      ∙ add-reduced (Σ N (λ i. in_runs (runs_of a) i * term j i)) (Σ N (λ i. in_runs (runs_of b) i * term j i))
      ∙ ap (λ n. n % Q)
      (sym (Σ-add N (λ i. in_runs (runs_of a) i * term j i) (λ i. in_runs (runs_of b) i * term j i))
      ∙ Σ_ext N (λ i. in_runs (runs_of a) i * term j i + in_runs (runs_of b) i * term j i) (λ i. in_runs (runs_of (both a b)) i * term j i)
      (λ i k. sym (ap (λ n. n * term j i) (in_both (runs_of a) (runs_of b) i) ∙ add-mul (in_runs (runs_of a) i) (in_runs (runs_of b) i) (term j i))))

  -- a sum by its words
  sum-table : (t : Sum) (f : ℕ → ℕ) → ((j : ℕ) → j < 256 → get_or (sum_p J R W t) (1 + j) 0 ≡ f j) → sum_p J R W t ≡ sections (table 256 f ∷ [])
  unfolding sum_p p_sum
  sum-table (one x) f e = by-words (run_p J x (projection_of J R x) (vectors_of J W x)) f e
  sum-table (both a b) f e = by-words (λ j. zadd (get_or (sum_p J R W a) (1 + j) 0) (get_or (sum_p J R W b) (1 + j) 0)) f e

  -- "For any split into runs, added in any order, the sum is the whole p.": section p of the whole transcript
  pub whole-p : (t : Sum) → Splits (parameters J).r (runs_of t) → sum_p J R W t ≡ sections (get_or (transcript (public J R) (witness (parameters J) W)) 1 [] ∷ [])
  unfolding term transcript F.p
  whole-p t s =
      let r = (parameters J).r in
      sum-table t (F.p (public J R) (witness (parameters J) W))
      (λ j l. word_is t (r + last t) (omega arith) j l ∙ ap (λ n. n % Q) (sum_of_split r (runs_of t) s (term j) (last t)))
