-- The words of an element's digit rows: 2048 of them, and a lent slice keeps those beyond.
use mathlib.Core.Path.{◌≡◌, refl, ◌∙◌, ap}
use mathlib.Core.Bool.{Bool, true, false, cond}
use mathlib.Core.List.{List, []}
use Prim.Native.Nat.{ℕ, ◌+◌, ◌<◌}
use native.Mathlib.Nat.{zero-add}
use native.Mathlib.Omega.{arith}
use lib.Dec.{ltb}
use lib.ListN.{length, get_or, drop, replicate, get_or-replicate}
use lib.Seq.{drop_at}
use Rattle.math.specs.lists.Table.{padded}
use Rattle.math.specs.lists.Part.{splice}
use Rattle.math.proofs.lists.Table.{length-table, get_or-table}
use Rattle.math.proofs.lists.Sum.{Σ_ext, Σ_const}
use Rattle.math.proofs.lists.Cat.{length-cat}
use Rattle.math.proofs.lists.Splice.{splice_eq}
use Rattle.spec_leaves.specs.Digits.{digit}
use Rattle.spec_leaves.specs.Rq.{coeff, rzero, digit_row, digit_rows}
use Rattle.spec_leaves.specs.Leaf.{digit_operands}
use Rattle.spec_leaves.specs.Answer.{Answer, fine, accepted, refused, failed, result_of}
use Rattle.spec_leaves.proofs.Cases.{ltb_cases}
use Rattle.api_leaf_answers.specs.Rows.{rows_or_zero, row_words, words_written}

-- 32 rows of 64 words
abbrev Rows64 : List (List ℕ) → Type 0
Rows64 rows = (i : ℕ) → i < 32 → length (get_or rows i []) ≡ 64

digit_rows_lem : (base parts : ℕ) (a : List ℕ) → Rows64 (digit_rows base parts a)
unfolding digit_rows padded digit_row rzero
digit_rows_lem base parts a i h =
    ap length (get_or-table 32 (λ k. cond (ltb k parts) (digit_row base a k) rzero) i [] h) ∙ by (ltb i parts)
  where
    by : (t : Bool) → length (cond t (digit_row base a i) rzero) ≡ 64
    by true = length-table 64 (λ j. digit base (coeff a j) i)
    by false = length-table 64 (λ j. 0)

zero_rows : Rows64 (replicate 32 rzero)
unfolding rzero
zero_rows i h = ap length (get_or-replicate 32 i rzero [] h) ∙ length-table 64 (λ j. 0)

rows_or_zero_lem : (base parts : ℕ) (a : List ℕ) → Rows64 (rows_or_zero base parts a)
rows_or_zero_lem base parts a = by (digit_operands base parts a)
  where
    by : (x : Answer) → Rows64 (result_of x (digit_rows base parts a) (replicate 32 rzero))
    by fine = digit_rows_lem base parts a
    by (accepted cells) = zero_rows
    by (refused n p) = zero_rows
    by (failed n vs) = zero_rows

-- the rows have 2048 words
pub length-row_words : (base parts : ℕ) (a : List ℕ) → length (row_words (rows_or_zero base parts a)) ≡ 2048
length-row_words base parts a =
    length-cat 32 (λ i. get_or (rows_or_zero base parts a) i [])
    ∙ Σ_ext 32 (λ i. length (get_or (rows_or_zero base parts a) i [])) (λ i. 64) (rows_or_zero_lem base parts a)
    ∙ Σ_const 32 64

-- the words beyond never change
pub beyond_unchanged : (base parts : ℕ) (a out : List ℕ) → drop 2048 (words_written base parts a out) ≡ drop 2048 out
beyond_unchanged base parts a out =
    ltb_cases (λ t. drop 2048 (cond t out (splice out 0 words)) ≡ drop 2048 out) (length out) 2048 (λ l. refl)
    (λ l. ap (drop 2048) (splice_eq out 0 words (omega (arith, n))) ∙ drop_at words (drop (0 + length words) out) 2048 n ∙ ap (λ k. drop k out) (zero-add (length words) ∙ n))
  where
    words : List ℕ
    words = row_words (rows_or_zero base parts a)

    n : length words ≡ 2048
    n = length-row_words base parts a
