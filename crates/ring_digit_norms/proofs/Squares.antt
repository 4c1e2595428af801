-- Squared norms of elements and of their digits, of any words.
use mathlib.Core.Path.{◌≡◌, refl, sym, ◌∙◌, ap}
use mathlib.Core.List.{List}
use Prim.Native.Nat.{ℕ, zero, suc, ◌+◌, ◌-◌, ◌*◌, ◌%◌, ◌≤◌, ◌<◌}
use native.Mathlib.Nat.{mul-zero, add-zero}
use native.Mathlib.Omega.{arith}
use lib.ListN.{length, get_or}
use Rattle.math.specs.lists.Table.{table}
use Rattle.math.specs.lists.Part.{part}
use Rattle.math.specs.lists.Sum.{Σ}
use Rattle.math.proofs.lists.Sum.{Σ_ext, Σ_zero, Σ_split}
use Rattle.math.proofs.lists.Splice.{get_d_part}
use Rattle.spec_leaves.specs.Zq.{Q}
use Rattle.spec_leaves.specs.Norm.{square, norm}
use Rattle.spec_leaves.specs.Rq.{coeff, rzero, digit_row}
use Rattle.ring_rq.specs.Words.{AtMostQ}
use Rattle.spec_leaves.specs.Ring.{words, element}
use Rattle.ring_inner_product.specs.Run.{run}
use Rattle.ring_zq.proofs.Part.{norm-part}
use Rattle.spec_protocol.specs.Formulas.{norm_of}
use Rattle.spec_protocol.specs.Conditions.{digits_norm}
use Rattle.spec_protocol.proofs.Norms.{norm-table, norm_of-table}
use Rattle.ring_rq_vector.proofs.Rows.{of_word, row_of-words}

-- a sum over n blocks of w terms each
pub Σ_blocks : (w n : ℕ) (f : ℕ → ℕ) → Σ (w * n) f ≡ Σ n (λ m. Σ w (λ j. f (w * m + j)))
unfolding Σ
Σ_blocks w zero f = ap (λ k. Σ k f) (mul-zero w)
Σ_blocks w (suc n) f = ap (λ k. Σ k f) (more w n) ∙ Σ_split (w * n) w f ∙ ap (λ s. s + Σ w (λ j. f (w * n + j))) (Σ_blocks w n f)
  where
    more : (w n : ℕ) → w * suc n ≡ w * n + w
    more w n = omega arith

-- a sum whose terms from the m-th on are zero
pub Σ_used : (m n : ℕ) (f : ℕ → ℕ) → m ≤ n → ((i : ℕ) → m ≤ i → f i ≡ 0) → Σ m f ≡ Σ n f
Σ_used m n f h z =
    let whole : m + (n - m) ≡ n = omega arith in
    sym (ap (λ k. Σ k f) (sym whole)
    ∙ Σ_split m (n - m) f
    ∙ ap (λ x. Σ m f + x) (Σ_ext (n - m) (λ i. f (m + i)) (λ i. 0) (λ i l. z (m + i) (omega arith)) ∙ Σ_zero (n - m))
    ∙ add-zero (Σ m f))

-- the norm of 0
pub norm_zero : norm rzero ≡ 0
unfolding rzero
norm_zero = norm-table 64 (λ k. 0) ∙ Σ_zero 64

-- the square of a word
pub square_of-word : (a : ℕ) → a ≤ Q → square (a % Q) ≡ square a
square_of-word a h = of_word (λ x y. square x ≡ square y) a h (λ x l. refl) refl

-- the norm of the element of 64 words
pub norm_of-words : (a : List ℕ) → AtMostQ a → norm (words (element a)) ≡ Σ 64 (λ j. square (coeff a j))
unfolding element
norm_of-words a f =
    norm-table 64 (λ k. coeff a k % Q)
    ∙ Σ_ext 64 (λ j. square (coeff a j % Q)) (λ j. square (coeff a j)) (λ j h. square_of-word (coeff a j) (f j h))

-- the norm of 64 words up to Q is their element's
pub norm_settled : (a : List ℕ) → length a ≡ 64 → AtMostQ a → norm a ≡ norm (words (element a))
unfolding norm
norm_settled a n f = ap (λ k. Σ k (λ j. square (coeff a j))) n ∙ sym (norm_of-words a f)

-- the norm of the words of n elements is theirs
pub norm_of-run : (l : List ℕ) (at n : ℕ) → at + 64 * n ≤ length l → ((i : ℕ) → i < length l → get_or l i 0 ≤ Q) → norm (part l at (64 * n)) ≡ norm_of (table n (run l at 64))
norm_of-run l at n h f =
    norm-part l at (64 * n) h
    ∙ Σ_blocks 64 n (λ i. square (get_or l (at + i) 0))
    ∙ Σ_ext n (λ m. Σ 64 (λ j. square (get_or l (at + (64 * m + j)) 0))) (λ m. norm (words (run l at 64 m))) block
    ∙ sym (norm_of-table n (run l at 64))
  where
    place : (m j : ℕ) → at + (64 * m + j) ≡ at + 64 * m + j
    place m j = omega arith

    word : (m j : ℕ) → j < 64 → coeff (part l (at + 64 * m) 64) j ≡ get_or l (at + 64 * m + j) 0
    word m j k = get_d_part 0 l (at + 64 * m) 64 j k

    block : (m : ℕ) → m < n → Σ 64 (λ j. square (get_or l (at + (64 * m + j)) 0)) ≡ norm (words (run l at 64 m))
    block m k =
        Σ_ext 64 (λ j. square (get_or l (at + (64 * m + j)) 0)) (λ j. square (coeff (part l (at + 64 * m) 64) j))
        (λ j q. ap (λ i. square (get_or l i 0)) (place m j) ∙ ap square (sym (word m j q)))
        ∙ sym (norm_of-words (part l (at + 64 * m) 64) (λ j q. rw (word m j q) (f (at + 64 * m + j) (omega arith))))

-- the norms of the rows of digits of 64 words
pub rows-norm : (b parts : ℕ) (a : List ℕ) → AtMostQ a → Σ parts (λ q. norm (digit_row b a q)) ≡ digits_norm b parts (element a)
rows-norm b parts a f = Σ_ext parts (λ q. norm (digit_row b a q)) (λ q. norm (digit_row b (words (element a)) q)) (λ q h. ap norm (sym (row_of-words b a q f)))
