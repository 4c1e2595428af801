-- Rows of digits of 64 words up to Q: Q, which stands for 0, has the digits of 0.
use mathlib.Core.Path.{◌≡◌, refl, sym, ◌∙◌, ap}
use mathlib.Core.List.{List}
use Prim.Native.Nat.{ℕ, ◌%◌, ◌≤◌, ◌<◌}
use native.Mathlib.Nat.{zero-add, mod-eq_of_lt}
use native.Mathlib.Decide.{dec_lt}
use native.Mathlib.Omega.{arith}
use Rattle.math.proofs.lists.Table.{table_ext}
use Rattle.spec_leaves.specs.Zq.{Q, Canonical}
use Rattle.spec_leaves.specs.Digits.{size_after, digit}
use Rattle.spec_leaves.specs.Rq.{coeff, rzero, digit_row}
use Rattle.ring_rq.specs.Words.{AtMostQ}
use Rattle.spec_leaves.specs.Ring.{RqOps, words, element}
use Rattle.spec_leaves.proofs.Digits.{stays_zero, digit_zero}
use Rattle.spec_leaves.proofs.Bridge.{coeff-element, words-nil}
use Rattle.spec_leaves.proofs.RqRing.{words_path}
use Rattle.spec_protocol.specs.Formulas.{digit_element}
use Rattle.spec_protocol.proofs.Norms.{words-digit}

-- what holds of canonical words, and of Q where 0 is put for it, holds of all up to Q
pub of_word : (P : ℕ → ℕ → Type 0) (a : ℕ) → a ≤ Q → ((b : ℕ) → Canonical b → P b b) → P 0 Q → P (a % Q) a
of_word P a f canonical other = go (dec_lt a Q)
  where
    go : Dec (a < Q) → P (a % Q) a
    go (yes h) = rw (mod-eq_of_lt h) (canonical a h)
    go (no h) = let e : a ≡ Q = omega arith in rw e other

-- from a size of 0 on
after_zero : (b k : ℕ) → size_after b k 0 ≡ 0
unfolding size_after
after_zero b k = rw zero-add at (stays_zero b 0 k 0 refl)

-- a digit of a word
pub digit_of-word : (b a k : ℕ) → a ≤ Q → digit b (a % Q) k ≡ digit b a k
digit_of-word b a k h =
    of_word (λ x y. digit b x k ≡ digit b y k) a h (λ x l. refl) (digit_zero b 0 k (after_zero b k) ∙ sym (digit_zero b Q k (after_zero b k)))

-- a row of digits of 64 words
pub row_of-words : (b : ℕ) (a : List ℕ) (k : ℕ) → AtMostQ a → digit_row b (words (element a)) k ≡ digit_row b a k
unfolding digit_row
row_of-words b a k f =
    table_ext 64 (λ j. digit b (coeff (words (element a)) j) k) (λ j. digit b (coeff a j) k)
    (λ j h. ap (λ x. digit b x k) (coeff-element a j h) ∙ digit_of-word b (coeff a j) k (f j h))

-- the words of digit k of an element are a row of digits
pub row_words : (b : ℕ) (a : List ℕ) (k : ℕ) → AtMostQ a → digit_row b a k ≡ words (digit_element b (element a) k)
row_words b a k f = sym (words-digit b (element a) k ∙ row_of-words b a k f)

-- a digit of an element whose row of digits is zero is zero
pub digit-nil : (b : ℕ) (a : List ℕ) (k : ℕ) → AtMostQ a → digit_row b a k ≡ rzero → digit_element b (element a) k ≡ RqOps.nil
digit-nil b a k f z = words_path (digit_element b (element a) k) RqOps.nil (sym (row_words b a k f) ∙ z ∙ sym words-nil)
