-- What the definitions say of long lines, and of a number that is written and read back.
use mathlib.Core.Path.{◌≡◌, refl, ◌∙◌}
use mathlib.Core.Bool.{Bool, true, false, cond}
use Rattle.std.specs.Prelude.{None}
use mathlib.Core.List.{List, [], ◌∷◌, ◌++◌}
use Prim.Native.Nat.{ℕ, zero, suc, ◌+◌, ◌-◌, ◌*◌, ◌/◌, ◌%◌, ◌^◌, ◌≤◌, ◌<◌}
use native.Mathlib.Nat.{pow-suc}
use native.Mathlib.Omega.{arith}
use lib.Dec.{ltb, leb, eqb}
use lib.ListN.{length}
use borrow.Author.Tests.{leb-true}
use Rattle.spec_leaves.proofs.Cases.{both_true}
use Rattle.zq_lines_text.specs.Text.{all_digits, value_after, value, decimal_in, decimal}
use Rattle.zq_lines_text.specs.Line.{before_space, after_space, one_to_ten, is_word, pair, parse}

-- a line is what stands before its first space, the space, and what stands after it
length-parts : (l : List ℕ) → length l ≤ length (before_space l) + 1 + length (after_space l)
unfolding before_space after_space
length-parts [] = omega arith
length-parts (b ∷ bs) = by (eqb b 32) (length-parts bs)
  where
    by : (e : Bool) → length bs ≤ length (before_space bs) + 1 + length (after_space bs) → suc (length bs) ≤ length (cond e [] (b ∷ before_space bs)) + 1 + length (cond e bs (after_space bs))
    by true h = omega arith
    by false h = omega arith

-- a word has at most ten bytes
word-length : (w : List ℕ) → is_word w ≡ true → length w ≤ 10
word-length w h =
    let p = both_true (one_to_ten (length w)) (all_digits w) h in
    leb-true (length w) 10 (both_true (leb 1 (length w)) (leb (length w) 10) p.0).1

-- a line of more than 21 bytes is refused whatever it holds
pub long_refused : (line : List ℕ) → 21 < length line → parse line ≡ None
unfolding parse
long_refused line h = by (is_word (before_space line)) refl (is_word (after_space line)) refl
  where
    by : (f : Bool) → is_word (before_space line) ≡ f → (s : Bool) → is_word (after_space line) ≡ s
        → cond f (cond s (pair (value (before_space line)) (value (after_space line))) None) None ≡ None
    by true e true g = absurd (omega (arith, length-parts line, word-length (before_space line) e, word-length (after_space line) g))
    by true e false g = refl
    by false e s g = refl

-- one more digit at the end
value_snoc : (v : ℕ) (l : List ℕ) (b : ℕ) → value_after v (l ++ (b ∷ [])) ≡ value_after v l * 10 + (b - 48)
unfolding value_after
value_snoc v [] b = refl
value_snoc v (c ∷ l) b = value_snoc (v * 10 + (c - 48)) l b

-- the digits of a number stand for it, where they suffice
value-decimal_in : (k n : ℕ) → n < 10 ^ k → value (decimal_in k n) ≡ n
unfolding decimal_in value_after
value-decimal_in zero n h = omega arith
value-decimal_in (suc k) n h = by (ltb n 10) (value-decimal_in k (n / 10) (omega (arith, p)))
  where
    p : n < 10 ^ k * 10
    p = rw (pow-suc 10 k) at h

    by : (t : Bool) → value (decimal_in k (n / 10)) ≡ n / 10 → value (cond t ((48 + n) ∷ []) (decimal_in k (n / 10) ++ ((48 + n % 10) ∷ []))) ≡ n
    by true ih = omega arith
    by false ih = value_snoc 0 (decimal_in k (n / 10)) (48 + n % 10) ∙ rw ih (omega arith)

-- the digits of a word stand for it
pub value-decimal : (n : ℕ) → n < 2 ^ 32 → value (decimal n) ≡ n
unfolding decimal
value-decimal n h = value-decimal_in 10 n (omega arith)
