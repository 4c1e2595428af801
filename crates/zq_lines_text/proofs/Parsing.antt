-- Reading a line byte by byte gives what the whole line stands for.
use mathlib.Core.Path.{◌≡◌, refl, ◌∙◌, sym, ap}
use mathlib.Core.Bool.{Bool, true, false, cond, ◌&&◌}
use Rattle.std.specs.Prelude.{Option, None}
use mathlib.Core.List.{List, [], ◌∷◌}
use Prim.Native.Nat.{ℕ, suc, ◌+◌, ◌≤◌, ◌<◌}
use native.Mathlib.Nat.{zero-add, add-zero}
use native.Mathlib.Omega.{arith}
use lib.Dec.{ltb, eqb}
use lib.ListN.{length}
use borrow.Author.Tests.{le-leb, lt-leb, ltb-true, ltb-false, eqb-true, eqb-false}
use Rattle.zq_lines_text.specs.Text.{is_digit, all_digits, value_after, value}
use Rattle.zq_lines_text.specs.Line.{before_space, after_space, one_to_ten, is_word, pair, parse}
use Rattle.zq_lines_text.specs.Reading.{none, start, pushed, extended, with, stepped, steps, parsed}
use Rattle.zq_lines_text.specs.declared.reading.Word.{Word}
use Rattle.zq_lines_text.specs.declared.reading.State.{State}
use Rattle.zq_lines_text.specs.declared.reading.State.TheVariants.{First, Second, Bad}

-- whether the digits that are read and the bytes of a list are a word
abbrev is_word_after : ℕ → List ℕ → Bool
is_word_after k l = one_to_ten (k + length l) && all_digits l

-- a line that is spoilt stays so
steps_bad : (l : List ℕ) → parsed (steps Bad l) ≡ None
unfolding steps stepped parsed
steps_bad [] = refl
steps_bad (b ∷ bs) = steps_bad bs

-- k digits, at most ten, are a word where there is one
one_to_ten_lem : (k : ℕ) → k ≤ 10 → (z : Bool) → eqb k 0 ≡ z → one_to_ten (k + 0) ≡ cond z false true
one_to_ten_lem k h true e = rw (add-zero, eqb-true k 0 e)
one_to_ten_lem k h false e =
    let p : 1 ≤ k = omega (arith, eqb-false k 0 e) in
    rw (add-zero, le-leb 1 k p, le-leb k 10 h)

-- eleven digits and more are no word
too_many : (n : ℕ) → 10 < n → one_to_ten n ≡ false
too_many n h =
    let p : 1 ≤ n = omega arith in
    rw (le-leb 1 n p, lt-leb n 10 h)

-- one more byte of a word, of which `l` is to come; `x` is what the line stands for if that is a word
grow : (go : Word → State) (w : Word) (b : ℕ) (bs l : List ℕ) (x : Option (ℕ × ℕ)) → w.digits ≤ 10
    → (w.digits + 1 ≤ 10 → parsed (steps (go (pushed w b)) bs) ≡ cond (is_word_after (w.digits + 1) l) x None)
    → parsed (steps (with go (extended w b)) bs) ≡ cond (is_word_after w.digits (b ∷ l)) x None
unfolding all_digits
grow go w b bs l x h ih = by (is_digit b) refl (ltb w.digits 10) refl
  where
    none_left : (t : Bool) → t && false ≡ false
    none_left true = refl
    none_left false = refl

    shift : (k n : ℕ) → k + suc n ≡ k + 1 + n
    shift k n = omega arith

    by : (d : Bool) → is_digit b ≡ d → (m : Bool) → ltb w.digits 10 ≡ m
        → parsed (steps (with go (extended w b)) bs) ≡ cond (one_to_ten (w.digits + suc (length l)) && (is_digit b && all_digits l)) x None
    by true e true m = rw (e, m) (ih (omega (arith, ltb-true w.digits 10 m)) ∙ ap (λ n. cond (one_to_ten n && all_digits l) x None) (sym (shift w.digits (length l))))
    by true e false m = rw (e, m) (steps_bad bs ∙ rw (too_many (w.digits + suc (length l)) (omega (arith, ltb-false w.digits 10 m))))
    by false e m f = rw e (steps_bad bs ∙ rw (none_left (one_to_ten (w.digits + suc (length l)))))

-- the second word, where `w` is what is read of it
second : (a : ℕ) (w : Word) (l : List ℕ) → w.digits ≤ 10
    → parsed (steps (Second a w) l) ≡ cond (is_word_after w.digits l) (pair a (value_after w.value l)) None
unfolding steps stepped parsed all_digits value_after
second a w [] h = by (eqb w.digits 0) refl
  where
    by : (z : Bool) → eqb w.digits 0 ≡ z → cond (eqb w.digits 0) None (pair a w.value) ≡ cond (one_to_ten (w.digits + 0) && true) (pair a w.value) None
    by true e = rw (one_to_ten_lem w.digits h true e, e)
    by false e = rw (one_to_ten_lem w.digits h false e, e)
second a w (b ∷ bs) h = grow (Second a) w b bs bs (pair a (value_after w.value (b ∷ bs))) h (second a (pushed w b) bs)

-- the whole line, where `w` is what is read of its first word
first : (w : Word) (l : List ℕ) → w.digits ≤ 10
    → parsed (steps (First w) l)
    ≡ cond (is_word_after w.digits (before_space l)) (cond (is_word (after_space l)) (pair (value_after w.value (before_space l)) (value (after_space l))) None) None
unfolding steps stepped parsed all_digits value_after before_space after_space
first w [] h = by (is_word_after w.digits [])
  where
    by : (t : Bool) → ◌≡◌ {A = Option (ℕ × ℕ)} None (cond t None None)
    by true = refl
    by false = refl
first w (b ∷ bs) h = by (eqb b 32) (eqb w.digits 0) refl (first (pushed w b) bs)
  where
    rest : List ℕ → List ℕ → Option (ℕ × ℕ)
    rest f s = cond (is_word s) (pair (value_after w.value f) (value s)) None

    by : (e z : Bool) → eqb w.digits 0 ≡ z
        → (w.digits + 1 ≤ 10 → parsed (steps (First (pushed w b)) bs) ≡ cond (is_word_after (w.digits + 1) (before_space bs)) (rest (b ∷ before_space bs) (after_space bs)) None)
        → parsed (steps (cond e (cond (eqb w.digits 0) Bad (Second w.value none)) (with First (extended w b))) bs)
        ≡ cond (is_word_after w.digits (cond e [] (b ∷ before_space bs))) (rest (cond e [] (b ∷ before_space bs)) (cond e bs (after_space bs))) None
    by true true z ih = rw (one_to_ten_lem w.digits h true z, z) (steps_bad bs)
    by true false z ih = rw (one_to_ten_lem w.digits h false z, z) (second w.value none bs (omega arith) ∙ rw zero-add)
    by false e z ih = grow First w b bs (before_space bs) (rest (b ∷ before_space bs) (after_space bs)) h ih

-- the state after all bytes of a line stands for what the line does
pub parsed-steps : (line : List ℕ) → parsed (steps start line) ≡ parse line
unfolding parse
parsed-steps line = first none line (omega arith) ∙ rw (zero-add (length (before_space line)))
