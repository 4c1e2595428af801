-- The words of a state stay small.
use mathlib.Core.Path.{◌≡◌, refl}
use mathlib.Core.Bool.{Bool, true, false, cond}
use Rattle.std.specs.Prelude.{Some, None}
use mathlib.Core.List.{List, [], ◌∷◌}
use Prim.Native.Nat.{ℕ, ◌≤◌, ◌<◌}
use native.Mathlib.Nat.{lt_of_lt_of_le, pow-suc, pow-le-pow_right}
use native.Mathlib.Numerals.{add-one}
use native.Mathlib.Omega.{arith}
use lib.Dec.{leb, ltb, eqb}
use borrow.Author.Tests.{leb-true, ltb-true}
use Rattle.spec_leaves.specs.Zq.{Q}
use Rattle.spec_leaves.proofs.Cases.{both_true}
use Rattle.zq_lines_text.specs.Text.{is_digit}
use Rattle.zq_lines_text.specs.Reading.{none, start, pushed, extended, with, stepped, parsed, next, after, Small, Bounded, FirstCanonical}
use Rattle.zq_lines_text.specs.declared.reading.Word.{Word}
use Rattle.zq_lines_text.specs.declared.reading.State.{State}
use Rattle.zq_lines_text.specs.declared.reading.State.TheVariants.{First, Second, Bad}

-- a digit is a byte from 48 to 57
pub digit-range : (b : ℕ) → is_digit b ≡ true → (48 ≤ b) × (b ≤ 57)
digit-range b h =
    let p = both_true (leb 48 b) (leb b 57) h in
    (leb-true 48 b p.0, leb-true b 57 p.1)

-- a word that takes one more digit is below 10^9
pub value-max : {w : Word} → Small w → w.digits < 10 → w.value < 1000000000
value-max {w} s h =
    let p : w.digits ≤ 9 = omega arith in
    lt_of_lt_of_le s.below (pow-le-pow_right {n = 10} (omega arith) p)

-- a word with one more digit is small
small-pushed : {w : Word} (b : ℕ) → Small w → w.digits < 10 → is_digit b ≡ true → Small (pushed w b)
small-pushed {w} b s h d =
    let r = digit-range b d in
    let l = s.below in
    record { few = omega arith; below = rw (add-one w.digits, pow-suc) (omega arith) }

-- what holds of a state of a longer word, and of the spoilt one, holds after one more byte
small_extended : (go : Word → State) (w : Word) (b : ℕ) → ((v : Word) → Small v → Bounded (go v)) → Small w → Bounded (with go (extended w b))
small_extended go w b f s = by (is_digit b) refl (ltb w.digits 10) refl
  where
    by : (d : Bool) → is_digit b ≡ d → (l : Bool) → ltb w.digits 10 ≡ l → Bounded (with go (extended w b))
    by true e true h = rw (e, h) (f (pushed w b) (small-pushed b s (ltb-true w.digits 10 h) e))
    by true e false h = rw (e, h) tt
    by false e l h = rw e tt

-- no digit is small
small-none : Small none
small-none = record { few = omega arith; below = omega arith }

-- the start is bounded
pub bounded-start : Bounded start
bounded-start = small-none

-- one more byte of the line keeps a state bounded
bounded-stepped : (s : State) (b : ℕ) → Bounded s → Bounded (stepped s b)
unfolding stepped
bounded-stepped (First w) b h = by (eqb b 32) (eqb w.digits 0)
  where
    by : (e z : Bool) → Bounded (cond e (cond z Bad (Second w.value none)) (with First (extended w b)))
    by true true = tt
    by true false = small-none
    by false z = small_extended First w b (λ v k. k) h
bounded-stepped (Second a w) b h = small_extended (Second a) w b (λ v k. k) h
bounded-stepped Bad b h = tt

-- one more byte of the input keeps a state bounded
pub bounded-next : (s : State) (b : ℕ) → Bounded s → Bounded (next s b)
bounded-next s b h = by (eqb b 10)
  where
    by : (e : Bool) → Bounded (cond e start (stepped s b))
    by true = bounded-start
    by false = bounded-stepped s b h

-- a run of bytes of the input keeps a state bounded
pub bounded-after : (s : State) (bs : List ℕ) → Bounded s → Bounded (after s bs)
unfolding after
bounded-after s [] h = h
bounded-after s (b ∷ bs) h = bounded-after (next s b) bs (bounded-next s b h)

-- a pair that is not refused is canonical
pub first-canonical : (s : State) → FirstCanonical (parsed s)
unfolding parsed
first-canonical (First w) = tt
first-canonical (Second a w) = by (eqb w.digits 0) (ltb a Q) refl (ltb w.value Q)
  where
    by : (z l : Bool) → ltb a Q ≡ l → (m : Bool) → FirstCanonical (cond z None (cond l (cond m (Some (a, w.value)) None) None))
    by true l h m = tt
    by false true h true = ltb-true a Q h
    by false true h false = tt
    by false false h m = tt
first-canonical Bad = tt
