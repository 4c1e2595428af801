-- The words between a part's bounds are the part.
use mathlib.Core.Path.{◌≡◌, sym, ap, ap₂, subst, ◌∙◌}
use mathlib.Core.Bool.{Bool, true, false, cond}
use mathlib.Core.List.{List}
use Prim.Native.Nat.{ℕ, ◌+◌, ◌-◌, ◌*◌, ◌≤◌, min}
use native.Mathlib.Decide.{dec_le}
use native.Mathlib.Omega.{arith}
use lib.Dec.{ltb}
use lib.ListN.{length, take, drop, length-drop, drop_of_length-le}
use lib.Seq.{take_all}
use Rattle.math.specs.lists.Part.{part}
use Rattle.spec_protocol.specs.Many.{cut}
use Rattle.verify_many_admission.specs.declared.bounds.Bounds.{Bounds}
use Rattle.verify_many_admission.specs.Bounds.{bounded}

module _ (l : List ℕ) (a : ℕ) where
  -- to the end of the list
  to_end : take (length l - min a (length l)) (drop (min a (length l)) l) ≡ drop a l
  to_end = by (dec_le a (length l))
    where
      by : Dec (a ≤ length l) → take (length l - min a (length l)) (drop (min a (length l)) l) ≡ drop a l
      by (yes h) =
          let at : min a (length l) ≡ a = omega arith in
          ap (λ k. take (length l - k) (drop k l)) at ∙ take_all (length l - a) (drop a l) (omega (arith, length-drop a l))
      by (no h) =
          let at : min a (length l) ≡ length l = omega arith in
          let none : length l - length l ≡ 0 = omega arith in
          ap (λ k. take (length l - k) (drop k l)) at
          ∙ ap (λ k. take k (drop (length l) l)) none
          ∙ sym (drop_of_length-le l {i = a} (omega arith))

  -- so many words, as far as they go
  as_far : (n : ℕ) → take (min (a + n) (length l) - min a (length l)) (drop (min a (length l)) l) ≡ take n (drop a l)
  as_far n = by (dec_le (a + n) (length l))
    where
      by : Dec (a + n ≤ length l) → take (min (a + n) (length l) - min a (length l)) (drop (min a (length l)) l) ≡ take n (drop a l)
      by (yes h) =
          let at : min a (length l) ≡ a = omega arith in
          let count : min (a + n) (length l) - min a (length l) ≡ n = omega arith in
          ap₂ (λ i k. take i (drop k l)) count at
      by (no h) =
          let end : min (a + n) (length l) ≡ length l = omega arith in
          ap (λ k. take (k - min a (length l)) (drop (min a (length l)) l)) end ∙ to_end ∙ sym (take_all n (drop a l) (omega (arith, length-drop a l)))

module _ (words : List ℕ) (len count m : ℕ) where
  bounded_order : let b = bounded (length words) len count m in (b.from ≤ b.to) × (b.to ≤ length words)
  bounded_order = by (ltb (m + 1) count)
    where
      by : (t : Bool) → (min (m * len) (length words) ≤ cond t (min (m * len + len) (length words)) (length words)) × (cond t (min (m * len + len) (length words)) (length words) ≤ length words)
      by true = (omega arith, omega arith)
      by false = (omega arith, omega arith)

  bounded-cut : let b = bounded (length words) len count m in part words b.from (b.to - b.from) ≡ cut len count words m
  unfolding cut
  bounded-cut = by (ltb (m + 1) count)
    where
      by : (t : Bool) → take (cond t (min (m * len + len) (length words)) (length words) - min (m * len) (length words)) (drop (min (m * len) (length words)) words)
          ≡ cond t (part words (m * len) len) (drop (m * len) words)
      by true = as_far words (m * len) len
      by false = to_end words (m * len)

  module _ (b : Bounds) (e : b ≡ bounded (length words) len count m) where
    -- a part ends where it starts or later, and within the slice
    pub in_order : (b.from ≤ b.to) × (b.to ≤ length words)
    in_order = subst (λ b. (b.from ≤ b.to) × (b.to ≤ length words)) (sym e) bounded_order

    pub between : part words b.from (b.to - b.from) ≡ cut len count words m
    between = ap (λ b. part words b.from (b.to - b.from)) e ∙ bounded-cut
