-- The digits of a small base are small: their sizes are at most half of it.
use mathlib.Core.Path.{◌≡◌, sym, ◌∙◌, ap}
use mathlib.Core.List.{List}
use Prim.Native.Nat.{ℕ, ◌+◌, ◌*◌, ◌/◌, ◌%◌, ◌≤◌, ◌<◌, ◌^◌}
use native.Mathlib.Nat.{zero-add}
use native.Mathlib.Omega.{arith}
use lib.ListN.{length, get_or}
use Rattle.math.specs.lists.Table.{table}
use Rattle.math.specs.lists.Part.{splice}
use Rattle.math.proofs.lists.Table.{length-table, get_or-table}
use Rattle.math.proofs.lists.Part.{part_flat_map}
use Rattle.math.proofs.lists.Splice.{get_or-splice-within, get_d_part}
use Rattle.spec_leaves.specs.Rq.{Element, coeff, digit_row}
use Rattle.spec_leaves.specs.Digits.{digit}
use Rattle.spec_leaves.specs.Ring.{words}
use Rattle.spec_leaves.proofs.Digits.{digit-size-le, digit-canonical}
use Rattle.spec_protocol.specs.Formulas.{flat, digit_element}
use Rattle.spec_protocol.proofs.Flat.{length-flat, length-words}
use Rattle.spec_protocol.proofs.Norms.{words-digit}
use Rattle.ring_digit_products.specs.Forms.{SmallDigits}

module _ (base parts : ℕ) (e : Element) (l v : List ℕ) (stored : v ≡ splice l 0 (flat (table parts (digit_element base e)))) (room : 64 * parts ≤ length l) where
  abbrev f : ℕ → Element
  f = digit_element base e

  -- word j of part m
  word_at : (m j : ℕ) → m < parts → j < 64 → get_or v (64 * m + j) 0 ≡ digit base (coeff (words e) j) m
  unfolding flat digit_row
  word_at m j h k =
      let long : length (flat (table parts f)) ≡ 64 * parts = length-flat (table parts f) ∙ ap (λ n. 64 * n) (length-table parts f) in
      ap (λ w. get_or w (64 * m + j) 0) stored
      ∙ ap (λ i. get_or (splice l 0 (flat (table parts f))) i 0) (sym (zero-add (64 * m + j)))
      ∙ get_or-splice-within l 0 (flat (table parts f)) (64 * m + j) 0 (omega arith) (omega arith)
      ∙ sym (get_d_part 0 (flat (table parts f)) (64 * m) 64 j k)
      ∙ ap (λ w. get_or w j 0) (part_flat_map words 64 length-words (table parts f) m (f 0) (omega (arith, length-table parts f)) ∙ ap words (get_or-table parts f m (f 0) h) ∙ words-digit base e m)
      ∙ get_or-table 64 (λ j. digit base (coeff (words e) j) m) j 0 k

  word_is : (i : ℕ) → i < 64 * parts → get_or v i 0 ≡ digit base (coeff (words e) (i % 64)) (i / 64)
  word_is i h =
      let place : i ≡ 64 * (i / 64) + i % 64 = omega arith in
      ap (λ n. get_or v n 0) place ∙ word_at (i / 64) (i % 64) (omega arith) (omega arith)

  pub digits-small : 1 < base → base / 2 ≤ 2 ^ 15 → SmallDigits (base / 2) v parts
  digits-small b h = record {
    canonical = λ i k. rw (word_is i k) (digit-canonical base (coeff (words e) (i % 64)) (i / 64) (omega arith) (omega arith));
    within = λ i k. rw (word_is i k) (digit-size-le base (coeff (words e) (i % 64)) (i / 64) (omega arith) (omega arith));
  }
