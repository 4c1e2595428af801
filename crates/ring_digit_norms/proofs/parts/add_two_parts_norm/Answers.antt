-- `add_two_parts_norm` meets its contract.
use mathlib.Core.Path.{◌≡◌, ◌∙◌, ap, ap₂}
use Prim.Native.Nat.{◌+◌}
use native.Mathlib.Nat.{add_assoc}
use native.Mathlib.Omega.{arith}
use borrow.Author.Rules.{rules}
use lib.ListN.{length}
use lib.Seq.{take_all}
use Rattle.spec_leaves.specs.Norm.{norm}
use Rattle.ring_rq_digits.proofs.Sizes.{sizes_first, sizes_next, row_is}
use Rattle.ring_digit_norms.proofs.Rests.{parts-norm}
use Rattle.ring_digit_norms.proofs.parts.add_two_parts_norm.Goals as goal

pub add_norm-total-requires : goal.add_norm-total-requires
add_norm-total-requires c =
    let n : length c.take_row-taken.result.row ≡ 64 = search rules in
    (omega arith, omega arith)

pub add_norm-requires : goal.add_norm-requires
add_norm-requires c =
    let n : length c.take_row-taken.result.sizes ≡ 64 = search rules in
    (omega arith, omega arith)

pub returns : goal.returns
returns c =
    let first = c.sizes_of in
    let s = c.args in
    let taken = c.take_row-taken in
    let row = taken.result.row in
    let next = taken.result.sizes in
    let fit = c.requires.2 in
    let n : length row ≡ 64 = search rules in
    let m : length next ≡ 64 = search rules in
    let sizes = sizes_first s.base s.a first.result first.ensures in
    let of_row = row_is s.base s.a first.result row 0 sizes taken.ensures.0 in
    let of-next = sizes_next s.base s.a first.result next 0 sizes taken.ensures.1 in (
      c.add_norm.ensures.0
          ∙ ap₂ ◌+◌ (c.add_norm-total.ensures.0 ∙ ap (λ l. s.sum + norm l) (take_all 64 row (omega arith))) (ap norm (take_all 64 next (omega arith)))
          ∙ add_assoc s.sum (norm row) (norm next)
          ∙ ap (λ x. s.sum + x) (parts-norm s.base s.a row next fit of_row of-next),
      omega arith,
    )
