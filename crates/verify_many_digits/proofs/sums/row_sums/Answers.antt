use mathlib.Core.Path.{◌≡◌, refl, ap, ◌∙◌}
use mathlib.Core.Bool.{false}
use Prim.Native.Nat.{◌+◌, ◌*◌, ◌≤◌}
use native.Mathlib.Omega.{arith}
use lib.ListN.{length, get_or}
use Rattle.math.proofs.lists.Splice.{length-splice}
use Rattle.spec_leaves.specs.Ring.{words}
use Rattle.ring_inner_product.specs.Run.{run}
use Rattle.spec_protocol.specs.Formulas.{dot}
use Rattle.ntt_vectors.proofs.Laws.{ntt_form-values}
use Rattle.verify_many_digits.proofs.SumLaws.{values-part, summed_none, summed_next}
use Rattle.verify_many_digits.proofs.sums.row_sums.Goals as goal

pub loop-done-init : goal.loop-done-init
loop-done-init c = (
  omega arith,
  refl,
  summed_none c.args.job.now c.args.row c.args.width c.args.scratch.now c.args.count _ c.args.at c.args.need c.zero-sums.result c.requires.1.few
      c.zero-sums.ensures,
)

pub to_ntt_form-requires : goal.to_ntt_form-requires
to_ntt_form-requires c =
    let l = c.loop-done in
    let n = c.block-n.ensures in
    (omega (arith, c.requires.0, n, l.invariant.0), omega (arith, n, l.invariant.1))

pub add_block-next-requires : goal.add_block-next-requires
add_block-next-requires c =
    let l = c.loop-done in
    let n = c.block-n in
    let g = c.requires.1 in (
      ntt_form-values _ 0 _ _ n.result c.to_ntt_form.ensures.ntt_form,
      n.ensures.2,
      record {
        few = g.few;
        short = omega (arith, g.short, n.ensures, l.invariant.0);
        values = λ m h t. values-part c.args.scratch.now (c.args.at + m * c.args.need) l.done n.result c.args.width (c.args.at + 192 * l.done + m * c.args.need)
            (g.values m h t) (omega (arith, n.ensures, l.invariant.0)) (omega arith);
      },
    )

pub loop-done-preserved : goal.loop-done-preserved
loop-done-preserved c =
    let s = c.args in
    let l = c.loop-done in
    let n = c.block-n in
    let e = c.to_ntt_form.ensures in
    let room : l.done + n.result ≤ s.width = omega (arith, n.ensures, l.invariant.0) in (
      room,
      ap length e.out_after ∙ length-splice _ _ _ ∙ l.invariant.1,
      summed_next s.job.now s.row s.width s.scratch.now s.count (λ m. get_or s.passes m false) s.at s.need _ n.result l.done l.sums c.add_block-next.result
          n.ensures.2 room e.ntt_form c.add_block-next.ensures l.invariant.2,
    )

pub returns : goal.returns
returns c =
    let s = c.args in
    let l = c.loop-done in
    let n : l.done ≡ s.width = omega (arith, l.invariant.0) in
    λ m h t xs from f. l.invariant.2 m h t xs from f ∙ ap (λ k. words (dot k (run s.job.now s.row 64) (run xs from 64))) n

pub overflow_sub-width : goal.overflow_sub-width
overflow_sub-width c = c.loop-done.invariant.0

pub overflow_mul-done : goal.overflow_mul-done
overflow_mul-done c = omega (arith, c.requires.0, c.loop-done.invariant.0)

pub overflow_add-row : goal.overflow_add-row
overflow_add-row c = omega (arith, c.requires.0, c.loop-done.invariant.0)

pub overflow_mul-done-in-loop-done : goal.overflow_mul-done-in-loop-done
overflow_mul-done-in-loop-done c = omega (arith, c.requires.1.short, c.loop-done.invariant.0)

pub overflow_add-at : goal.overflow_add-at
overflow_add-at c = omega (arith, c.requires.1.short, c.loop-done.invariant.0)

pub overflow_add-done : goal.overflow_add-done
overflow_add-done c = omega (
  arith,
  c.block-n.ensures,
  c.loop-done.invariant.0,
  c.requires.1.short,
)

pub loop-done-smaller : goal.loop-done-smaller
loop-done-smaller c = omega (arith, c.block-n.ensures)
