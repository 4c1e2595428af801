use mathlib.Core.Path.{sym, ap, subst, ◌∙◌}
use mathlib.Core.Bool.{false}
use borrow.Author.Rules.{rules}
use native.Mathlib.Omega.{arith}
use lib.ListN.{get_or, length-set}
use Rattle.ring_rq_matrix.proofs.Place.{rows-within}
use Rattle.ntt_vectors.specs.NttForm.{AllValues}
use Rattle.verify_many_digits.specs.Sums.{added_to, sum_at}
use Rattle.verify_many_digits.proofs.SumLaws.{block_next}
use Rattle.verify_many_digits.proofs.sums.add_block.Goals as goal

pub loop-m-init : goal.loop-m-init
loop-m-init c = (omega arith, omega arith, search rules, λ i h. absurd (omega arith))

pub add_product-next-requires : goal.add_product-next-requires
add_product-next-requires c =
    let l = c.loop-m in
    (c.requires.0, c.requires.1, λ t. subst (λ a. AllValues c.args.scratch.now a c.args.n) (sym l.invariant.1) (c.requires.2.values l.m (omega arith) t))

pub loop-m-preserved : goal.loop-m-preserved
loop-m-preserved c =
    let l = c.loop-m in (
      omega arith,
      omega (arith, l.invariant.1),
      length-set l.out l.m c.add_product-next.result ∙ l.invariant.2,
      block_next c.args.values.now c.args.n c.args.scratch.now (λ i. get_or c.args.passes i false) c.args.at c.args.need c.args.sums l.out l.m c.add_product-next.result
          (omega (arith, l.invariant.2, c.requires.2.few))
          (λ t. c.add_product-next.ensures t ∙ ap (λ a. added_to c.args.values.now c.args.n c.args.scratch.now a (sum_at c.args.sums l.m)) l.invariant.1) l.invariant.3,
    )

pub returns : goal.returns
returns c = let l = c.loop-m in λ m h t. l.invariant.3 m (omega arith) t

pub bounds-passes-m : goal.bounds-passes-m
bounds-passes-m c = omega (arith, c.requires.2.few)

pub offset_bounds-sums-m : goal.offset_bounds-sums-m
offset_bounds-sums-m c = omega (arith, c.requires.2.few)

pub bounds-sums-m : goal.bounds-sums-m
bounds-sums-m c = omega (arith, c.requires.2.few)

pub offset_bounds-out-m : goal.offset_bounds-out-m
offset_bounds-out-m c = omega (arith, c.requires.2.few)

pub bounds-out-m : goal.bounds-out-m
bounds-out-m c = omega (arith, c.requires.2.few)

pub overflow_add-place : goal.overflow_add-place
overflow_add-place c = omega (
  arith,
  c.requires.2.short,
  c.loop-m.invariant.1,
  rows-within
      c.loop-m.m c.args.count c.args.need (omega arith),
)
