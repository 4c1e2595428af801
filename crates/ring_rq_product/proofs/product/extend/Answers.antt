use Rattle.std.proofs.Common.{◌≡◌, ◌+◌, ◌-◌, ◌≤◌, get_or, sym, ap, ◌∙◌, arith, le-ltb}
use Rattle.math.specs.lists.Table.{padded}
use Rattle.math.proofs.lists.Padded.{padded-next, padded_done}
use Rattle.ring_rq_product.specs.Product.{extended, extended_coeff}
use Rattle.ring_rq_product.proofs.product.extend.Goals as goal

pub loop-m-preserved : goal.loop-m-preserved
loop-m-preserved c =
    let l = c.loop-m in
    let a = c.args.a in
    let h : 64 ≤ 64 + l.m = omega arith in
    let place : 64 + l.m - 64 ≡ l.m = omega arith in
    let next : 64 + l.m + 1 ≡ 64 + (l.m + 1) = omega arith in (
      omega arith,
      padded-next 128 0 (extended_coeff a) _ (64 + l.m) _ l.invariant.1 (omega arith) (c.from.ensures ∙ ap (λ i. get_or a i 0) (sym place) ∙ simp (le-ltb (64 + l.m) 64 h))
          ∙ ap (λ n. padded 128 n 0 (extended_coeff a)) next,
    )

pub returns : goal.returns
unfolding extended
returns c = padded_done 128 0 _ _ _ c.loop-m.invariant.1 (omega arith)

pub loop-m-init : goal.loop-m-init
loop-m-init c = (omega arith, c.negated-out.ensures)
