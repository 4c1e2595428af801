use Rattle.std.proofs.Common.{◌≡◌, ◌<◌, ap, ◌∙◌, arith, lt-ltb}
use Rattle.math.specs.lists.Table.{padded}
use Rattle.math.proofs.lists.Padded.{padded-none, padded-next}
use Rattle.ring_rq_product.specs.Product.{extended_coeff}
use Rattle.ring_rq_product.proofs.product.negated.Goals as goal

pub loop-m-preserved : goal.loop-m-preserved
loop-m-preserved c =
    let l = c.loop-m in
    let h : l.m < 64 = omega arith in
    (omega arith, padded-next 128 0 _ _ _ _ l.invariant.1 (omega arith) (c.from.ensures ∙ c.lack.ensures ∙ simp (lt-ltb l.m 64 h)))

pub returns : goal.returns
returns c =
    let l = c.loop-m in
    let n : l.m ≡ 64 = omega arith in
    l.invariant.1 ∙ ap (λ m. padded 128 m 0 (extended_coeff c.args.a)) n

pub loop-m-init : goal.loop-m-init
loop-m-init c = (omega arith, padded-none 128 0 _)
