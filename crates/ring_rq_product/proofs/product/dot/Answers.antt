use Rattle.std.proofs.Common.{◌≡◌, ◌+◌, ◌∙◌, arith}
use Rattle.ring_rq_product.proofs.Halves.{begun_none, begun_small, begun_next, begun_folded}
use Rattle.ring_rq_product.proofs.product.dot.Goals as goal

pub add-h-requires : goal.add-h-requires
add-h-requires c =
    let l = c.loop-i in
    let x = c.args.x.now in
    let y = c.args.y.now in
    (omega (arith, begun_small x y c.args.at l.i _ _ l.invariant.1), c.requires.2 l.i (omega arith), c.requires.3 (c.args.at + l.i) (omega arith))

pub loop-i-preserved : goal.loop-i-preserved
loop-i-preserved c =
    let l = c.loop-i in
    let s = c.args in
    (omega arith, begun_next s.x.now s.y.now s.at l.i _ _ _ _ l.invariant.1 c.add-h.ensures)

pub join-requires : goal.join-requires
join-requires c =
    let l = c.loop-i in
    let s = c.args in
    omega (arith, begun_small s.x.now s.y.now s.at l.i _ _ l.invariant.1)

pub returns : goal.returns
returns c =
    let l = c.loop-i in
    let s = c.args in
    let n : l.i ≡ 64 = omega arith in
    c.join.ensures ∙ begun_folded s.x.now s.y.now s.at _ _ (rw n at l.invariant.1)

pub loop-i-init : goal.loop-i-init
loop-i-init c = (omega arith, begun_none _ _ _)
