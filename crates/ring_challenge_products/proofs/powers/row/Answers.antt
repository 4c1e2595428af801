use mathlib.Core.Path.{sym, subst}
use Prim.Native.Nat.{◌+◌, ◌≤◌}
use native.Mathlib.Omega.{arith}
use lib.ListN.{set}
use Rattle.ring_challenge_products.proofs.Row.{Begun, begun_none, begun_few, begun_next, begun_all, taken-le}
use Rattle.ring_challenge_products.proofs.powers.row.Goals.{After-place}
use Rattle.ring_challenge_products.proofs.powers.row.Goals as goal

-- few places are stored
few : (c : After-place) → c.loop-j.count ≤ 41
few c = let l = c.loop-j in begun_few _ _ _ _ l.invariant.1 c.requires l.invariant.0

pub loop-j-preserved : goal.loop-j-preserved
loop-j-preserved c =
    let l = c.loop-j in
    let a = c.args.a in
    let next = begun_next l.out a l.j l.count c.place.result l.invariant.1 c.requires (omega arith) c.place.ensures.0 c.place.ensures.1 in
    (omega arith, subst (λ n. Begun (set l.out l.count c.place.result) a (l.j + 1) (l.count + n)) (sym c.taken-count.ensures) next)

pub loop-j-init : goal.loop-j-init
loop-j-init c = (omega arith, begun_none _)

pub offset_bounds-out-count : goal.offset_bounds-out-count
offset_bounds-out-count c = omega (arith, few (goal.at.offset_bounds-out-count c).After-place)

pub bounds-out-count : goal.bounds-out-count
bounds-out-count c = omega (arith, few (goal.at.bounds-out-count c).After-place)

pub overflow_add-count : goal.overflow_add-count
overflow_add-count c = omega (arith, few (goal.at.overflow_add-count c).After-place, c.taken-count.ensures, taken-le c.args.a c.loop-j.j)

pub returns : goal.returns
returns c = begun_all _ _ _ _ c.loop-j.invariant.1 (omega arith)
