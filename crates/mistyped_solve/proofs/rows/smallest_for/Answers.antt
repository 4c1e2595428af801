use Prim.Native.Nat.{◌+◌, ◌*◌, ◌<◌}
use native.Mathlib.Omega.{arith}
use lib.ListN.{length}
use Rattle.mistyped_solve.proofs.Taken.{taken_start, taken_next, taken_stop, taken-all}
use Rattle.mistyped_solve.proofs.rows.smallest_for.Goals.{In-loop-k}
use Rattle.mistyped_solve.proofs.rows.smallest_for.Goals as goal

-- the weight of row k lies within the randomness
within : (c : In-loop-k)
    → let s = c.args in
    s.at + c.loop-k.k * s.width < length s.randomness.now
within c = c.requires.rows_bound.1 c.loop-k.k (omega arith)

pub combine-requires : goal.combine-requires
combine-requires c =
    let l = c.loop-k in
    (l.invariant.1.reduced, c.requires.by_index l.k (omega arith))

pub returns-in_err-taken : goal.returns-in_err-taken
returns-in_err-taken c =
    let s = c.args in
    rw c.from_residual.ensures (taken_stop _ _ _ _ c.loop-k.invariant.1 c.combine.result c.in_err-taken.was c.combine.ensures s.rows (omega arith))

pub loop-k-preserved : goal.loop-k-preserved
loop-k-preserved c =
    let j = c.combine in
    let l = c.loop-k in
    (omega arith, taken_next _ _ _ _ l.invariant.1 j.result c.in_ok-taken.taken c.in_ok-taken.was j.ensures)

pub returns : goal.returns
returns c =
    let l = c.loop-k in
    let s = c.args in
    taken-all _ _ _ _ l.invariant.1 s.rows (omega arith) c.smallest.result c.smallest.ensures

pub loop-k-init : goal.loop-k-init
loop-k-init c = (omega arith, taken_start _ _ _ _)

pub overflow_mul-row : goal.overflow_mul-row
overflow_mul-row c = omega (arith, within (goal.at.overflow_mul-row c).In-loop-k)

pub overflow_add-row : goal.overflow_add-row
overflow_add-row c = omega (arith, within (goal.at.overflow_add-row c).In-loop-k)

pub offset_bounds-randomness-at : goal.offset_bounds-randomness-at
offset_bounds-randomness-at c = omega (arith, within (goal.at.offset_bounds-randomness-at c).In-loop-k)

pub bounds-randomness-at : goal.bounds-randomness-at
bounds-randomness-at c = within (goal.at.bounds-randomness-at c).In-loop-k

pub smallest-requires : goal.smallest-requires
smallest-requires c = c.loop-k.invariant.1.reduced
