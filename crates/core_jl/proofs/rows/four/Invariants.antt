-- `four` meets its contract. The invariant: each row's halves are those of its first m words.
use Prim.Native.Nat.{◌≤◌}
use Rattle.core_jl.proofs.Made.{Begun}
use Rattle.core_jl.proofs.rows.four.Given as goal

abbrev pub invariant-loop-m : goal.invariant-loop-m
invariant-loop-m l =
    (l.m ≤ l.count)
    × Begun l.randomness l.at l.witness l.wt l.m l.a.low l.a.high l.a.negatives
    × Begun l.randomness l.second l.witness l.wt l.m l.b.low l.b.high l.b.negatives
    × Begun l.randomness l.third l.witness l.wt l.m l.c.low l.c.high l.c.negatives
    × Begun l.randomness l.fourth l.witness l.wt l.m l.d.low l.d.high l.d.negatives
