-- `row` meets its contract. The invariant: the places of the first j coefficients stand in front, and the later ones are that of the zeros.
use Prim.Native.Nat.{◌≤◌}
use Rattle.ring_challenge_products.proofs.Row.{Begun}
use Rattle.ring_challenge_products.proofs.powers.row.Given as goal

abbrev pub invariant-loop-j : goal.invariant-loop-j
invariant-loop-j l = (l.j ≤ 64) × Begun l.out l.a l.j l.count
