-- `digits_norm` meets its contract. The invariant: the norms of the digits of the first c elements are summed.
use mathlib.Core.Path.{◌≡◌}
use Prim.Native.Nat.{◌*◌, ◌^◌, ◌≤◌}
use Rattle.math.specs.lists.Sum.{Σ}
use Rattle.ring_inner_product.specs.Run.{run}
use Rattle.spec_protocol.specs.Formulas.{one_if_left}
use Rattle.spec_protocol.specs.Conditions.{digits_norm}
use Rattle.ring_digit_norms.proofs.norm.digits_norm.Given as goal

abbrev pub invariant-loop-c : goal.invariant-loop-c
invariant-loop-c l =
    (l.c ≤ l.cells)
    × (l.total.norm ≡ Σ l.c (λ m. digits_norm l.base l.parts (run l.from l.at 64 m)))
    × (l.total.norm ≤ 2048 * l.c * 2 ^ 64)
    × (l.total.cells_left ≡ Σ l.c (λ m. one_if_left l.base l.parts (run l.from l.at 64 m)))
