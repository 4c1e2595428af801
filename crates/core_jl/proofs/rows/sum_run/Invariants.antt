-- `sum_run` meets its contract. The invariant: the sums are those of the vectors before i.
use mathlib.Core.Path.{◌≡◌}
use Prim.Native.Nat.{◌-◌, ◌≤◌}
use Rattle.math.specs.lists.Table.{table}
use Rattle.core_jl.specs.Run.{made_sum}
use Rattle.core_jl.proofs.rows.sum_run.Given as goal

abbrev pub invariant-loop-i : goal.invariant-loop-i
invariant-loop-i l =
    (l.i - l.first ≤ l.end - l.first) × (l.sums ≡ table 256 (made_sum l.randomness l.pi_at l.witness l.s_at l.n l.first (l.i - l.first)))
