-- `rows_lacking` meets its contract. The loop's invariant: the first k places hold what their rows lack, the others zero.
use mathlib.Core.Path.{◌≡◌}
use Prim.Native.Nat.{◌≤◌}
use Rattle.mistyped_entries.specs.Lacking.{all_lacking}
use Rattle.mistyped_entries.proofs.rows_lacking.Given as goal

abbrev pub invariant-loop-k : goal.invariant-loop-k
invariant-loop-k l = (l.k ≤ l.params.const_agg_length) × (l.params.const_agg_length ≤ 32) × (l.rows ≡ all_lacking l.job l.randomness l.transcript l.k)
