-- `mix_run` meets its contract. The invariant: the first m elements are stored, and the sums of every k are those of m products.
use mathlib.Core.Path.{◌≡◌}
use Prim.Native.Nat.{◌≤◌}
use lib.ListN.{length}
use Rattle.math.specs.lists.Table.{table}
use Rattle.math.specs.lists.Part.{splice}
use Rattle.spec_protocol.specs.Formulas.{flat}
use Rattle.core_aggregate_ntt.specs.Pass.{column_mixed}
use Rattle.core_aggregate_ntt.proofs.OnePassForms.{Lines}
use Rattle.core_aggregate_ntt.proofs.one_pass.mix_run.Given as goal

abbrev pub invariant-loop-m : goal.invariant-loop-m
invariant-loop-m l =
    (l.m ≤ l.n)
    × (l.scratch ≡ splice l.initial.scratch l.to (flat (table l.m (column_mixed l.job l.constraints l.initial.scratch l.aggregated l.weights))))
    × (length l.scratch ≡ length l.initial.scratch)
    × (length l.forms ≡ 6144)
    × Lines l.initial.scratch l.aggregated l.witness l.s_at l.forms l.m
