-- `add_totals` meets its contract. The invariant: the first k sums are stored.
use mathlib.Core.Path.{◌≡◌}
use Prim.Native.Nat.{◌≤◌}
use lib.ListN.{length}
use Rattle.math.specs.lists.Table.{table}
use Rattle.math.specs.lists.Part.{splice}
use Rattle.spec_protocol.specs.Formulas.{flat}
use Rattle.core_aggregate_ntt.specs.Forms.{total}
use Rattle.core_aggregate_ntt.proofs.forms.add_totals.Given as goal

abbrev pub invariant-loop-k : goal.invariant-loop-k
invariant-loop-k l = (l.k ≤ l.count) × (l.totals ≡ splice l.initial.totals 0 (flat (table l.k (total l.initial.totals l.forms)))) × (length l.totals ≡ length l.initial.totals)
