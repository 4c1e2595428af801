-- `add_column` meets its contract. The invariant: the terms of the first k are added, and the places stand at the next.
use mathlib.Core.Path.{◌≡◌}
use Prim.Native.Nat.{◌+◌, ◌*◌, ◌≤◌}
use lib.ListN.{length}
use Rattle.math.specs.lists.Part.{splice}
use Rattle.core_aggregate_ntt.specs.Terms.{terms_added}
use Rattle.core_aggregate_ntt.specs.Forms.{forms_added}
use Rattle.core_aggregate_ntt.proofs.forms.add_column.Given as goal

abbrev pub invariant-loop-k : goal.invariant-loop-k
invariant-loop-k l =
    (l.k ≤ l.count)
    × (l.i ≡ l.initial.i + l.step * l.k)
    × (l.weight ≡ l.weights_at + 192 * l.k)
    × (l.sums ≡ terms_added l.initial.sums l.weights l.weights_at l.from l.initial.i l.step l.k)
    × (length l.sums ≡ length l.initial.sums)
    × (l.forms ≡ splice l.initial.forms 0 (forms_added l.initial.forms l.from l.initial.i l.step l.k l.s))
    × (length l.forms ≡ length l.initial.forms)
