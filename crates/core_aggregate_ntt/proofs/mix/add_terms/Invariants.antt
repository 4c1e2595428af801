-- `add_terms` meets its contract. The invariant: the first m terms are added, and the places stand at the next.
use mathlib.Core.Path.{◌≡◌}
use Prim.Native.Nat.{◌+◌, ◌*◌, ◌≤◌}
use lib.ListN.{length}
use Rattle.core_aggregate_ntt.specs.Terms.{terms_added}
use Rattle.core_aggregate_ntt.proofs.mix.add_terms.Given as goal

abbrev pub invariant-loop-m : goal.invariant-loop-m
invariant-loop-m l =
    (l.m ≤ l.count)
    × (l.i ≡ l.initial.i + l.step * l.m)
    × (l.weight ≡ l.weights_at + 192 * l.m)
    × (l.sums ≡ terms_added l.initial.sums l.weights l.weights_at l.from l.initial.i l.step l.m)
    × (length l.sums ≡ length l.initial.sums)
