-- `aggregate` meets its contract. The invariant: the first c elements are stored, and what they are made of is as it was.
use mathlib.Core.Path.{◌≡◌}
use Prim.Native.Nat.{◌≤◌}
use lib.ListN.{length}
use Rattle.math.specs.lists.Table.{table}
use Rattle.math.specs.lists.Part.{splice}
use Rattle.spec_protocol.specs.Formulas.{flat}
use Rattle.ring_inner_product.specs.Run.{further}
use Rattle.core_aggregate.specs.Weighed.{mixed}
use Rattle.core_aggregate.proofs.aggregate.Given as goal

abbrev pub invariant-loop-c : goal.invariant-loop-c
invariant-loop-c l =
    let c = l.c in (c ≤ l.width)
    × (l.scratch ≡ splice l.initial.scratch l.to (flat (table c (λ c. mixed l.job (further l.constraints c) l.weights l.alpha l.beta l.initial.scratch (further l.aggregated c)))))
    × (length l.scratch ≡ length l.initial.scratch)
