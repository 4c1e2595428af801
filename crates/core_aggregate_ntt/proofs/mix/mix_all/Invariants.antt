-- `mix_all` meets its contract. The invariant: the first c elements are stored, and what they are made of is as it was.
use mathlib.Core.Path.{◌≡◌}
use Prim.Native.Nat.{◌≤◌}
use lib.ListN.{length}
use Rattle.math.specs.lists.Table.{table}
use Rattle.math.specs.lists.Part.{splice}
use Rattle.spec_protocol.specs.Formulas.{flat}
use Rattle.ring_inner_product.specs.Run.{further}
use Rattle.core_aggregate_ntt.specs.Terms.{ntt_mixed}
use Rattle.core_aggregate_ntt.proofs.mix.mix_all.Given as goal

abbrev pub invariant-loop-c : goal.invariant-loop-c
invariant-loop-c l =
    let c = l.c in (c ≤ l.width)
    × (l.scratch ≡ splice l.initial.scratch l.to (flat (table c (λ c. ntt_mixed l.job (further l.constraints c) l.initial.scratch (further l.aggregated c) l.weights))))
    × (length l.scratch ≡ length l.initial.scratch)
