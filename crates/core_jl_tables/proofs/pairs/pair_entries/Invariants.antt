-- `pair_entries` meets its contract. The invariant: the first k entries are stored.
use Rattle.std.proofs.Common.{◌≡◌, ◌+◌, ◌*◌, ◌≤◌, length}
use Rattle.math.specs.lists.Table.{table}
use Rattle.math.specs.lists.Part.{splice}
use Rattle.core_jl_tables.specs.Pairs.{pair_sum}
use Rattle.core_jl_tables.proofs.pairs.pair_entries.Given as goal

abbrev pub invariant-loop-k : goal.invariant-loop-k
invariant-loop-k l = let k = l.k in (k ≤ 4) × (l.sums ≡ splice l.initial.sums l.to (table k (λ k. pair_sum l.randomness (l.at + k * 256) l.x))) × (length l.sums ≡ length l.initial.sums)
