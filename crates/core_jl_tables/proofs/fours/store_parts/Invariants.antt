-- `store_parts` meets its contract. The invariant: the elements of the first k are stored.
use Rattle.std.proofs.Common.{◌≡◌, ◌≤◌, length}
use Rattle.math.specs.lists.Table.{table}
use Rattle.spec_protocol.specs.Formulas.{flat}
use Rattle.core_jl_tables.specs.Fours.{summed_element, spread}
use Rattle.core_jl_tables.proofs.fours.store_parts.Given as goal

abbrev pub invariant-loop-k : goal.invariant-loop-k
invariant-loop-k l = let k = l.k in (k ≤ 4) × (l.out ≡ spread l.initial.out l.at l.step k (λ k. flat (table l.n (summed_element l.sums k)))) × (length l.out ≡ length l.initial.out)
