-- `store_part` meets its contract. The invariant: the first m elements are stored.
use Rattle.std.proofs.Common.{◌≡◌, ◌≤◌, length}
use Rattle.math.specs.lists.Table.{table}
use Rattle.math.specs.lists.Part.{splice}
use Rattle.spec_protocol.specs.Formulas.{flat}
use Rattle.core_jl_tables.specs.Fours.{summed_element}
use Rattle.core_jl_tables.proofs.fours.store_part.Given as goal

abbrev pub invariant-loop-m : goal.invariant-loop-m
invariant-loop-m l = (l.m ≤ l.n) × (l.out ≡ splice l.initial.out l.at (flat (table l.m (summed_element l.sums l.k)))) × (length l.out ≡ length l.initial.out)
