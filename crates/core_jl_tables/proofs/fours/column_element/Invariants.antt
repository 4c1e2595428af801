-- `column_element` meets its contract. The invariant: the first w words are read, and the later ones zero.
use Rattle.std.proofs.Common.{◌≡◌, ◌+◌, ◌*◌, ◌≤◌, get_or}
use Rattle.math.specs.lists.Table.{padded}
use Rattle.core_jl_tables.specs.Pairs.{biased}
use Rattle.core_jl_tables.proofs.fours.column_element.Given as goal

abbrev pub invariant-loop-w : goal.invariant-loop-w
invariant-loop-w l = (l.w ≤ 64) × (l.coeffs ≡ padded 64 l.w 0 (λ i. biased (get_or l.sums (l.at + 4 * i) 0)))
