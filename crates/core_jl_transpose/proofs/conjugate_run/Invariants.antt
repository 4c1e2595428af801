-- `conjugate_run` meets its contract. The invariant: the first m elements are conjugated.
use Rattle.std.proofs.Common.{◌≡◌, ◌≤◌, length}
use Rattle.math.specs.lists.Table.{table}
use Rattle.math.specs.lists.Part.{splice}
use Rattle.spec_leaves.specs.Ring.{conj}
use Rattle.spec_protocol.specs.Views.{element_at}
use Rattle.spec_protocol.specs.Formulas.{flat}
use Rattle.core_jl_transpose.proofs.conjugate_run.Given as goal

abbrev pub invariant-loop-m : goal.invariant-loop-m
invariant-loop-m l =
    (l.m ≤ l.n) × (l.out ≡ splice l.initial.out l.at (flat (table l.m (λ q. conj (element_at l.initial.out l.at q))))) × (length l.out ≡ length l.initial.out)
