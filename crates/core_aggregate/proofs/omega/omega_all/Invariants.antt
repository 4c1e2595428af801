-- `omega_all` meets its contract. The invariant: the regions of the first g fours are stored, or all.
use mathlib.Core.Path.{◌≡◌}
use Prim.Native.Nat.{ℕ, ◌-◌, ◌*◌}
use lib.ListN.{length}
use Rattle.math.specs.lists.Table.{cat}
use Rattle.math.specs.lists.Part.{splice}
use Rattle.spec_protocol.specs.Formulas.{flat}
use Rattle.core_aggregate.specs.Omega.{omega_rows}
use Rattle.core_aggregate.proofs.omega.omega_all.Given as goal

-- how many k the first g fours have: the last four end with the last k
abbrev pub taken : (aggregations g : ℕ) → ℕ
taken aggregations g = 4 * g - (4 * g - aggregations)

abbrev pub invariant-loop-g : goal.invariant-loop-g
invariant-loop-g l =
    (l.out ≡ splice l.initial.out l.to (flat (cat (taken l.aggregations l.g) (omega_rows l.randomness l.pi_at l.omega_at l.r l.n)))) × (length l.out ≡ length l.initial.out)
