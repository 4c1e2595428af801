-- `mix_runs` meets its contract. The invariant: the elements of the first b blocks are stored, and the totals have their inner products.
use mathlib.Core.Path.{◌≡◌}
use Prim.Native.Nat.{ℕ, ◌-◌, ◌*◌}
use lib.ListN.{length}
use Rattle.math.specs.lists.Part.{splice}
use Rattle.core_aggregate_ntt.specs.Pass.{φ_mixed, HasLines}
use Rattle.core_aggregate_ntt.proofs.one_pass.mix_runs.Given as goal

-- how many elements the first b blocks have: 512 each, but the last may have fewer
abbrev pub taken : (width b : ℕ) → ℕ
taken width b = 512 * b - (512 * b - width)

abbrev pub invariant-loop-b : goal.invariant-loop-b
invariant-loop-b l =
    (l.scratch ≡ splice l.initial.scratch l.to (φ_mixed l.job l.constraints l.initial.scratch l.aggregated l.weights (taken l.width l.b)))
    × (length l.scratch ≡ length l.initial.scratch)
    × HasLines l.totals l.initial.totals l.initial.scratch l.aggregated l.witness l.s_at (taken l.width l.b)
    × (length l.totals ≡ length l.initial.totals)
