-- `parts_needed` meets its contract. The invariant: r is what the parts reach, at least 1 a part, and fewer parts do not reach the greatest size.
use mathlib.Core.Path.{◌≡◌}
use Prim.Native.Nat.{ℕ, ◌-◌, ◌≤◌, ◌<◌}
use Rattle.spec_leaves.specs.Zq.{half_Q}
use Rattle.spec_leaves.proofs.Recompose.{reach}
use Rattle.api_recompose.proofs.parts.parts_needed.Given as goal

abbrev pub invariant-loop-reach : goal.invariant-loop-reach
invariant-loop-reach l = (l.reach ≡ reach l.base l.parts) × (l.parts ≤ l.reach) × ((fewer : ℕ) → fewer < l.parts → reach l.base fewer < half_Q)

abbrev pub decreases-loop-reach : goal.decreases-loop-reach
decreases-loop-reach l = half_Q - l.reach
