-- What fine operands say of a base and a number of parts.
use mathlib.Core.Path.{◌≡◌}
use mathlib.Core.List.{List}
use Prim.Native.Nat.{ℕ, ◌≤◌, ◌<◌}
use Rattle.spec_leaves.specs.Zq.{Q, top_Q}
use Rattle.spec_leaves.specs.Answer.{fine, below, ◌then◌}
use Rattle.spec_leaves.specs.Leaf.{limited, digit_operands}
use Rattle.spec_leaves.proofs.Fine.{then_fine_left, then_fine_right}
use Rattle.spec_leaves.proofs.Leaf.{limited-fine}

-- where the operands of digits are fine the base and the number of parts are within their limits
pub digit-limits : (base parts : ℕ) (ws : List ℕ) → digit_operands base parts ws ≡ fine → (1 < base) × (parts ≤ 32)
digit-limits base parts ws e =
    let of-base = limited 2 top_Q 0 base in
    let of_parts = limited 1 32 1 parts in
    let l = then_fine_left (of-base then of_parts) (below Q 6 2 ws) e in
    ((limited-fine 4 2 top_Q 0 base (then_fine_left of-base of_parts l)).0, (limited-fine 4 1 32 1 parts (then_fine_right of-base of_parts l)).1)
