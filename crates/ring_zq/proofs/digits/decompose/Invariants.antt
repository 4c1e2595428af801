-- `decompose` meets its contract. The invariant: the size is that after k digits, and the first k places have them.
use Rattle.std.proofs.Common.{◌≡◌, ℕ, ◌≤◌, Bool}
use mathlib.Core.Bool.{xor}
use Rattle.math.specs.lists.Table.{padded}
use Rattle.spec_leaves.specs.Zq.{size}
use Rattle.spec_leaves.specs.Digits.{size_after, signed, rem_below, rem_size}
use Rattle.ring_zq.proofs.digits.decompose.Given as goal

-- digit k of a sign and a size
unfoldable pub digit_of : Bool → ℕ → ℕ → ℕ → ℕ
digit_of negative base size k = signed (xor negative (rem_below base (size_after base k size))) (rem_size base (size_after base k size))

abbrev pub invariant-loop-k : goal.invariant-loop-k
invariant-loop-k l =
    (l.k ≤ l.parts) × (l.size ≡ size_after l.base l.k l.initial.size) × (l.places ≡ padded 32 l.k 0 (digit_of l.negative l.base l.initial.size))
