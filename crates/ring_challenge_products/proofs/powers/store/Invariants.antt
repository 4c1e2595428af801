-- `store` meets its contract. The invariant: the rows of the first i elements are stored.
use mathlib.Core.Path.{◌≡◌}
use Prim.Native.Nat.{ℕ, ◌+◌, ◌*◌, ◌≤◌, ◌<◌}
use lib.ListN.{length}
use Rattle.math.specs.lists.Part.{part}
use Rattle.ring_challenge_products.specs.Powers.{RowOf}
use Rattle.ring_challenge_products.proofs.powers.store.Given as goal

abbrev pub invariant-loop-i : goal.invariant-loop-i
invariant-loop-i l =
    (l.i ≤ l.r) × ((q : ℕ) → q < l.i → RowOf (part l.powers (64 * q) 64) (part l.c (l.at + 64 * q) 64)) × (length l.powers ≡ length l.initial.powers)
