-- `clear_products` meets its contract. The invariant: the products of the windows before m are zero.
use mathlib.Core.Path.{◌≡◌}
use Prim.Native.Nat.{ℕ, ◌+◌, ◌-◌, ◌*◌, ◌≤◌, ◌<◌}
use lib.ListN.{replicate}
use Rattle.math.specs.lists.Part.{part}
use Rattle.spec_protocol.specs.Unchanged.{Unchanged}
use Rattle.verify_many_rows.proofs.rows.clear_products.Given as goal

abbrev pub invariant-loop-m : goal.invariant-loop-m
invariant-loop-m l =
    (l.m ≤ l.count)
    × (l.start ≡ l.m * l.need)
    × ((k : ℕ) → k < l.m → part l.scratch (k * l.need + (l.need - 4096)) 4096 ≡ replicate 4096 0)
    × Unchanged (l.count * l.need) l.initial.scratch l.scratch
