-- `four` meets its contract. The invariant: each sum is that of the first i products from its place on.
use mathlib.Core.Path.{◌≡◌}
use mathlib.Core.List.{List}
use Prim.Native.Nat.{ℕ, ◌+◌, ◌*◌, ◌≤◌, ◌^◌}
use lib.ListN.{get_or}
use Rattle.math.specs.lists.Sum.{Σ}
use Rattle.ring_digit_products.proofs.small.four.Given as goal

-- product i from a place on
abbrev pub term : List ℕ → List ℕ → ℕ → ℕ → ℕ
term x y at i = get_or x i 0 * get_or y (at + i) 0

-- the sum of the first i products from a place on
abbrev pub begun : (x y : List ℕ) (at start i sum : ℕ) → Type 0
begun x y at start i sum = (sum ≡ start + Σ i (term x y at)) × (sum ≤ start + 2 ^ 48 * i)

abbrev pub invariant-loop-i : goal.invariant-loop-i
invariant-loop-i l =
    (l.i ≤ 64) × begun l.x l.y l.at l.start l.i l.a × begun l.x l.y (l.at + 1) l.start l.i l.b × begun l.x l.y (l.at + 2) l.start l.i l.c × begun l.x l.y (l.at + 3) l.start l.i l.d
