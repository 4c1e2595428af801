-- `first_crossed` meets its contract. The invariant: the first j pairs are in order.
use mathlib.Core.Path.{◌≡◌}
use mathlib.Core.Bool.{cond}
use mathlib.Core.List.{List}
use Prim.Native.Nat.{ℕ, ◌≤◌}
use lib.IntN.{ℤ}
use lib.Signed.{le_z}
use Rattle.spec_leaves.specs.Answer.{Answer, fine, refused}
use Rattle.spec_protocol.specs.Checks.{first}
use Rattle.spec_protocol.specs.Ranges.{number_at}
use Rattle.ranges_vectors.proofs.pairs.first_crossed.Given as goal

-- the test of pair j
abbrev pub test : (lows highs : List ℤ) → ℕ → Answer
test lows highs j = cond (le_z (number_at lows j) (number_at highs j)) fine (refused 36 j)

abbrev pub invariant-loop-j : goal.invariant-loop-j
invariant-loop-j l = (l.j ≤ l.count) × (first l.j (test l.lows l.highs) ≡ fine)
