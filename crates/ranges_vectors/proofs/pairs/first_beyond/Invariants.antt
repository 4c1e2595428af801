-- `first_beyond` meets its contract. The invariant: each number of the first j pairs is a centre.
use mathlib.Core.Path.{◌≡◌}
use mathlib.Core.List.{List}
use Prim.Native.Nat.{ℕ, ◌≤◌}
use lib.IntN.{ℤ}
use Rattle.spec_leaves.specs.Answer.{Answer, fine, ◌then◌}
use Rattle.spec_protocol.specs.Checks.{first}
use Rattle.spec_protocol.specs.Ranges.{number_at, size_refusal}
use Rattle.ranges_vectors.proofs.pairs.first_beyond.Given as goal

-- the test of pair j
abbrev pub test : (lows highs : List ℤ) → ℕ → Answer
test lows highs j = size_refusal j (number_at lows j) then size_refusal j (number_at highs j)

abbrev pub invariant-loop-j : goal.invariant-loop-j
invariant-loop-j l = (l.j ≤ l.count) × (first l.j (test l.lows l.highs) ≡ fine)
