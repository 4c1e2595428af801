-- `store_rows` meets its contract. The invariant: the words of the first k rows are stored.
use mathlib.Core.Path.{◌≡◌}
use mathlib.Core.List.{List, []}
use Prim.Native.Nat.{ℕ, ◌-◌, ◌*◌, ◌≤◌}
use lib.ListN.{length, get_or}
use Rattle.math.specs.lists.Table.{cat}
use Rattle.math.specs.lists.Part.{splice}
use Rattle.api_leaf_answers.proofs.digits.store_rows.Given as goal

-- the words of the first k rows are stored
abbrev pub Stored : List ℕ → (ℕ → List ℕ) → ℕ → List ℕ → Type 0
Stored out₀ f k out = (length (cat k f) ≡ 64 * k) × (out ≡ splice out₀ 0 (cat k f))

abbrev pub invariant-loop-k : goal.invariant-loop-k
invariant-loop-k l = (l.k ≤ 32) × (length l.out ≡ length l.initial.out) × Stored l.initial.out (λ i. get_or l.rows i []) l.k l.out

abbrev pub decreases-loop-k : goal.decreases-loop-k
decreases-loop-k l = 32 - l.k
