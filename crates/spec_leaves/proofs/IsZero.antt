-- When all 64 words of a list are 0.
use mathlib.Core.Path.{◌≡◌, ap, ◌∙◌}
use mathlib.Core.Bool.{true, false}
use mathlib.Core.List.{List, List-discrete}
use Prim.Native.Nat.{ℕ, ◌<◌}
use native.Mathlib.Decide.{ℕ_discrete}
use lib.ListN.{length}
use Rattle.math.proofs.lists.Table.{is_table, get_or-table}
use Rattle.spec_leaves.specs.Rq.{coeff, rzero, is_zero}
use Rattle.spec_leaves.proofs.Cases.{decided, not_decided}

-- words that are all 0
pub all_zero : (a : List ℕ) → length a ≡ 64 → ((j : ℕ) → j < 64 → coeff a j ≡ 0) → is_zero a ≡ true
unfolding is_zero rzero
all_zero a size zeros = decided (List-discrete ℕ_discrete a rzero) (is_table 64 a (λ j. 0) 0 size zeros)

-- a word that is not
pub not_zero : (a : List ℕ) (j : ℕ) → j < 64 → (coeff a j ≡ 0 → ⊥) → is_zero a ≡ false
unfolding is_zero rzero
not_zero a j h bad = not_decided (List-discrete ℕ_discrete a rzero) (λ e. bad (ap (λ l. coeff l j) e ∙ get_or-table 64 (λ k. 0) j 0 h))
