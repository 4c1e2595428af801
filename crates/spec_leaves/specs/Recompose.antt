-- Digits put together again (document 02, Item 2).
use Rattle.std.specs.Prelude.{◌≡◌, List, ℕ, ◌*◌, ◌%◌, ◌^◌, ◌<◌, length, get_or}
use Rattle.math.specs.lists.Sum.{Σ}
use Rattle.spec_leaves.specs.Zq.{Q, top_Q, Canonical}
use Rattle.spec_leaves.specs.Digits.{leftover}
use Rattle.spec_leaves.specs.Answer.{Answer, below, ◌then◌}
use Rattle.spec_leaves.specs.Leaf.{limited_by}

-- "Σ digit·b^i modulo Q"
unfoldable pub recompose : ℕ → List ℕ → ℕ
recompose b ds = Σ (length ds) (λ i. get_or ds i 0 * b ^ i) % Q

-- the number of parts "leaves nothing of any value"
abbrev pub Enough : ℕ → ℕ → Type 0
Enough b parts = (a : ℕ) → Canonical a → leftover b parts a ≡ 0

-- "for a base, the smallest number of parts that leaves nothing of any value"
pub record PartsNeeded (b parts : ℕ) : Type 0 where
  pub enough : Enough b parts
  pub least : (fewer : ℕ) → fewer < parts → ¬ Enough b fewer

-- "Both refuse with 31 a base (place 0) … outside document 01's limits"
abbrev pub base_found : ℕ → Answer
base_found base = limited_by 31 2 top_Q 0 base

-- "or number of parts (place 1, the count of digits handed in)", "and the first call after that with 6 a non-canonical digit (places from 2)"
abbrev pub digits_found : List ℕ → Answer
digits_found ds = limited_by 31 1 32 1 (length ds) then below Q 6 2 ds

-- what is found of a base and the digits to be put together
abbrev pub recompose_operands : ℕ → List ℕ → Answer
recompose_operands base ds = base_found base then digits_found ds
