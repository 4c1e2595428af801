-- Squared norms (document 01, "Leaves").
use Rattle.std.specs.Prelude.{List, ℕ, ◌*◌, length, get_or}
use Rattle.math.specs.lists.Sum.{Σ}
use Rattle.spec_leaves.specs.Zq.{size}

-- the square of the centre of a canonical value
abbrev pub square : ℕ → ℕ
square a = size a * size a

-- "Norms sum centred squares."
unfoldable pub norm : List ℕ → ℕ
norm a = Σ (length a) (λ i. square (get_or a i 0))
