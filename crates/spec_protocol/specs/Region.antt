-- What a region of a slice holds, element by element.
use Rattle.std.specs.Prelude.{◌≡◌, List, ℕ, ◌+◌, ◌*◌, ◌<◌}
use Rattle.spec_leaves.specs.Rq.{Element}
use Rattle.spec_protocol.specs.Views.{element_at, cell}

-- the elements from a place on are f 0, …, f (n − 1)
abbrev pub Elements : List ℕ → ℕ → ℕ → (ℕ → Element) → Type 0
Elements words at n f = (m : ℕ) → m < n → element_at words at m ≡ f m

-- cell (i, j) of a triangle of r rows from a place on is f i j, mirrored above the diagonal
abbrev pub Triangle : List ℕ → ℕ → ℕ → (ℕ → ℕ → Element) → Type 0
Triangle words at r f = (i j : ℕ) → i < r → j < r → element_at words at (cell i j) ≡ f i j

-- element m of vector i, of r vectors of n elements from a place on, is f i m
abbrev pub Vectors : List ℕ → ℕ → ℕ → ℕ → (ℕ → ℕ → Element) → Type 0
Vectors words at r n f = (i m : ℕ) → i < r → m < n → element_at words at (i * n + m) ≡ f i m
