-- What the sums of check 22 are, over the places of their words.
use Rattle.std.specs.Prelude.{List, ℕ, ◌+◌, ◌*◌, ◌%◌, get_or}
use Rattle.math.specs.lists.Sum.{Σ}
use Rattle.spec_leaves.specs.Zq.{Q}

-- Σ x_k·y_k over the words from two places on
abbrev pub products : List ℕ → ℕ → List ℕ → ℕ → ℕ → ℕ
products x i y j count = Σ count (λ k. get_or x (i + k) 0 * get_or y (j + k) 0)

-- "Σ psi[k][l]·b0[l] + Σ omega[k][j]·p[j]", of a row of psi and one of omega
abbrev pub constant_term : List ℕ → ℕ → ℕ → List ℕ → ℕ → ℕ → List ℕ → ℕ → ℕ
constant_term J b0 l R psi om T projection = (products R psi J b0 l + products R om T projection 256) % Q
