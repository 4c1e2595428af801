-- n times the product of the same pair.
use Rattle.std.specs.Prelude.{cond, List, ℕ, ltb}
use Rattle.math.specs.lists.Table.{table}
use Rattle.math.specs.lists.Sum.{Σ}
use Rattle.spec_leaves.specs.Zq.{zsub}
use Rattle.spec_leaves.specs.Rq.{low, high}

-- at most 64
abbrev pub terms_of : ℕ → ℕ
terms_of n = cond (ltb n 64) n 64

-- the sum of n products a·b
unfoldable pub repeated : ℕ → List ℕ → List ℕ → List ℕ
repeated n a b = table 64 (λ k. zsub (Σ n (λ m. low a b k)) (Σ n (λ m. high a b k)))
