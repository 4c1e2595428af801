-- One layer of the NTT on 64 words, and one of the inverse NTT. d says the prime, `neginv` is minus its inverse modulo 2^32, and w has twiddles, powers of its root times 2^32, from `at` on.
use Rattle.std.specs.Prelude.{cond, List, ℕ, ◌+◌, ◌-◌, ◌*◌, ◌/◌, ◌%◌, ◌≤◌, ◌<◌, ltb, eqb, length, get_or}
use Rattle.math.specs.lists.Table.{table}
use Rattle.math.specs.lists.Part.{splice}
use Rattle.ntt_layers.specs.Fold.{prime, fold, montgomery, Opposite}

-- the upper entry t times its power
unfoldable pub turned : ℕ → ℕ → List ℕ → ℕ → List ℕ → ℕ → ℕ
turned d neginv w at x t = montgomery d neginv (get_or w (at + t) 0 * get_or x (t + 32) 0)

-- entry k after the layer: a sum where k is even, a difference where it is odd
unfoldable pub layer_at : ℕ → ℕ → List ℕ → ℕ → List ℕ → ℕ → ℕ
layer_at d neginv w at x k =
    cond (eqb (k % 2) 0)
    (get_or x (k / 2) 0 + turned d neginv w at x (k / 2))
    (get_or x (k / 2) 0 + (3 * prime d - turned d neginv w at x (k / 2)))

-- the layer
unfoldable pub layer_of : ℕ → ℕ → List ℕ → ℕ → List ℕ → List ℕ
layer_of d neginv w at x = table 64 (layer_at d neginv w at x)

-- the upper half turned
unfoldable pub turned_of : ℕ → ℕ → List ℕ → ℕ → List ℕ → List ℕ
turned_of d neginv w at x = splice x 32 (table 32 (turned d neginv w at x))

-- entry k of the sums and differences of two halves
unfoldable pub spread_at : ℕ → List ℕ → ℕ → ℕ
spread_at d x k = cond (eqb (k % 2) 0) (get_or x (k / 2) 0 + get_or x (k / 2 + 32) 0) (get_or x (k / 2) 0 + (3 * prime d - get_or x (k / 2 + 32) 0))

-- the sums and differences
unfoldable pub spread_of : ℕ → List ℕ → List ℕ
spread_of d x = table 64 (spread_at d x)

-- the lower entry t of the inverse layer, doubled
unfoldable pub lower_at : ℕ → List ℕ → ℕ → ℕ
lower_at d y t = fold d (get_or y (2 * t) 0 + get_or y (2 * t + 1) 0)

-- and the upper: w has minus the inverse of the layer's power t
unfoldable pub upper_at : ℕ → ℕ → List ℕ → ℕ → List ℕ → ℕ → ℕ
upper_at d neginv w at y t = montgomery d neginv (get_or w (at + t) 0 * (get_or y (2 * t + 1) 0 + (3 * prime d - get_or y (2 * t) 0)))

-- entry k of the inverse layer
abbrev pub inverse_layer_at : ℕ → ℕ → List ℕ → ℕ → List ℕ → ℕ → ℕ
inverse_layer_at d neginv w at y k = cond (ltb k 32) (lower_at d y k) (upper_at d neginv w at y (k - 32))

-- the inverse layer
unfoldable pub inverse_layer_of : ℕ → ℕ → List ℕ → ℕ → List ℕ → List ℕ
inverse_layer_of d neginv w at y = table 64 (inverse_layer_at d neginv w at y)

-- 32 powers from `at` on, each below 2^27
pub record Powers (d neginv : ℕ) (w : List ℕ) (at : ℕ) : Type 0 where
  pub small : d ≤ 2175
  pub opposite : Opposite d neginv
  pub within : at + 32 ≤ length w
  pub below : (t : ℕ) → t < 32 → get_or w (at + t) 0 < 134217728

-- what a layer takes: entries that leave room for three times the prime in a word
pub record LayerFits (d neginv : ℕ) (w : List ℕ) (at : ℕ) (x : List ℕ) : Type 0 where
  pub powers : Powers d neginv w at
  pub room : (k : ℕ) → k < 64 → get_or x k 0 < 3892314112

-- what sums and differences take: room for three times the prime, and an upper half below that
pub record SpreadFits (d : ℕ) (x : List ℕ) : Type 0 where
  pub small : d ≤ 2175
  pub room : (t : ℕ) → t < 32 → get_or x t 0 < 3892314112
  pub upper : (t : ℕ) → t < 32 → get_or x (t + 32) 0 ≤ 285600000

-- what an inverse layer takes: entries below three times the prime
pub record InverseLayerFits (d neginv : ℕ) (w : List ℕ) (at : ℕ) (y : List ℕ) : Type 0 where
  pub powers : Powers d neginv w at
  pub room : (k : ℕ) → k < 64 → get_or y k 0 ≤ 285600000
