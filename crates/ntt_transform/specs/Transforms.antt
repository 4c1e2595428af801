-- The NTT modulo 2^27 − d and its inverse, layer by layer on words. `neginv` is minus the prime's inverse modulo 2^32, and w has the layers' twiddles from `at` on.
use Rattle.std.specs.Prelude.{List, ℕ, zero, suc, ◌+◌, ◌-◌, ◌*◌, ◌≤◌, ◌<◌, length, get_or}
use Rattle.ntt_layers.specs.Fold.{Opposite}
use Rattle.ntt_layers.specs.Layer.{layer_of, inverse_layer_of}
use Rattle.ntt_layers.specs.Words.{folded_of, reduced_of}

-- the first j layers
unfoldable pub layers_of : ℕ → ℕ → List ℕ → ℕ → List ℕ → ℕ → List ℕ
layers_of d neginv w at x zero = x
layers_of d neginv w at x (suc j) = layer_of d neginv w (at + 32 * j) (layers_of d neginv w at x j)

-- the transform
unfoldable pub forward_of : ℕ → ℕ → List ℕ → ℕ → List ℕ → List ℕ
forward_of d neginv w at a = folded_of d (layers_of d neginv w at (folded_of d a) 6)

-- j inverse layers, the last layer's first
unfoldable pub inverse_layers_of : ℕ → ℕ → List ℕ → ℕ → List ℕ → ℕ → List ℕ
inverse_layers_of d neginv w at y zero = y
inverse_layers_of d neginv w at y (suc j) = inverse_layer_of d neginv w (at + 32 * (5 - j)) (inverse_layers_of d neginv w at y j)

-- the inverse NTT
unfoldable pub inverse_transform_of : ℕ → ℕ → List ℕ → ℕ → List ℕ → List ℕ
inverse_transform_of d neginv w at s = inverse_layers_of d neginv w at (reduced_of d s) 6

-- 192 powers from `at` on, each below 2^27
pub record TwiddlesFit (d neginv : ℕ) (w : List ℕ) (at : ℕ) : Type 0 where
  pub small : d ≤ 2175
  pub opposite : Opposite d neginv
  pub within : at + 192 ≤ length w
  pub below : (m : ℕ) → m < 192 → get_or w (at + m) 0 < 134217728
