-- The forms in which products with digits take them.
use Rattle.std.specs.Prelude.{◌≡◌, List, ℕ, ◌+◌, ◌*◌, ◌%◌, ◌≤◌, ◌<◌, ◌^◌, length, get_or}
use Rattle.math.specs.lists.Table.{table}
use Rattle.math.specs.lists.Part.{part}
use Rattle.spec_leaves.specs.Zq.{Q, size}
use Rattle.ring_rq_product.specs.Product.{extended_coeff}

-- entry m of the coefficients of −a, then those of a, with half the base added modulo Q
abbrev pub shifted_coeff : ℕ → List ℕ → ℕ → ℕ
shifted_coeff half a m = (extended_coeff a m + half) % Q

-- the coefficients of −a, then those of a, each with half the base added modulo Q
unfoldable pub shifted : ℕ → List ℕ → List ℕ
shifted half a = table 128 (shifted_coeff half a)

-- the forms of n elements stand one after the other
pub record Formed (forms : List ℕ) (half : ℕ) (v : List ℕ) (n : ℕ) : Type 0 where
  pub room : 128 * n ≤ length forms
  pub each : (m : ℕ) → m < n → part forms (128 * m) 128 ≡ shifted half (part v (64 * m) 64)

-- the coefficients of n elements are canonical, and their sizes at most half the base
pub record SmallDigits (half : ℕ) (v : List ℕ) (n : ℕ) : Type 0 where
  pub canonical : (i : ℕ) → i < 64 * n → get_or v i 0 < Q
  pub within : (i : ℕ) → i < 64 * n → size (get_or v i 0) ≤ half

-- few digits and their forms; of a small base the digits are small
pub record DigitForms (forms : List ℕ) (half : ℕ) (v : List ℕ) (n : ℕ) : Type 0 where
  pub few : n ≤ 32
  pub formed : Formed forms half v n
  pub small : half ≤ 2 ^ 15 → SmallDigits half v n
