-- Digits of cells that are stored one after the other.
use Rattle.std.specs.Prelude.{List, ℕ, ◌+◌, ◌*◌, ◌≤◌, ◌<◌, ◌^◌}
use Rattle.math.specs.lists.Part.{part}
use Rattle.ring_digit_products.specs.Forms.{SmallDigits}

-- few cells of few parts, whose digits are small where half the base is
pub record Stored (v : List ℕ) (at cells parts half : ℕ) : Type 0 where
  pub few_cells : cells ≤ 2 ^ 18
  pub few_parts : parts ≤ 32
  pub half_fits : half ≤ 2147483648
  pub small : half ≤ 2 ^ 15 → (c : ℕ) → c < cells → SmallDigits half (part v (at + 64 * (c * parts)) (64 * parts)) parts
