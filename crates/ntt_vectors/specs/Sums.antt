-- Sums of products of values modulo the three primes: 192 numbers from a place on.
use Rattle.std.specs.Prelude.{◌≡◌, List, ℕ, ◌+◌, ◌*◌, ◌<◌, ◌^◌, get_or}
use Rattle.math.specs.lists.Table.{table}
use Rattle.math.specs.lists.Part.{part}
use Rattle.math.specs.lists.Sum.{Σ}
use Rattle.ntt_product.specs.NttForm.{inverse_ntt_of}
use Rattle.ntt_vectors.specs.NttForm.{ntt_form}

-- sum k from a place on with its product added
abbrev pub product_added : List ℕ → ℕ → List ℕ → ℕ → List ℕ → ℕ → ℕ → ℕ
product_added sums at x x-at y y-at k = get_or sums (at + k) 0 + get_or x (x-at + k) 0 * get_or y (y-at + k) 0

-- there is room for the products of n values
abbrev pub ProductsRoom : ℕ → List ℕ → ℕ → List ℕ → ℕ → List ℕ → ℕ → Type 0
ProductsRoom n sums at x x-at y y-at = (k : ℕ) → k < n → product_added sums at x x-at y y-at k < 2 ^ 64

-- there is room for the products of 192 values
abbrev pub NttRoom : List ℕ → ℕ → List ℕ → ℕ → List ℕ → ℕ → Type 0
NttRoom = ProductsRoom 192

-- those products added
unfoldable pub added : List ℕ → ℕ → List ℕ → ℕ → List ℕ → ℕ → List ℕ
added sums at x x-at y y-at = table 192 (product_added sums at x x-at y y-at)

-- the words of the element whose values the sums are
unfoldable pub inverse_from : List ℕ → ℕ → List ℕ
inverse_from sums at = inverse_ntt_of (part sums at 64) (part sums (at + 64) 64) (part sums (at + 128) 64)

-- the sum of n products of the value k of elements
abbrev pub product_sum : ℕ → (a b : ℕ → List ℕ) → ℕ → ℕ
product_sum n a b k = Σ n (λ m. get_or (ntt_form (a m)) k 0 * get_or (ntt_form (b m)) k 0)

-- a slice holds the sums of n products of elements' values
abbrev pub HoldsSums : List ℕ → (at n : ℕ) → (a b : ℕ → List ℕ) → Type 0
HoldsSums sums at n a b = (k : ℕ) → k < 192 → get_or sums (at + k) 0 ≡ product_sum n a b k
