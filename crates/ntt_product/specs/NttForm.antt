-- NTT form (document 02, Item 7): values modulo the three primes, sums of their products, and the inverse NTT.
use Rattle.std.specs.Prelude.{◌≡◌, List, ℕ, zero, suc, ◌+◌, ◌*◌, ◌%◌, ◌<◌, ◌^◌, get_or}
use Rattle.math.specs.lists.Table.{table}
use Rattle.math.specs.lists.Sum.{Σ}
use Rattle.spec_leaves.specs.Zq.{Q}
use Rattle.ntt_layers.specs.Words.{remainders_of}
use Rattle.ntt_transform.specs.Roots.{delta, opposite, twiddle_table}
use Rattle.ntt_transform.specs.Transforms.{forward_of, inverse_transform_of}
use Rattle.ntt_product.specs.Crt.{crt_all_of}

-- the values of an element modulo prime i
unfoldable pub ntt_of : ℕ → List ℕ → List ℕ
ntt_of i a = forward_of (delta i) (opposite i) twiddle_table (192 * i) a

-- the values of an element modulo the three primes
pub record Transform (a first second third : List ℕ) : Type 0 where
  pub one : first ≡ ntt_of 0 a
  pub two : second ≡ ntt_of 1 a
  pub three : third ≡ ntt_of 2 a

-- the products of values added to the sums
unfoldable pub values_added : List ℕ → List ℕ → List ℕ → List ℕ
values_added s x y = table 64 (λ k. get_or s k 0 + get_or x k 0 * get_or y k 0)

-- with which the sums fit a u64
abbrev pub ProductsFit : List ℕ → List ℕ → List ℕ → Type 0
ProductsFit s x y = (k : ℕ) → k < 64 → get_or s k 0 + get_or x k 0 * get_or y k 0 < 2 ^ 64

-- the sums of n products of values modulo prime i
unfoldable pub sums_of : ℕ → ℕ → (ℕ → List ℕ) → (ℕ → List ℕ) → List ℕ
sums_of i n a b = table 64 (λ k. Σ n (λ m. get_or (ntt_of i (a m)) k 0 * get_or (ntt_of i (b m)) k 0))

-- the inverse of 64 modulo prime i
abbrev pub inverse64 : ℕ → ℕ
inverse64 zero = 132119947
inverse64 (suc zero) = 132118561
inverse64 (suc (suc i)) = 132118435

-- the most products in a sum: 2·512·64·2^64 is 2^80, which is below the product of the primes
abbrev pub most_products : ℕ
most_products = 512

-- 512·64·Q², a multiple of Q above what is taken off in every sum of 512 products
abbrev pub offset_Q : ℕ
offset_Q = most_products * (64 * (Q * Q))

-- and modulo prime i
abbrev pub offset : ℕ → ℕ
offset zero = offset_Q % 134217089
offset (suc zero) = offset_Q % 134215681
offset (suc (suc i)) = offset_Q % 134215553

-- the remainders by prime i of the coefficients plus 512·64·Q²
unfoldable pub scaled_of : ℕ → List ℕ → List ℕ
scaled_of i s = remainders_of (delta i) (inverse64 i) (offset i) (inverse_transform_of (delta i) (opposite i) twiddle_table (576 + 192 * i) s)

-- the coefficients modulo Q
unfoldable pub inverse_ntt_of : List ℕ → List ℕ → List ℕ → List ℕ
inverse_ntt_of s t u = crt_all_of (scaled_of 0 s) (scaled_of 1 t) (scaled_of 2 u)
