-- "three primes below 2^31, each one more than a multiple of 128, with a product above 2^71" (document 02, Item 7), by computed tests.
use mathlib.Core.Path.{◌≡◌, refl}
use Prim.Native.Nat.{ℕ, zero, suc, ◌*◌, ◌%◌, ◌<◌, ◌^◌}
use lib.Dec.{ltb→lt}
use Rattle.math.proofs.transform.Trial.{Prime, prime-by_trial}
use Rattle.ntt_layers.specs.Fold.{prime}
use Rattle.ntt_transform.specs.Roots.{delta}

-- what is asked of each modulus
pub record Suited (p : ℕ) : Type 0 where
  pub is_prime : Prime p
  pub one_more : p % 128 ≡ 1
  pub small : p < 2 ^ 31

-- each of the three: no number from 2 to 11777 divides it, and 11778² is above it
pub suited : (i : ℕ) → i < 3 → Suited (prime (delta i))
suited zero h = record { is_prime = prime-by_trial 134217089 46 tt (ltb→lt 134217089 138721284 tt); one_more = refl; small = ltb→lt 134217089 2147483648 tt }
suited (suc zero) h = record { is_prime = prime-by_trial 134215681 46 tt (ltb→lt 134215681 138721284 tt); one_more = refl; small = ltb→lt 134215681 2147483648 tt }
suited (suc (suc i)) h = record { is_prime = prime-by_trial 134215553 46 tt (ltb→lt 134215553 138721284 tt); one_more = refl; small = ltb→lt 134215553 2147483648 tt }

-- they are three, the greatest first
pub falling : (prime (delta 2) < prime (delta 1)) × (prime (delta 1) < prime (delta 0))
falling = (ltb→lt (prime (delta 2)) (prime (delta 1)) tt, ltb→lt (prime (delta 1)) (prime (delta 0)) tt)

-- "with a product above 2^71"
pub product : 2 ^ 71 < prime (delta 0) * prime (delta 1) * prime (delta 2)
product = ltb→lt (2 ^ 71) (prime (delta 0) * prime (delta 1) * prime (delta 2)) tt
