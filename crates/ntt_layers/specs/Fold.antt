-- Reduction modulo a prime 2^27 − d.
use Rattle.std.specs.Prelude.{◌≡◌, ℕ, ◌+◌, ◌-◌, ◌*◌, ◌/◌, ◌%◌}

-- the prime
abbrev pub prime : ℕ → ℕ
prime d = 134217728 - d

-- 2^27 is d modulo the prime: the part from bit 27 on times d, and the part below
unfoldable pub fold : ℕ → ℕ → ℕ
fold d z = z / 134217728 * d + z % 134217728

-- folded twice
unfoldable pub reduced : ℕ → ℕ → ℕ
reduced d z = fold d (fold d z)

-- 2^32 divided out (Montgomery): with the multiple of the prime added that makes z a multiple of 2^32
unfoldable pub montgomery : ℕ → ℕ → ℕ → ℕ
montgomery d neginv z = (z + z * neginv % 4294967296 * prime d) / 4294967296

-- `neginv` is minus the prime's inverse modulo 2^32
abbrev pub Opposite : ℕ → ℕ → Type 0
Opposite d neginv = (neginv * prime d + 1) % 4294967296 ≡ 0

-- then this is the inverse of 2^32 modulo the prime
abbrev pub inverse32 : ℕ → ℕ → ℕ
inverse32 d neginv = (neginv * prime d + 1) / 4294967296
