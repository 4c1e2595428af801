-- The three primes and the powers of their roots (document 02, Item 7).
use Rattle.std.specs.Prelude.{cond, List, ℕ, zero, suc, ◌+◌, ◌-◌, ◌*◌, ◌/◌, ◌%◌, eqb, ltb}
use Rattle.math.specs.lists.Table.{table}
use Rattle.math.specs.transform.Layers.{exponent}
use Rattle.ntt_layers.specs.Fold.{prime}

-- prime i is 2^27 less this: 134217089, 134215681 and 134215553, each one more than a multiple of 128
abbrev pub delta : ℕ → ℕ
delta zero = 639
delta (suc zero) = 2047
delta (suc (suc i)) = 2175

-- its root, whose 64th power is −1
abbrev pub root : ℕ → ℕ
root zero = 43629474
root (suc zero) = 42283728
root (suc (suc i)) = 63428141

-- minus its inverse modulo 2^32
abbrev pub opposite : ℕ → ℕ
opposite zero = 3898195327
opposite (suc zero) = 130021375
opposite (suc (suc i)) = 2442639231

-- the entry of the table after entry k: 1 where a prime begins, else the one before times the root
abbrev pub next : ℕ → ℕ → ℕ
next k before = cond (eqb (suc k % 128) 0) 1 (before * root (suc k / 128) % prime (delta (suc k / 128)))

-- entry k of the table: power k mod 128 of root k / 128
unfoldable pub entry : ℕ → ℕ
entry zero = 1
entry (suc k) = next k (entry k)

-- entry k times 2^32, modulo its prime
unfoldable pub scaled : ℕ → ℕ
scaled k = entry k * 4294967296 % prime (delta (k / 128))

-- where the power stands that layer j of prime i takes at t, for m = 192·i + 32·j + t
abbrev pub layer_index : ℕ → ℕ
layer_index m = m / 192 * 128 + exponent (m % 192 / 32) (m % 192 % 32) / 2

-- after 576 of these those of the inverse NTT, where t goes from 31 down: power 31 − t is minus the inverse of power t
abbrev pub index_of : ℕ → ℕ
index_of m = layer_index (cond (ltb m 576) m ((m - 576) / 32 * 32 + (31 - (m - 576) % 32)))

-- that power, times 2^32
unfoldable pub twiddle : ℕ → ℕ
twiddle m = scaled (index_of m)

-- all of them
unfoldable pub twiddle_table : List ℕ
twiddle_table = table 1152 twiddle
