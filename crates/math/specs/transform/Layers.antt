-- The transform of length 64 (document 02, Item 7), in six layers: after layer j the entry k belongs to block k mod 2^j, and holds a coefficient of
-- the remainder modulo X^(64/2^j) less the root's power `exponent j k`. After six layers entry k is the value at the root's power `exponent 6 k`.
use Rattle.std.specs.Prelude.{ℕ, zero, suc, ◌+◌, ◌*◌, ◌/◌, ◌%◌}
use Rattle.math.specs.algebra.Ops.{Ops}

-- the n-th power
unfoldable pub pow : (O : Ops) → O.Carrier → ℕ → O.Carrier
pow O g zero = O.one
pow O g (suc n) = O.mul (pow O g n) g

-- X^64 + 1 is X^64 less power 64, and X^(2m) less power 2e is the product of X^m less power e and X^m less power e + 64
unfoldable pub exponent : ℕ → ℕ → ℕ
exponent zero k = 64
exponent (suc j) k = exponent j (k / 2) / 2 + 64 * (k % 2)

-- layer j: entries k and k + 32 give the entries 2k and 2k + 1
unfoldable pub layer : (O : Ops) → O.Carrier → ℕ → (ℕ → O.Carrier) → ℕ → O.Carrier
layer O g j f k = O.add (f (k / 2)) (O.mul (pow O g (exponent (suc j) k)) (f (k / 2 + 32)))

-- the first j layers
unfoldable pub layers : (O : Ops) → O.Carrier → ℕ → (ℕ → O.Carrier) → ℕ → O.Carrier
layers O g zero f = f
layers O g (suc j) f = layer O g j (layers O g j f)
