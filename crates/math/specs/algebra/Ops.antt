-- The operations of a ring, without laws, and the finite sums, inner products and linear combinations that they give.
use Rattle.std.specs.Prelude.{ℕ, zero, suc}

-- a type with addition, multiplication, negation, zero and one
pub record Ops : Type 1 where
  pub Carrier : Type 0
  pub add : Carrier → Carrier → Carrier
  pub mul : Carrier → Carrier → Carrier
  pub neg : Carrier → Carrier
  pub nil : Carrier
  pub one : Carrier

-- f 0 + f 1 + … + f (n − 1)
unfoldable pub sum : (O : Ops) → ℕ → (ℕ → O.Carrier) → O.Carrier
sum O zero f = O.nil
sum O (suc n) f = O.add (sum O n f) (f n)

-- the inner product of the first n entries: f 0 · g 0 + … + f (n − 1) · g (n − 1)
unfoldable pub dot : (O : Ops) → ℕ → (ℕ → O.Carrier) → (ℕ → O.Carrier) → O.Carrier
dot O n f g = sum O n (λ i. O.mul (f i) (g i))

-- the linear combination c 0 · v 0 + … + c (n − 1) · v (n − 1) of vectors, entry by entry
unfoldable pub comb : (O : Ops) → ℕ → (ℕ → O.Carrier) → (ℕ → ℕ → O.Carrier) → ℕ → O.Carrier
comb O n c v k = sum O n (λ i. O.mul (c i) (v i k))

-- the sum over all pairs (i, j) of numbers below n
unfoldable pub pairs : (O : Ops) → ℕ → (ℕ → ℕ → O.Carrier) → O.Carrier
pairs O n f = sum O n (λ i. sum O n (λ j. f i j))

-- the quadratic form Σ a_ij · ⟨s_i, s_j⟩ + Σ ⟨φ_i, s_i⟩ of r vectors of n entries
unfoldable pub form : (O : Ops) (r n : ℕ) → (ℕ → ℕ → O.Carrier) → (ℕ → ℕ → O.Carrier) → (ℕ → ℕ → O.Carrier) → O.Carrier
form O r n a φ s = O.add (pairs O r (λ i j. O.mul (a i j) (dot O n (s i) (s j)))) (sum O r (λ i. dot O n (φ i) (s i)))
