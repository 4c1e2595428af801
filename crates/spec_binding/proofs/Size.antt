-- The centred size of a difference, and its square.
use mathlib.Core.Path.{◌≡◌, subst}
use mathlib.Core.Bool.{cond}
use Prim.Native.Nat.{ℕ, ◌+◌, ◌-◌, ◌*◌, ◌%◌, ◌≤◌, ◌<◌}
use native.Mathlib.Nat.{mul-le-mul}
use native.Mathlib.Omega.{arith}
use Rattle.spec_leaves.specs.Zq.{Q, half_Q, Canonical, zsub, size}
use Rattle.spec_leaves.specs.Norm.{square}
use Rattle.spec_leaves.proofs.Cases.{ltb_cases}

-- what holds of a size's value holds of the size: x up to half of Q, or Q − x above
size-by : (P : ℕ → Type 0) (x : ℕ) → (half_Q < x → P (Q - x)) → (x ≤ half_Q → P x) → P (size x)
size-by P x f g = ltb_cases (λ t. P (cond t (Q - x) x)) half_Q x f g

-- the centred size of a difference is at most the sum of the sizes
pub size_of-difference : (a b : ℕ) → Canonical a → Canonical b → size (zsub a b) ≤ size a + size b
size_of-difference a b h k =
    ltb_cases (λ t. size (zsub a b) ≤ size a + size b) a b
    (λ l. by (zsub a b) (omega arith) (omega arith))
    (λ l. by (zsub a b) (omega arith) (omega arith))
  where
    by : (d : ℕ) → d < Q → (d + b) % Q ≡ a → size d ≤ size a + size b
    by d m e =
        size-by (λ n. n ≤ size a + size b) d
        (λ p. size-by (λ n. Q - d ≤ n + size b) a (λ q. size-by (λ n. Q - d ≤ Q - a + n) b (λ r. omega arith) (λ r. omega arith))
        (λ q. size-by (λ n. Q - d ≤ a + n) b (λ r. omega arith) (λ r. omega arith)))
        (λ p. size-by (λ n. d ≤ n + size b) a (λ q. size-by (λ n. d ≤ Q - a + n) b (λ r. omega arith) (λ r. omega arith)) (λ q. size-by (λ n. d ≤ a + n) b (λ r. omega arith) (λ r. omega arith)))

-- twice a product is at most the sum of the squares
pub twice_product : (x y : ℕ) → 2 * (x * y) ≤ x * x + y * y
twice_product x y = ltb_cases (λ t. 2 * (x * y) ≤ x * x + y * y) x y (λ l. of_larger x y (omega arith)) (λ l. omega (arith, of_larger y x l))
  where
    more : (x d : ℕ) → 2 * (x * (x + d)) ≤ x * x + (x + d) * (x + d)
    more x d = omega arith

    of_larger : (x y : ℕ) → x ≤ y → 2 * (x * y) ≤ x * x + y * y
    of_larger x y l = let e : x + (y - x) ≡ y = omega arith in subst (λ z. 2 * (x * z) ≤ x * x + z * z) e (more x (y - x))

-- the square of a difference is at most twice the squares together
pub square_of-difference : (a b : ℕ) → Canonical a → Canonical b → square (zsub a b) ≤ 2 * square a + 2 * square b
square_of-difference a b h k =
    let l = size_of-difference a b h k in
    omega (arith, mul-le-mul l l, twice_product (size a) (size b))
