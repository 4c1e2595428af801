-- Zq is a commutative ring, and the canonical value of a number is a homomorphism from the natural numbers.
use mathlib.Core.Path.{◌≡◌, refl, sym, ap, ◌∙◌}
use mathlib.Core.Logic.{◌↔◌}
use mathlib.Core.HLevel.{Σ_set, Σ_prop_path, prop→set}
use Prim.Native.Nat.{ℕ, zero, suc, ◌+◌, ◌-◌, ◌*◌, ◌%◌}
use native.Mathlib.Nat as Nat
use native.Mathlib.Bridge.{le_prop}
use native.Mathlib.Omega.{arith}
use Rattle.math.specs.lists.Sum.{Σ}
use Rattle.math.specs.algebra.Ops.{sum}
use Rattle.math.proofs.algebra.Ring.{CRing, double_cancel, eq_of_sub_nil}
use Rattle.spec_leaves.specs.Zq.{Q, half_Q, Canonical, zadd, zsub, zneg, zmul}
use Rattle.spec_leaves.specs.Ring.{Residue, residue, ZqOps}
use Rattle.spec_leaves.proofs.Suited.{half_inverse}
use Rattle.spec_leaves.proofs.Modulo.{add-neg-mod, add-sub-mod, sub-add-mod, mul_mod_first, mul_mod_second, mul-mod-both}

-- canonical values with the same number are equal
pub residue_path : (a b : Residue) → a.0 ≡ b.0 → a ≡ b
residue_path a b e = Σ_prop_path (λ x. le_prop) e

-- numbers that are equal modulo Q have the same canonical value
pub residue-mod : (a b : ℕ) → a % Q ≡ b % Q → residue a ≡ residue b
residue-mod a b e = residue_path (residue a) (residue b) e

-- Zq is a commutative ring
pub zq_ring : CRing ZqOps
zq_ring = record {
  is_set = Σ_set Nat.ℕ_set (λ a. prop→set le_prop);
  add_assoc = λ a b c. residue_path _ _ (Nat.mod-add-mod (a.0 + b.0) Q c.0 ∙ ap (λ x. x % Q) (Nat.add_assoc a.0 b.0 c.0) ∙ sym (Nat.add-mod-mod a.0 (b.0 + c.0) Q));
  add_comm = λ a b. residue_path _ _ (ap (λ x. x % Q) (Nat.add_comm a.0 b.0));
  add-nil = λ a. residue_path _ _ (ap (λ x. x % Q) (Nat.add-zero a.0) ∙ Nat.mod-eq_of_lt a.1);
  add-neg = λ a. residue_path _ _ (Nat.add-mod-mod a.0 (Q - a.0) Q ∙ ap (λ x. x % Q) (Nat.add-sub_of_le (Nat.le_of_lt a.1)));
  mul_assoc = λ a b c. residue_path _ _ (mul_mod_first Q (a.0 * b.0) c.0 ∙ ap (λ x. x % Q) (Nat.mul_assoc a.0 b.0 c.0) ∙ sym (mul_mod_second Q a.0 (b.0 * c.0)));
  mul_comm = λ a b. residue_path _ _ (ap (λ x. x % Q) (Nat.mul_comm a.0 b.0));
  mul-one = λ a. residue_path _ _ (ap (λ x. x % Q) (Nat.mul-one a.0) ∙ Nat.mod-eq_of_lt a.1);
  mul-add = λ a b c. residue_path _ _ (mul_mod_second Q a.0 (b.0 + c.0) ∙ ap (λ x. x % Q) (Nat.mul-add a.0 b.0 c.0) ∙ Nat.add-mod (a.0 * b.0) (a.0 * c.0) Q);
}

-- the canonical value of a canonical value's number is itself
pub residue-value : (a : Residue) → residue a.0 ≡ a
residue-value a = residue_path (residue a.0) a (Nat.mod-eq_of_lt a.1)

-- a number may be reduced first
pub residue-reduced : (a : ℕ) → residue (a % Q) ≡ residue a
residue-reduced a = residue-mod (a % Q) a (Nat.mod-mod a Q)

-- the canonical value of a sum
pub residue-add : (a b : ℕ) → residue (a + b) ≡ ZqOps.add (residue a) (residue b)
residue-add a b = residue_path _ _ (Nat.add-mod a b Q)

-- the canonical value of a product
pub residue-mul : (a b : ℕ) → residue (a * b) ≡ ZqOps.mul (residue a) (residue b)
residue-mul a b = residue_path _ _ (sym (mul-mod-both Q a b))

-- the canonical value of zadd
pub residue-zadd : (a b : ℕ) → residue (zadd a b) ≡ ZqOps.add (residue a) (residue b)
residue-zadd a b = residue-reduced (a + b) ∙ residue-add a b

-- the canonical value of zmul
pub residue-zmul : (a b : ℕ) → residue (zmul a b) ≡ ZqOps.mul (residue a) (residue b)
residue-zmul a b = residue-reduced (a * b) ∙ residue-mul a b

-- the canonical value of zneg
pub residue-zneg : (a : ℕ) → residue (zneg a) ≡ ZqOps.neg (residue a)
residue-zneg a = residue-reduced (Q - a % Q)

-- the canonical value of zsub
pub residue-zsub : (a b : ℕ) → residue (zsub a b) ≡ ZqOps.add (residue a) (ZqOps.neg (residue b))
residue-zsub a b = residue-reduced (a + (Q - b % Q)) ∙ residue-add a (Q - b % Q)

-- canonical values are equal just where their difference is zero
pub zsub_zero : (a b : ℕ) → Canonical a → Canonical b → (zsub a b ≡ 0) ↔ (a ≡ b)
zsub_zero a b p q = (
  λ e. sym (Nat.mod-eq_of_lt p) ∙ ap (λ (x : Residue). x.0) (eq_of_sub_nil ZqOps zq_ring (residue a) (residue b) (sym (residue-zsub a b) ∙ ap residue e)) ∙ Nat.mod-eq_of_lt q,
  λ e. ap (λ x. zsub x b) e ∙ add-neg-mod Q (omega arith) b,
)

-- a value is c + v modulo Q just where v is their difference
pub zsub_iff : (a c v : ℕ) → Canonical a → (a ≡ (c + v) % Q) ↔ (v % Q ≡ zsub a (c % Q))
zsub_iff a c v h = (
  λ e.
      sym
      (ap (λ k. (a + (Q - k)) % Q) (Nat.mod-mod c Q)
      ∙ ap (λ k. (k + (Q - c % Q)) % Q) e
      ∙ Nat.mod-add-mod (c + v) Q (Q - c % Q)
      ∙ ap (λ k. (k + (Q - c % Q)) % Q) (Nat.add_comm c v)
      ∙ add-sub-mod Q (omega arith) v c),
  λ e.
      sym
      (ap (λ k. k % Q) (Nat.add_comm c v)
      ∙ sym (Nat.mod-add-mod v Q c)
      ∙ ap (λ k. (k + c) % Q) (e ∙ ap (λ k. (a + (Q - k)) % Q) (Nat.mod-mod c Q))
      ∙ sub-add-mod Q (omega arith) a c
      ∙ Nat.mod-eq_of_lt h),
)

-- the canonical value of a finite sum
pub residue-Σ : (n : ℕ) (f : ℕ → ℕ) → residue (Σ n f) ≡ sum ZqOps n (λ i. residue (f i))
unfolding Σ sum
residue-Σ zero f = refl
residue-Σ (suc n) f = residue-add (Σ n f) (f n) ∙ ap (λ x. ZqOps.add x (residue (f n))) (residue-Σ n f)

-- 2 is cancelled: its inverse is (Q + 1)/2
pub zq_double_cancel : (a b : Residue) → ZqOps.add a a ≡ ZqOps.add b b → a ≡ b
zq_double_cancel = double_cancel ZqOps zq_ring (residue (half_Q + 1)) (sym (residue-mul (half_Q + 1) 2) ∙ residue_path _ _ half_inverse)
