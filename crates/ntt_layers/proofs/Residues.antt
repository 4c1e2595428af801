-- The numbers below m with addition and multiplication modulo m are a commutative ring, and remainders by m are a homomorphism into it.
use mathlib.Core.Path.{◌≡◌, refl, sym, ap, ◌∙◌}
use mathlib.Core.HLevel.{Σ_set, Σ_prop_path, prop→set}
use Prim.Native.Nat.{ℕ, zero, suc, ◌+◌, ◌-◌, ◌*◌, ◌%◌, ◌<◌}
use native.Mathlib.Nat as Nat
use native.Mathlib.Bridge.{le_prop}
use Rattle.math.specs.lists.Sum.{Σ}
use Rattle.math.specs.algebra.Ops.{Ops, sum}
use Rattle.math.proofs.algebra.Ring.{CRing, eq_sub}
use Rattle.spec_leaves.proofs.Modulo.{mul_mod_first, mul_mod_second, mul-mod-both}

-- a number below m
abbrev pub Below : ℕ → Type 0
Below m = (a : ℕ) × (a < m)

-- the remainder by m
abbrev pub res : (m : ℕ) → 0 < m → ℕ → Below m
res m pos a = (a % m, Nat.mod-lt a pos)

-- addition, multiplication and negation modulo m
abbrev pub ModOps : (m : ℕ) → 0 < m → Ops
ModOps m pos = record {
  Carrier = Below m;
  add = λ a b. res m pos (a.0 + b.0);
  mul = λ a b. res m pos (a.0 * b.0);
  neg = λ a. res m pos (m - a.0);
  nil = res m pos 0;
  one = res m pos 1;
}

module _ (m : ℕ) (pos : 0 < m) where
  -- numbers below m are equal where their values are
  pub res_path : (a b : Below m) → a.0 ≡ b.0 → a ≡ b
  res_path a b e = Σ_prop_path (λ x. le_prop) e

  -- the ring
  pub mod_ring : CRing (ModOps m pos)
  mod_ring = record {
    is_set = Σ_set Nat.ℕ_set (λ a. prop→set le_prop);
    add_assoc = λ a b c. res_path _ _ (Nat.mod-add-mod (a.0 + b.0) m c.0 ∙ ap (λ x. x % m) (Nat.add_assoc a.0 b.0 c.0) ∙ sym (Nat.add-mod-mod a.0 (b.0 + c.0) m));
    add_comm = λ a b. res_path _ _ (ap (λ x. x % m) (Nat.add_comm a.0 b.0));
    add-nil = λ a. res_path _ _ (Nat.add-mod-mod a.0 0 m ∙ ap (λ x. x % m) (Nat.add-zero a.0) ∙ Nat.mod-eq_of_lt a.1);
    add-neg = λ a. res_path _ _ (Nat.add-mod-mod a.0 (m - a.0) m ∙ ap (λ x. x % m) (Nat.add-sub_of_le (Nat.le_of_lt a.1) ∙ sym (Nat.zero-add m)) ∙ Nat.add-mod_right 0 m);
    mul_assoc = λ a b c. res_path _ _ (mul_mod_first m (a.0 * b.0) c.0 ∙ ap (λ x. x % m) (Nat.mul_assoc a.0 b.0 c.0) ∙ sym (mul_mod_second m a.0 (b.0 * c.0)));
    mul_comm = λ a b. res_path _ _ (ap (λ x. x % m) (Nat.mul_comm a.0 b.0));
    mul-one = λ a. res_path _ _ (mul_mod_second m a.0 1 ∙ ap (λ x. x % m) (Nat.mul-one a.0) ∙ Nat.mod-eq_of_lt a.1);
    mul-add = λ a b c. res_path _ _ (mul_mod_second m a.0 (b.0 + c.0) ∙ ap (λ x. x % m) (Nat.mul-add a.0 b.0 c.0) ∙ Nat.add-mod (a.0 * b.0) (a.0 * c.0) m);
  }

  -- numbers that are equal modulo m
  pub res_mod : (a b : ℕ) → a % m ≡ b % m → res m pos a ≡ res m pos b
  res_mod a b e = res_path (res m pos a) (res m pos b) e

  -- a number may be reduced first
  pub res_reduced : (a : ℕ) → res m pos (a % m) ≡ res m pos a
  res_reduced a = res_mod (a % m) a (Nat.mod-mod a m)

  -- multiples of m may be left out
  pub res_less : (a b neginv : ℕ) → a + neginv * m ≡ b → res m pos a ≡ res m pos b
  res_less a b neginv e = res_mod a b (sym (Nat.add-mul-mod_self_right a neginv m) ∙ ap (λ x. x % m) e)

  -- sums
  pub res_add : (a b : ℕ) → res m pos (a + b) ≡ (ModOps m pos).add (res m pos a) (res m pos b)
  res_add a b = res_path _ _ (Nat.add-mod a b m)

  -- products
  pub res_mul : (a b : ℕ) → res m pos (a * b) ≡ (ModOps m pos).mul (res m pos a) (res m pos b)
  res_mul a b = res_path _ _ (sym (mul-mod-both m a b))

  -- differences: y = x − v, with multiples of m added
  pub res_sub : (x v y neginv : ℕ) → y + v ≡ x + neginv * m → res m pos y ≡ (ModOps m pos).add (res m pos x) ((ModOps m pos).neg (res m pos v))
  res_sub x v y neginv e = eq_sub (ModOps m pos) mod_ring (res m pos y) (res m pos v) (res m pos x) (sym (res_add y v) ∙ sym (res_less x (y + v) neginv (sym e)))

  -- finite sums
  pub res_Σ : (n : ℕ) (f : ℕ → ℕ) → res m pos (Σ n f) ≡ sum (ModOps m pos) n (λ i. res m pos (f i))
  unfolding Σ sum
  res_Σ zero f = refl
  res_Σ (suc n) f = res_add (Σ n f) (f n) ∙ ap (λ x. (ModOps m pos).add x (res m pos (f n))) (res_Σ n f)
