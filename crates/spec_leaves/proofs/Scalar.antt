-- Numbers as elements, multiples of elements, and 2 cancelled in Rq.
use mathlib.Core.Path.{◌≡◌, refl, sym, ap, ap₂, ◌∙◌}
use Prim.Native.Nat.{ℕ, zero, suc, ◌+◌, ◌*◌, ◌%◌, ◌<◌}
use lib.Dec.{lit<}
use Rattle.math.proofs.algebra.Ring.{double_cancel, mul-nil}
use Rattle.math.proofs.algebra.Antiperiodic.{Anti, const_F, const_mul_F}
use Rattle.spec_leaves.specs.Zq.{Q, half_Q}
use Rattle.spec_leaves.specs.Rq.{Element}
use Rattle.spec_leaves.specs.Ring.{residue, ZqOps, words, scalar, RqOps, scale}
use Rattle.spec_leaves.proofs.Suited.{half_inverse}
use Rattle.spec_leaves.proofs.ZqRing.{residue-mod, residue-add, residue-mul, zq_ring}
use Rattle.spec_leaves.proofs.RqRing.{coefficient, element_path, coefficient-scalar, coefficient-radd, coefficient-rzero, coefficient-rscale, continued, carry}
use Rattle.spec_leaves.proofs.RqRing.{carry_below, carry_mul, carry_scalar, AntiOps, rq_ring}

-- the coefficients of the product of a number and an element
pub coefficient-scalar-mul : (c : ℕ) (a : Element) (k : ℕ) → k < 64 → coefficient (RqOps.mul (scalar c) a) k ≡ ZqOps.mul (residue c) (coefficient a k)
coefficient-scalar-mul c a k h =
    sym (carry_below (RqOps.mul (scalar c) a) k h)
    ∙ ap (λ (x : Anti ZqOps 64). x.0 k) (carry_mul (scalar c) a ∙ ap (λ x. AntiOps.mul x (carry a)) (carry_scalar c))
    ∙ const_mul_F ZqOps zq_ring 64 (lit< tt) (residue c) (continued a) (carry a).1 k
    ∙ ap (ZqOps.mul (residue c)) (carry_below a k h)

-- a multiple is the product with the number as an element
pub scale-scalar : (a : Element) (c : ℕ) → scale a c ≡ RqOps.mul a (scalar c)
unfolding scale
scale-scalar a c =
    element_path (scale a c) (RqOps.mul (scalar c) a) (λ k h. coefficient-rscale (words a) c k h ∙ zq_ring.mul_comm (coefficient a k) (residue c) ∙ sym (coefficient-scalar-mul c a k h))
    ∙ rq_ring.mul_comm (scalar c) a

-- a multiple as a function on all of ℕ
pub continued_scale : (a : Element) (c k : ℕ) → continued (scale a c) k ≡ ZqOps.mul (continued a k) (residue c)
continued_scale a c k =
    ap (λ (x : Anti ZqOps 64). x.0 k) (ap carry (scale-scalar a c ∙ rq_ring.mul_comm a (scalar c)) ∙ carry_mul (scalar c) a ∙ ap (λ x. AntiOps.mul x (carry a)) (carry_scalar c))
    ∙ const_mul_F ZqOps zq_ring 64 (lit< tt) (residue c) (continued a) (carry a).1 k
    ∙ zq_ring.mul_comm (residue c) (continued a k)

-- numbers that are equal modulo Q are the same element
pub scalar-mod : (c e : ℕ) → c % Q ≡ e % Q → scalar c ≡ scalar e
scalar-mod c e p = element_path (scalar c) (scalar e) (λ k h. coefficient-scalar c k h ∙ ap (λ x. const_F ZqOps x k) (residue-mod c e p) ∙ sym (coefficient-scalar e k h))

-- the number 0 is the zero element
pub scalar_zero : scalar 0 ≡ RqOps.nil
unfolding const_F
scalar_zero = element_path (scalar 0) RqOps.nil (λ k h. coefficient-scalar 0 k h ∙ each k ∙ sym (coefficient-rzero k h))
  where
    each : (k : ℕ) → const_F ZqOps (residue 0) k ≡ ZqOps.nil
    each zero = refl
    each (suc k) = refl

-- a sum of numbers as an element
pub scalar-add : (c e : ℕ) → scalar (c + e) ≡ RqOps.add (scalar c) (scalar e)
unfolding const_F
scalar-add c e = element_path (scalar (c + e)) (RqOps.add (scalar c) (scalar e)) (λ k h.
    coefficient-scalar (c + e) k h ∙ each k ∙ ap₂ ZqOps.add (sym (coefficient-scalar c k h)) (sym (coefficient-scalar e k h))
    ∙ sym (coefficient-radd (words (scalar c)) (words (scalar e)) k h))
  where
    each : (k : ℕ) → const_F ZqOps (residue (c + e)) k ≡ ZqOps.add (const_F ZqOps (residue c) k) (const_F ZqOps (residue e) k)
    each zero = residue-add c e
    each (suc k) = refl

-- a product of numbers as an element
pub scalar-mul : (c e : ℕ) → scalar (c * e) ≡ RqOps.mul (scalar c) (scalar e)
unfolding const_F
scalar-mul c e = element_path (scalar (c * e)) (RqOps.mul (scalar c) (scalar e)) (λ k h.
    coefficient-scalar (c * e) k h ∙ each k ∙ ap (ZqOps.mul (residue c)) (sym (coefficient-scalar e k h)) ∙ sym (coefficient-scalar-mul c (scalar e) k h))
  where
    each : (k : ℕ) → const_F ZqOps (residue (c * e)) k ≡ ZqOps.mul (residue c) (const_F ZqOps (residue e) k)
    each zero = residue-mul c e
    each (suc k) = sym (mul-nil ZqOps zq_ring (residue c))

-- a multiple by a sum of numbers
pub scale-plus : (a : Element) (c e : ℕ) → scale a (c + e) ≡ RqOps.add (scale a c) (scale a e)
scale-plus a c e =
    scale-scalar a (c + e) ∙ ap (RqOps.mul a) (scalar-add c e) ∙ rq_ring.mul-add a (scalar c) (scalar e) ∙ sym (ap₂ RqOps.add (scale-scalar a c) (scale-scalar a e))

-- a multiple of a multiple
pub scale-scale : (a : Element) (c e : ℕ) → scale (scale a c) e ≡ scale a (c * e)
scale-scale a c e =
    scale-scalar (scale a c) e
    ∙ ap (λ x. RqOps.mul x (scalar e)) (scale-scalar a c)
    ∙ rq_ring.mul_assoc a (scalar c) (scalar e)
    ∙ ap (RqOps.mul a) (sym (scalar-mul c e))
    ∙ sym (scale-scalar a (c * e))

-- a multiple of a product
pub scale-mul : (a b : Element) (c : ℕ) → scale (RqOps.mul a b) c ≡ RqOps.mul a (scale b c)
scale-mul a b c = scale-scalar (RqOps.mul a b) c ∙ rq_ring.mul_assoc a b (scalar c) ∙ ap (RqOps.mul a) (sym (scale-scalar b c))

-- a multiple by numbers that are equal modulo Q
pub scale-mod : (a : Element) (c e : ℕ) → c % Q ≡ e % Q → scale a c ≡ scale a e
scale-mod a c e p = scale-scalar a c ∙ ap (RqOps.mul a) (scalar-mod c e p) ∙ sym (scale-scalar a e)

-- 2 is cancelled: its inverse is (Q + 1)/2
pub rq_double_cancel : (a b : Element) → RqOps.add a a ≡ RqOps.add b b → a ≡ b
rq_double_cancel = double_cancel RqOps rq_ring (scalar (half_Q + 1)) (ap (RqOps.mul (scalar (half_Q + 1))) (sym (scalar-add 1 1)) ∙ sym (scalar-mul (half_Q + 1) 2)
    ∙ scalar-mod ((half_Q + 1) * 2) 1 half_inverse)
