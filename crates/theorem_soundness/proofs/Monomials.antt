-- The elements 0, X^i and −X^i: the difference of two of them is a unit.
use mathlib.Core.Path.{◌≡◌, refl, sym, ap, ap₂, subst, subst₂, ◌∙◌}
use mathlib.Core.Bool.{cond}
use Prim.Native.Nat.{ℕ, zero, suc, ◌+◌, ◌-◌, ◌*◌, ◌/◌, ◌≤◌, ◌<◌}
use native.Mathlib.Nat as Nat
use native.Mathlib.Decide.{dec_lt}
use native.Mathlib.Omega.{arith}
use borrow.Author.Tests.{eq-eqb, ne_eqb}
use lib.Dec.{eqb, lit<}
use Rattle.math.specs.lists.Table.{table}
use Rattle.math.proofs.algebra.Ring.{neg-neg, neg-nil, nil-add, one-mul}
use Rattle.math.proofs.algebra.Antiperiodic.{Antiperiodic, Anti, extend, extend_below, extend_anti, const_F, mul_f, mul_F_shift, const_mul_F, anti_path}
use Rattle.spec_leaves.specs.Zq.{Q}
use Rattle.spec_leaves.specs.Rq.{Element}
use Rattle.spec_leaves.specs.Ring.{Residue, residue, ZqOps, element, scalar, RqOps}
use Rattle.spec_leaves.proofs.ZqRing.{zq_ring, residue-value}
use Rattle.spec_leaves.proofs.RqRing.{rq_ring, element_path, coefficient, coefficient-table, AntiOps, carry, carry_path, carry_inj, carry_mul, carry_neg, carry_scalar}
use Rattle.spec_leaves.proofs.Scalar.{scalar-add, scalar-mul, scalar-mod}
use Rattle.spec_leaves.proofs.Cases.{ltb_cases}
use Rattle.theorem_soundness.specs.Weights.{monomial, shifts, shift, IsUnit}
use Rattle.theorem_soundness.proofs.Modulus.{half_Q_lem}
use Rattle.theorem_soundness.proofs.Units.{unit-neg, unit-swap, turned, power_unit, power_difference}

-- the coefficients of 1, on all of ℕ
ones : ℕ → Residue
ones = extend ZqOps 64 (const_F ZqOps (residue 1))

ones_anti : Antiperiodic ZqOps 64 ones
unfolding ones
ones_anti = extend_anti ZqOps zq_ring 64 (lit< tt) (const_F ZqOps (residue 1))

-- the coefficients of X^(−s)
ones_from : ℕ → Anti ZqOps 64
ones_from s = ((λ k. ones (k + s)), λ k. ap ones (Nat.add_right_comm k 64 s) ∙ ones_anti (k + s))

-- X^(−s)
inverse_power : ℕ → Element
inverse_power s = element (table 64 (λ k. (ones (k + s)).0))

coefficient_power : (s k : ℕ) → k < 64 → coefficient (inverse_power s) k ≡ ones (k + s)
unfolding inverse_power
coefficient_power s k h = coefficient-table (λ i. (ones (i + s)).0) k h ∙ residue-value (ones (k + s))

carry_power : (s : ℕ) → carry (inverse_power s) ≡ ones_from s
unfolding ones_from
carry_power s = carry_path (inverse_power s) (ones_from s) (coefficient_power s)

-- X^0 = 1
power_start : inverse_power 0 ≡ RqOps.one
unfolding ones ones_from
power_start = carry_inj (inverse_power 0) RqOps.one (carry_power 0 ∙ anti_path ZqOps zq_ring 64 (lit< tt) (ones_from 0) _ (λ k h. ap ones (Nat.add-zero k)) ∙ sym (carry_scalar 1))

-- X^64 = −1
power_half : inverse_power 64 ≡ RqOps.neg RqOps.one
unfolding ones ones_from
power_half =
    carry_inj (inverse_power 64) (RqOps.neg RqOps.one)
    (carry_power 64 ∙ anti_path ZqOps zq_ring 64 (lit< tt) (ones_from 64) _ (λ k h. ones_anti k) ∙ sym (carry_neg RqOps.one ∙ ap AntiOps.neg (carry_scalar 1)))

-- X^(i + j) = X^i · X^j
power_hom : (i j : ℕ) → inverse_power (i + j) ≡ RqOps.mul (inverse_power i) (inverse_power j)
unfolding ones ones_from
power_hom i j =
    carry_inj (inverse_power (i + j)) (RqOps.mul (inverse_power i) (inverse_power j))
    (carry_power (i + j)
    ∙ anti_path ZqOps zq_ring 64 (lit< tt) (ones_from (i + j)) (AntiOps.mul (ones_from i) (ones_from j)) (λ k h. sym (at k))
    ∙ sym (carry_mul (inverse_power i) (inverse_power j) ∙ ap₂ AntiOps.mul (carry_power i) (carry_power j)))
  where
    at : (k : ℕ) → mul_f ZqOps 64 (λ m. ones (m + i)) (λ m. ones (m + j)) k ≡ ones (k + (i + j))
    at k =
        mul_F_shift ZqOps zq_ring 64 (lit< tt) i ones (λ m. ones (m + j)) ones_anti (ones_from j).1 k
        ∙ const_mul_F ZqOps zq_ring 64 (lit< tt) (residue 1) (λ m. ones (m + j)) (ones_from j).1 (k + i)
        ∙ one-mul ZqOps zq_ring (ones (k + i + j))
        ∙ ap ones (Nat.add_assoc k i j)

-- 2 is a unit: Q is odd, and its inverse is (Q + 1) / 2
pub two-unit : IsUnit RqOps (RqOps.add RqOps.one RqOps.one)
two-unit = (
  scalar ((Q + 1) / 2),
  ap (λ x. RqOps.mul x (scalar ((Q + 1) / 2))) (sym (scalar-add 1 1)) ∙ sym (scalar-mul 2 ((Q + 1) / 2)) ∙ scalar-mod (2 * ((Q + 1) / 2)) 1 half_Q_lem,
)

-- the values of 1 at the places of one turn
ones_at : (k : ℕ) → k < 64 → ones k ≡ const_F ZqOps (residue 1) k
unfolding ones
ones_at k h = extend_below ZqOps zq_ring 64 (lit< tt) (const_F ZqOps (residue 1)) k h

ones_zero : (k : ℕ) → 0 < k → k < 64 → ones k ≡ ZqOps.nil
unfolding const_F
ones_zero zero h l = absurd (Nat.lt_irrefl 0 h)
ones_zero (suc k) h l = ones_at (suc k) l

-- two turns
ones_twice : (k : ℕ) → ones (k + 64 + 64) ≡ ones k
ones_twice k = ones_anti (k + 64) ∙ ap ZqOps.neg (ones_anti k) ∙ neg-neg ZqOps zq_ring (ones k)

-- coefficient k of X^m
ones_of : (m k : ℕ) → m < 64 → k < 64 → residue (cond (eqb k m) 1 0) ≡ ones (k + (128 - m))
unfolding const_F
ones_of m k h l = go (dec_lt k m) (dec_lt m k)
  where
    zero_at : (k ≡ m → ⊥) → residue (cond (eqb k m) 1 0) ≡ ZqOps.nil
    zero_at d = ap (λ c. residue (cond c 1 0)) (ne_eqb k m d)

    go : Dec (k < m) → Dec (m < k) → residue (cond (eqb k m) 1 0) ≡ ones (k + (128 - m))
    go (yes p) b =
        let e : k + (128 - m) ≡ k + (64 - m) + 64 = omega arith in
        zero_at (λ q. omega arith) ∙ sym (ap ones e ∙ ones_anti (k + (64 - m)) ∙ ap ZqOps.neg (ones_zero (k + (64 - m)) (omega arith) (omega arith)) ∙ neg-nil ZqOps zq_ring)
    go (no p) (no r) =
        let e : k + (128 - m) ≡ 0 + 64 + 64 = omega arith in
        ap (λ c. residue (cond c 1 0)) (eq-eqb k m (omega arith)) ∙ sym (ap ones e ∙ ones_twice 0 ∙ ones_at 0 (lit< tt))
    go (no p) (yes r) =
        let e : k + (128 - m) ≡ k - m + 64 + 64 = omega arith in
        zero_at (λ q. omega arith) ∙ sym (ap ones e ∙ ones_twice (k - m) ∙ ones_zero (k - m) (omega arith) (omega arith))

-- X^m = X^(−(128 − m))
monomial_power : (m : ℕ) → m < 64 → monomial m ≡ inverse_power (128 - m)
unfolding monomial
monomial_power m h =
    element_path (monomial m) (inverse_power (128 - m)) (λ k l. coefficient-table (λ i. cond (eqb i m) 1 0) k l ∙ ones_of m k h l ∙ sym (coefficient_power (128 - m) k l))

-- −X^m = X^(−(64 − m))
negative_power : (m : ℕ) → m < 64 → RqOps.neg (monomial m) ≡ inverse_power (64 - m)
negative_power m h =
    let e : 128 - m ≡ 64 - m + 64 = omega arith in
    ap RqOps.neg (monomial_power m h ∙ ap inverse_power e ∙ turned RqOps rq_ring inverse_power power_start power_hom power_half two-unit (64 - m)) ∙ neg-neg RqOps rq_ring (inverse_power (64 - m))

-- the 128 elements ±X^i are the powers of X
shift_power : (m : ℕ) → m < 128 → shift (suc m) ≡ inverse_power (128 - m)
unfolding shift
shift_power m h = ltb_cases (λ c. cond c (monomial m) (RqOps.neg (monomial (m - 64))) ≡ inverse_power (128 - m)) m 64
    (λ l. monomial_power m l)
    (λ l. negative_power (m - 64) (omega arith) ∙ ap inverse_power (omega arith))

shift_zero : shift 0 ≡ RqOps.nil
unfolding shift
shift_zero = refl

-- the difference of two powers, by their exponents
powers-unit : (m n : ℕ) → m ≤ 128 → n ≤ 128 → 0 < m → 0 < n → (m ≡ n → ⊥) → IsUnit RqOps (RqOps.add (inverse_power m) (RqOps.neg (inverse_power n)))
powers-unit m n h k p q d = go (dec_lt m n)
  where
    less : (m n : ℕ) → n ≤ 128 → 0 < m → m < n → IsUnit RqOps (RqOps.add (inverse_power m) (RqOps.neg (inverse_power n)))
    less m n k p l = power_difference RqOps rq_ring inverse_power power_start power_hom power_half two-unit m n (omega arith) k l (omega arith)

    go : Dec (m < n) → IsUnit RqOps (RqOps.add (inverse_power m) (RqOps.neg (inverse_power n)))
    go (yes l) = less m n k p l
    go (no l) = unit-swap RqOps rq_ring (inverse_power n) (inverse_power m) (less n m h q (omega arith))

pub shift-unit : (m : ℕ) → m < 128 → IsUnit RqOps (shift (suc m))
shift-unit m h = subst (IsUnit RqOps) (sym (shift_power m h)) (power_unit RqOps rq_ring inverse_power power_start power_hom power_half two-unit (128 - m) (omega arith))

-- T3: the difference of two of the 129 elements is a unit
pub difference-unit : (x y : ℕ) → x < shifts → y < shifts → (x ≡ y → ⊥) → IsUnit RqOps (RqOps.add (shift x) (RqOps.neg (shift y)))
difference-unit zero zero h k d = absurd (d refl)
difference-unit zero (suc n) h k d =
    subst (λ e. IsUnit RqOps (RqOps.add e (RqOps.neg (shift (suc n))))) (sym shift_zero)
    (subst (IsUnit RqOps) (sym (nil-add RqOps rq_ring (RqOps.neg (shift (suc n))))) (unit-neg RqOps rq_ring (shift (suc n)) (shift-unit n (omega arith))))
difference-unit (suc m) zero h k d =
    subst (IsUnit RqOps)
    (sym (ap (λ e. RqOps.add (shift (suc m)) (RqOps.neg e)) shift_zero ∙ ap (RqOps.add (shift (suc m))) (neg-nil RqOps rq_ring) ∙ rq_ring.add-nil (shift (suc m))))
    (shift-unit m (omega arith))
difference-unit (suc m) (suc n) h k d =
    subst₂ (λ e f. IsUnit RqOps (RqOps.add e (RqOps.neg f))) (sym (shift_power m (omega arith))) (sym (shift_power n (omega arith)))
    (powers-unit (128 - m) (128 - n) (omega arith) (omega arith) (omega arith) (omega arith) (λ q. d (omega arith)))
