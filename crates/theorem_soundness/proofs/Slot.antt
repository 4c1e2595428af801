-- The element of one slot: a product with it depends on the other factor's value at ζ alone.
use mathlib.Core.Path.{◌≡◌, refl, sym, ap, ap₂, ◌∙◌}
use mathlib.Core.Logic.{◌↔◌}
use mathlib.Core.List.{[], ◌∷◌}
use Prim.Native.Nat.{ℕ, zero, suc, ◌+◌, ◌-◌, ◌*◌, ◌/◌, ◌%◌, ◌^◌, ◌<◌, ◌≤◌}
use native.Mathlib.Nat as Nat
use native.Mathlib.Decide.{dec_lt}
use native.Mathlib.Omega.{arith}
use lib.Dec.{lit<}
use lib.ListN.{get_or}
use Rattle.math.specs.algebra.Ops as Ops
use Rattle.math.specs.algebra.Ops.{Ops}
use Rattle.math.proofs.algebra.Ring.{CRing, neg_unique, neg-neg, mul-neg, one-mul, mul-nil, nil-mul, add-mul}
use Rattle.math.proofs.algebra.Sum.{sum_ext, sum_single, sum-mul_right}
use Rattle.math.proofs.algebra.Antiperiodic.{Antiperiodic, Anti, mul_f}
use Rattle.spec_leaves.specs.Zq.{Q}
use Rattle.spec_leaves.specs.Rq.{Element, coeff}
use Rattle.spec_leaves.specs.Ring.{Residue, residue, ZqOps, RqOps, words, scalar, scale, constant}
use Rattle.spec_leaves.proofs.Modulo.{mul_mod_second}
use Rattle.spec_leaves.proofs.ZqRing.{zq_ring, residue-mod, residue-add, residue-mul}
use Rattle.spec_leaves.proofs.RqRing.{rq_ring, coefficient, element_path, coefficient-table, coefficient-rscale, coefficient-element, residue-products, continued, carry}
use Rattle.spec_leaves.proofs.RqRing.{carry_below, carry_path, carry_mul, AntiOps}
use Rattle.spec_leaves.proofs.Scalar.{scalar_zero, scale-scalar, scale-plus, scale-mod}
use Rattle.spec_leaves.proofs.Conjugate.{constant-word}
use Rattle.spec_protocol.specs.Formulas.{◌⊕◌, ◌⊗◌}
use Rattle.theorem_soundness.specs.Share.{ExactlyOne}
use Rattle.theorem_soundness.specs.Slot.{Slot, X¹, e_at, e, at_ζ}
use Rattle.theorem_soundness.proofs.SlotOne.{exactly_one_iff, one_solution}

-- a function that a point's powers move back
module _ (O : Ops) (R : CRing O) (d : ℕ) (f : ℕ → O.Carrier) (anti : Antiperiodic O d f) (p : ℕ → O.Carrier) (back : (i j : ℕ) → O.mul (p i) (f (j + i)) ≡ f j) where
  open O use {Carrier, mul as ◌*O◌, neg}

  infixl 70 ◌*O◌
  -- the product with it is the value of the other factor at the point, times it
  product_is_value : (a : ℕ → Carrier) (k : ℕ) → mul_f O d a f k ≡ Ops.sum O d (λ i. a i *O p i) *O f k
  unfolding mul_f
  product_is_value a k =
      ap neg
      (sum_ext O d (λ i. a i *O f (k + (d - i))) (λ i. a i *O p i *O neg (f k)) (λ i h. ap (◌*O◌ (a i)) (term i h) ∙ sym (R.mul_assoc (a i) (p i) (neg (f k))))
      ∙ sum-mul_right O R d (neg (f k)) (λ i. a i *O p i)
      ∙ mul-neg O R (Ops.sum O d (λ i. a i *O p i)) (f k))
      ∙ neg-neg O R (Ops.sum O d (λ i. a i *O p i) *O f k)
    where
      whole : (i : ℕ) → i < d → k + (d - i) + i ≡ k + d
      whole i h = omega arith

      term : (i : ℕ) → i < d → f (k + (d - i)) ≡ p i *O neg (f k)
      term i h = sym (back i (k + (d - i))) ∙ ap (◌*O◌ (p i)) (ap f (whole i h) ∙ anti k)

module _ (S : Slot) where
  open S use {p, ζ, ζ⁻¹, divides, root, inverse}

  -- p is not 0
  pub positive : 0 < p
  positive = go (dec_lt 0 p)
    where
      go : Dec (0 < p) → 0 < p
      go (yes h) = h
      go (no n) =
          let none : p ≡ 0 = omega arith in
          let zero-Q : Q ≡ 0 = divides ∙ ap (λ x. x * (Q / p)) none ∙ Nat.zero-mul (Q / p) in
          absurd (omega arith)

  -- a multiple of Q/p modulo Q is one of a remainder by p
  share_mod : (x : ℕ) → Q / p * x % Q ≡ Q / p * (x % p)
  share_mod x =
      ap (λ n. Q / p * n % Q) (sym (Nat.mod-add-div' x p))
      ∙ ap (λ n. n % Q) (out (Q / p) (x % p) (x / p) ∙ ap (λ n. Q / p * (x % p) + x / p * n) (sym divides))
      ∙ Nat.add-mul-mod_self_right (Q / p * (x % p)) (x / p) Q
      ∙ Nat.mod-eq_of_lt less
    where
      out : (d r q : ℕ) → d * (r + q * p) ≡ d * r + q * (p * d)
      out d r q = omega arith

      less : Q / p * (x % p) < Q
      less =
          let up : Q / p * suc (x % p) ≤ Q / p * p = Nat.mul-le-mul_left (Q / p) (Nat.mod-lt x positive) in
          let whole : Q / p * p ≡ Q = Nat.mul_comm (Q / p) p ∙ sym divides in
          some (Q / p) (x % p) up whole
        where
          some : (d r : ℕ) → d * suc r ≤ d * p → d * p ≡ Q → d * r < Q
          some zero r u w = omega arith
          some (suc d) r u w = omega arith

  -- equal remainders by p give equal multiples of Q/p
  share_same : (x y : ℕ) → x % p ≡ y % p → residue (Q / p * x) ≡ residue (Q / p * y)
  share_same x y h = residue-mod (Q / p * x) (Q / p * y) (share_mod x ∙ ap (λ n. Q / p * n) h ∙ sym (share_mod y))

  -- and equal multiples of Q/p equal remainders
  share_cancel : (x y : ℕ) → residue (Q / p * x) ≡ residue (Q / p * y) → x % p ≡ y % p
  share_cancel x y h = cancel (Q / p) (x % p) (y % p) divides (sym (share_mod x) ∙ ap (λ (z : Residue). z.0) h ∙ share_mod y)
    where
      cancel : (d r t : ℕ) → Q ≡ p * d → d * r ≡ d * t → r ≡ t
      cancel zero r t w h = absurd (omega arith)
      cancel (suc d) r t w h =
          let pos : 0 < suc d = omega arith in
          sym (Nat.mul-div_cancel_left r {n = suc d} pos) ∙ ap (λ n. n / suc d) h ∙ Nat.mul-div_cancel_left t {n = suc d} pos

  -- (Q/p)·ζ^(−k) for every k
  f : ℕ → Residue
  f k = residue (e_at S k)

  -- ζ^i
  power : ℕ → Residue
  power i = residue (ζ ^ i)

  -- ζ moves it back by one
  step : (k : ℕ) → ZqOps.mul (residue ζ) (f (suc k)) ≡ f k
  unfolding f e_at
  step k =
      sym (residue-mul ζ (Q / p * ζ⁻¹ ^ suc k))
      ∙ ap (λ n. residue (ζ * (Q / p * n))) (Nat.pow-suc ζ⁻¹ k)
      ∙ ap residue (order ζ (Q / p) (ζ⁻¹ ^ k) ζ⁻¹)
      ∙ share_same (ζ⁻¹ ^ k * (ζ * ζ⁻¹)) (ζ⁻¹ ^ k) (sym (mul_mod_second p (ζ⁻¹ ^ k) (ζ * ζ⁻¹)) ∙ ap (λ n. ζ⁻¹ ^ k * n % p) inverse ∙ ap (λ n. n % p) (Nat.mul-one (ζ⁻¹ ^ k)))
    where
      order : (z d w y : ℕ) → z * (d * (w * y)) ≡ d * (w * (z * y))
      order z d w y = omega arith

  -- ζ^i by i
  back : (i j : ℕ) → ZqOps.mul (power i) (f (j + i)) ≡ f j
  unfolding power
  back zero j = ap₂ (λ x n. ZqOps.mul (residue x) (f n)) (Nat.pow-zero ζ) (Nat.add-zero j) ∙ one-mul ZqOps zq_ring (f j)
  back (suc i) j =
      ap₂ (λ x n. ZqOps.mul (residue x) (f n)) (Nat.pow-suc ζ i) (Nat.add-suc j i)
      ∙ ap (λ x. ZqOps.mul x (f (suc (j + i)))) (residue-mul (ζ ^ i) ζ)
      ∙ zq_ring.mul_assoc (residue (ζ ^ i)) (residue ζ) (f (suc (j + i)))
      ∙ ap (ZqOps.mul (residue (ζ ^ i))) (step (j + i))
      ∙ back i j

  -- ζ^64 negates it
  root_negates : (k : ℕ) → ZqOps.add (ZqOps.mul (power 64) (f k)) (f k) ≡ ZqOps.nil
  unfolding f e_at power
  root_negates k =
      ap (λ x. ZqOps.add x (residue (Q / p * ζ⁻¹ ^ k))) (sym (residue-mul (ζ ^ 64) (Q / p * ζ⁻¹ ^ k)))
      ∙ sym (residue-add (ζ ^ 64 * (Q / p * ζ⁻¹ ^ k)) (Q / p * ζ⁻¹ ^ k))
      ∙ ap residue (order (ζ ^ 64) (Q / p) (ζ⁻¹ ^ k))
      ∙ share_same (ζ⁻¹ ^ k * (ζ ^ 64 + 1)) 0 (sym (mul_mod_second p (ζ⁻¹ ^ k) (ζ ^ 64 + 1)) ∙ ap (λ n. ζ⁻¹ ^ k * n % p) root ∙ ap (λ n. n % p) (Nat.mul-zero (ζ⁻¹ ^ k)))
      ∙ ap residue (Nat.mul-zero (Q / p))
    where
      order : (z d w : ℕ) → z * (d * w) + d * w ≡ d * (w * (z + 1))
      order z d w = omega arith

  -- so it is antiperiodic
  anti : Antiperiodic ZqOps 64 f
  anti k = neg_unique ZqOps zq_ring (f k) (f (k + 64)) (ap (λ x. ZqOps.add x (f (k + 64))) (sym (back 64 k)) ∙ root_negates (k + 64))

  -- the coefficients of e
  coefficient-e : (k : ℕ) → k < 64 → coefficient (e S) k ≡ f k
  unfolding e f
  coefficient-e k h = coefficient-table (e_at S) k h

  -- the coefficients of a multiple of e
  coefficient_multiple : (w k : ℕ) → k < 64 → coefficient (scale (e S) w) k ≡ ZqOps.mul (f k) (residue w)
  unfolding scale
  coefficient_multiple w k h = coefficient-rscale (words (e S)) w k h ∙ ap (λ x. ZqOps.mul x (residue w)) (coefficient-e k h)

  -- α(ζ) in Zq
  residue-at_ζ : (α : Element) → Ops.sum ZqOps 64 (λ i. ZqOps.mul (coefficient α i) (power i)) ≡ residue (at_ζ S α)
  unfolding at_ζ power
  residue-at_ζ α = sym (residue-products 64 (coeff (words α)) (λ i. ζ ^ i))

  -- α⊗e = α(ζ)·e
  pub product_with_e : (α : Element) → α ⊗ e S ≡ scale (e S) (at_ζ S α)
  product_with_e α = element_path (α ⊗ e S) (scale (e S) (at_ζ S α)) (λ k h.
      sym (carry_below (α ⊗ e S) k h)
      ∙ ap (λ (x : Anti ZqOps 64). x.0 k) (carry_mul α (e S) ∙ ap (AntiOps.mul (carry α)) (carry_path (e S) (f, anti) coefficient-e))
      ∙ product_is_value ZqOps zq_ring 64 f anti power back (continued α) k
      ∙ ap (λ x. ZqOps.mul x (f k))
      (sum_ext ZqOps 64 (λ i. ZqOps.mul (continued α i) (power i)) (λ i. ZqOps.mul (coefficient α i) (power i)) (λ i l. ap (λ x. ZqOps.mul x (power i)) (carry_below α i l)) ∙ residue-at_ζ α)
      ∙ zq_ring.mul_comm (residue (at_ζ S α)) (f k)
      ∙ sym (coefficient_multiple (at_ζ S α) k h))

  -- coefficient k of w·e
  multiple_at : (w k : ℕ) → k < 64 → coefficient (scale (e S) w) k ≡ residue (Q / p * (ζ⁻¹ ^ k * w))
  unfolding f e_at
  multiple_at w k h = coefficient_multiple w k h ∙ sym (residue-mul (Q / p * ζ⁻¹ ^ k) w) ∙ ap residue (Nat.mul_assoc (Q / p) (ζ⁻¹ ^ k) w)

  -- coeff0(w·e) = w·Q/p
  multiple_at_0 : (w : ℕ) → coefficient (scale (e S) w) 0 ≡ residue (Q / p * w)
  multiple_at_0 w = multiple_at w 0 (lit< tt) ∙ ap (λ n. residue (Q / p * n)) (ap (λ n. n * w) (Nat.pow-zero ζ⁻¹) ∙ Nat.one-mul w)

  -- multiples of e are the same just where the factors are equal modulo p
  pub multiples_same : (w y : ℕ) → (scale (e S) w ≡ scale (e S) y) ↔ (w % p ≡ y % p)
  multiples_same w y = (
    λ h. share_cancel w y (sym (multiple_at_0 w) ∙ ap (λ a. coefficient a 0) h ∙ multiple_at_0 y),
    λ h. element_path (scale (e S) w) (scale (e S) y) (λ k l. multiple_at w k l ∙ share_same (ζ⁻¹ ^ k * w) (ζ⁻¹ ^ k * y) (times k h) ∙ sym (multiple_at y k l)),
  )
    where
      times : (k : ℕ) → w % p ≡ y % p → ζ⁻¹ ^ k * w % p ≡ ζ⁻¹ ^ k * y % p
      times k h = sym (mul_mod_second p (ζ⁻¹ ^ k) w) ∙ ap (λ n. ζ⁻¹ ^ k * n % p) h ∙ mul_mod_second p (ζ⁻¹ ^ k) y

  -- 0·e = 0
  no_multiple : scale (e S) 0 ≡ RqOps.nil
  no_multiple = scale-scalar (e S) 0 ∙ ap (◌⊗◌ (e S)) scalar_zero ∙ mul-nil RqOps rq_ring (e S)

  -- a multiple of e is 0 just where p divides the factor
  pub multiple_is_zero : (w : ℕ) → (scale (e S) w ≡ RqOps.nil) ↔ (w % p ≡ 0)
  multiple_is_zero w = (
    λ h. (multiples_same w 0).0 (h ∙ sym no_multiple) ∙ Nat.zero-mod p,
    λ h. (multiples_same w 0).1 (h ∙ sym (Nat.zero-mod p)) ∙ no_multiple,
  )

  -- α⊗e = 0 exactly when α(ζ) ≡ 0 modulo p
  pub zero_exactly_when : (α : Element) → (α ⊗ e S ≡ RqOps.nil) ↔ (at_ζ S α % p ≡ 0)
  zero_exactly_when α =
      let iff = multiple_is_zero (at_ζ S α) in
      (λ h. iff.0 (sym (product_with_e α) ∙ h), λ h. product_with_e α ∙ iff.1 h)

  -- p is not 1
  large : 1 < p
  large = omega (arith, inverse, Nat.mod-lt (ζ * ζ⁻¹) positive)

  -- coeff0(e) = Q/p
  pub constant-e : coeff (words (e S)) 0 ≡ Q / p
  unfolding f e_at constant
  constant-e =
      sym (constant-word (e S))
      ∙ ap (λ (x : Residue). x.0) (coefficient-e 0 (lit< tt))
      ∙ share_mod (ζ⁻¹ ^ 0)
      ∙ ap (λ n. Q / p * (n % p)) (Nat.pow-zero ζ⁻¹)
      ∙ ap (λ n. Q / p * n) (Nat.mod-eq_of_lt large)
      ∙ Nat.mul-one (Q / p)

  -- X⊗e = ζ·e
  pub product_with_X : X¹ ⊗ e S ≡ scale (e S) ζ
  unfolding power
  product_with_X = product_with_e X¹ ∙ scale-mod (e S) (at_ζ S X¹) ζ (ap (λ (y : Residue). y.0)
      (sym (residue-at_ζ X¹)
      ∙ sum_single ZqOps zq_ring 64 1 (λ i. ZqOps.mul (coefficient X¹ i) (power i)) (lit< tt)
      (λ i h n. ap (λ y. ZqOps.mul y (power i)) (coefficient-element (0 ∷ 1 ∷ []) i h ∙ other i n) ∙ nil-mul ZqOps zq_ring (power i))
      ∙ ap (λ y. ZqOps.mul y (power 1)) (coefficient-element (0 ∷ 1 ∷ []) 1 (lit< tt))
      ∙ one-mul ZqOps zq_ring (power 1)
      ∙ ap residue (Nat.pow-suc ζ 0 ∙ ap (λ n. n * ζ) (Nat.pow-zero ζ) ∙ Nat.one-mul ζ)))
    where
      other : (i : ℕ) → (i ≡ 1 → ⊥) → residue (get_or (0 ∷ 1 ∷ []) i 0) ≡ ZqOps.nil
      other zero n = refl
      other (suc zero) n = absurd (n refl)
      other (suc (suc i)) n = refl

  -- (α ⊕ j)⊗e = (α(ζ) + j)·e
  shifted : (α : Element) (j : ℕ) → (α ⊕ scalar j) ⊗ e S ≡ scale (e S) (at_ζ S α + j)
  shifted α j =
      add-mul RqOps rq_ring α (scalar j) (e S)
      ∙ ap₂ ◌⊕◌ (product_with_e α) (rq_ring.mul_comm (scalar j) (e S) ∙ sym (scale-scalar (e S) j))
      ∙ sym (scale-plus (e S) (at_ζ S α) j)

  -- of the weights α, α ⊕ 1, …, α ⊕ (p − 1) exactly one sends e to 0
  pub one_weight : (α : Element) → ExactlyOne p (λ j. (α ⊕ scalar j) ⊗ e S ≡ RqOps.nil)
  one_weight α =
      exactly_one_iff (λ j.
      let once : (at_ζ S α + 1 * j) % p ≡ (at_ζ S α + j) % p = ap (λ n. (at_ζ S α + n) % p) (Nat.one-mul j) in
      let iff = multiple_is_zero (at_ζ S α + j) in
      (λ h. shifted α j ∙ iff.1 (sym once ∙ h), λ h. once ∙ iff.0 (sym (shifted α j) ∙ h)))
      (one_solution p positive 1 1 (Nat.mod-eq_of_lt large) (at_ζ S α))

  -- (α ⊕ j)(ζ) ≡ α(ζ) + j modulo p
  pub at_ζ-shifted : (α : Element) (j : ℕ) → at_ζ S (α ⊕ scalar j) % p ≡ (at_ζ S α + j) % p
  at_ζ-shifted α j = (multiples_same (at_ζ S (α ⊕ scalar j)) (at_ζ S α + j)).0 (sym (product_with_e (α ⊕ scalar j)) ∙ shifted α j)
