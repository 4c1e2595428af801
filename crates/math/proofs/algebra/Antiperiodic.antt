-- The ring R[X]/(X^d + 1) over a commutative ring R, for d ≥ 1. An element is a function on all of ℕ with f (k + d) = −f k:
-- coefficient k of the class is f k for k < d, and multiplication by X moves the index, with no case for the sign.
use mathlib.Core.Path.{◌≡◌, refl, sym, ap, ap₂, fun_ext, ◌∙◌}
use mathlib.Core.Logic.{◌≢◌}
use mathlib.Core.HLevel.{Π_prop, →_set, prop→set, Σ_set, Σ_prop_path}
use Prim.Native.Nat.{ℕ, zero, suc, ◌+◌, ◌-◌, ◌*◌, ◌/◌, ◌%◌, ◌<◌}
use native.Mathlib.Nat as Nat
use native.Mathlib.Numerals.{add-one}
use native.Mathlib.Omega.{arith}
use Rattle.math.specs.algebra.Ops.{Ops, sum}
use Rattle.math.proofs.algebra.Ring.{CRing, ring, neg_dist, neg-neg, neg-nil, mul-neg, neg-mul, nil-mul, one-mul}
use Rattle.math.proofs.algebra.Sum.{sum-suc, sum_ext, sum-neg, sum-add, sum-mul-left, sum-mul_right, sum-swap, sum_split, sum_first, sum-reverse, sum_single}

-- f (k + d) = −f k for every k
abbrev pub Antiperiodic : (O : Ops) → ℕ → (ℕ → O.Carrier) → Type 0
Antiperiodic O d f = (k : ℕ) → f (k + d) ≡ O.neg (f k)

-- negated n times
unfoldable pub sign : (O : Ops) → ℕ → O.Carrier → O.Carrier
sign O zero x = x
sign O (suc n) x = O.neg (sign O n x)

-- the antiperiodic function with given values below d
unfoldable pub extend : (O : Ops) → ℕ → (ℕ → O.Carrier) → ℕ → O.Carrier
extend O d f k = sign O (k / d) (f (k % d))

-- coefficient k of the product: X^d = −1 lets the index k − i be k + (d − i), with the sign taken off
unfoldable pub mul_f : (O : Ops) → ℕ → (ℕ → O.Carrier) → (ℕ → O.Carrier) → ℕ → O.Carrier
mul_f O d a b k = O.neg (sum O d (λ i. O.mul (a i) (b (k + (d - i)))))

-- values of the conjugate below d: a_0 at 0 and −a_(d−k) at k
unfoldable pub conj_F : (O : Ops) → ℕ → (ℕ → O.Carrier) → ℕ → O.Carrier
conj_F O d a k = O.neg (a (d - k))

-- a constant as values below d
unfoldable pub const_F : (O : Ops) → O.Carrier → ℕ → O.Carrier
const_F O c zero = c
const_F O c (suc k) = O.nil

module _ (O : Ops) (R : CRing O) (d : ℕ) (pos : 0 < d) where
  open O use {Carrier, add as ◌⊕◌, mul as ◌⊗◌, neg, nil, one}

  infixl 60 ◌⊕◌
  infixl 70 ◌⊗◌
  -- the values of the extension below d
  pub extend_below : (f : ℕ → Carrier) (k : ℕ) → k < d → extend O d f k ≡ f k
  unfolding extend sign
  extend_below f k h = ap (λ q. sign O q (f (k % d))) (Nat.div-eq_of_lt h) ∙ ap f (Nat.mod-eq_of_lt h)

  -- the extension is antiperiodic
  pub extend_anti : (f : ℕ → Carrier) → Antiperiodic O d (extend O d f)
  unfolding extend sign
  extend_anti f k = ap₂ (λ q r. sign O q (f r)) (Nat.add-div_right k pos ∙ add-one (k / d)) (Nat.add-mod_right k d)

  -- an antiperiodic function is the extension of its values below d
  pub anti_extend : (f : ℕ → Carrier) → Antiperiodic O d f → (k : ℕ) → f k ≡ extend O d f k
  unfolding extend sign
  anti_extend f h k = ap f (sym (Nat.div-add-mod' k d)) ∙ turns (k / d)
    where
      turns : (q : ℕ) → f (q * d + k % d) ≡ sign O q (f (k % d))
      turns zero = ap f (ap (λ x. x + k % d) (Nat.zero-mul d) ∙ Nat.zero-add (k % d))
      turns (suc q) = ap f (more q) ∙ h (q * d + k % d) ∙ ap neg (turns q)
        where
          more : (q : ℕ) → suc q * d + k % d ≡ q * d + k % d + d
          more q = omega arith

  -- antiperiodic functions that agree below d are equal
  pub anti_ext : (f g : ℕ → Carrier) → Antiperiodic O d f → Antiperiodic O d g → ((k : ℕ) → k < d → f k ≡ g k) → (k : ℕ) → f k ≡ g k
  unfolding extend
  anti_ext f g p q h k = anti_extend f p k ∙ ap (sign O (k / d)) (h (k % d) (Nat.mod-lt k pos)) ∙ sym (anti_extend g q k)

  -- the product is antiperiodic
  pub mul_F_anti : (a b : ℕ → Carrier) → Antiperiodic O d b → Antiperiodic O d (mul_f O d a b)
  unfolding mul_f
  mul_F_anti a b q k =
      ap neg (sum_ext O d (λ i. a i ⊗ b (k + d + (d - i))) (λ i. neg (a i ⊗ b (k + (d - i)))) (λ i l. ap (λ x. a i ⊗ x) (ap b (Nat.add_right_comm k d (d - i)) ∙ q (k + (d - i)))
      ∙ mul-neg O R (a i) (b (k + (d - i))))
      ∙ sum-neg O R d (λ i. a i ⊗ b (k + (d - i))))

  -- multiplication by X on the left factor moves the index of the product
  mul_F_shift_one : (a b : ℕ → Carrier) → Antiperiodic O d a → Antiperiodic O d b → (k : ℕ) → mul_f O d (λ i. a (i + 1)) b k ≡ mul_f O d a b (k + 1)
  unfolding mul_f
  mul_F_shift_one a b p q k =
      ap neg
      (ap (λ m. sum O m (λ i. a (i + 1) ⊗ b (k + (d - i)))) count
      ∙ sum-suc O (d - 1) (λ i. a (i + 1) ⊗ b (k + (d - i)))
      ∙ ap₂ ◌⊕◌ (sum_ext O (d - 1) (λ i. a (i + 1) ⊗ b (k + (d - i))) (λ i. a (i + 1) ⊗ b (k + 1 + (d - (i + 1)))) (λ i l. ap (λ x. a (i + 1) ⊗ b x) (omega arith))) last
      ∙ R.add_comm (sum O (d - 1) (λ i. a (i + 1) ⊗ b (k + 1 + (d - (i + 1))))) (a 0 ⊗ b (k + 1 + (d - 0)))
      ∙ sym (sum_first O R (d - 1) (λ i. a i ⊗ b (k + 1 + (d - i))))
      ∙ ap (λ m. sum O m (λ i. a i ⊗ b (k + 1 + (d - i)))) (sym count))
    where
      count : d ≡ d - 1 + 1
      count = omega arith

      top : d - 1 + 1 ≡ 0 + d
      top = omega arith

      rest : k + (d - (d - 1)) ≡ k + 1
      rest = omega arith

      last : a (d - 1 + 1) ⊗ b (k + (d - (d - 1))) ≡ a 0 ⊗ b (k + 1 + (d - 0))
      last =
          ap₂ ◌⊗◌ (ap a top ∙ p 0) (ap b rest) ∙ neg-mul O R (a 0) (b (k + 1)) ∙ sym (mul-neg O R (a 0) (b (k + 1)))
          ∙ ap (λ x. a 0 ⊗ x) (sym (q (k + 1)) ∙ ap (λ m. b (k + 1 + m)) (sym (Nat.sub-zero d)))

  -- the same for a power of X
  pub mul_F_shift : (s : ℕ) (a b : ℕ → Carrier) → Antiperiodic O d a → Antiperiodic O d b → (k : ℕ) → mul_f O d (λ i. a (i + s)) b k ≡ mul_f O d a b (k + s)
  mul_F_shift zero a b p q k = ap₂ (λ x m. mul_f O d x b m) (fun_ext (λ i. ap a (Nat.add-zero i))) (sym (Nat.add-zero k))
  mul_F_shift (suc s) a b p q k =
      ap (λ x. mul_f O d x b k) (fun_ext (λ i. ap a (before i)))
      ∙ mul_F_shift_one (λ i. a (i + s)) b (λ i. ap a (Nat.add_right_comm i d s) ∙ p (i + s)) q k
      ∙ mul_F_shift s a b p q (k + 1)
      ∙ ap (mul_f O d a b) (sym (before k))
    where
      before : (i : ℕ) → i + suc s ≡ i + 1 + s
      before i = omega arith

  -- the constant coefficient of a product is that of the product the other way round
  mul_F_comm_zero : (a b : ℕ → Carrier) → Antiperiodic O d a → Antiperiodic O d b → mul_f O d a b 0 ≡ mul_f O d b a 0
  unfolding mul_f
  mul_F_comm_zero a b p q =
      ap neg
      (ap (λ m. sum O m (λ i. a i ⊗ b (0 + (d - i)))) count
      ∙ sum_first O R (d - 1) (λ i. a i ⊗ b (0 + (d - i)))
      ∙ ap₂ ◌⊕◌ (ap (λ x. a 0 ⊗ b x) whole ∙ cross ∙ ap (λ x. b 0 ⊗ a x) (sym whole))
      (sum-reverse O R (d - 1) (λ i. a (i + 1) ⊗ b (0 + (d - (i + 1))))
      ∙ sum_ext O (d - 1) (λ i. a (d - 1 - 1 - i + 1) ⊗ b (0 + (d - (d - 1 - 1 - i + 1)))) (λ i. b (i + 1) ⊗ a (0 + (d - (i + 1))))
      (λ i l. ap₂ (λ x y. a x ⊗ b y) (turned i l) (back i l) ∙ R.mul_comm (a (0 + (d - (i + 1)))) (b (i + 1))))
      ∙ sym (sum_first O R (d - 1) (λ i. b i ⊗ a (0 + (d - i))))
      ∙ ap (λ m. sum O m (λ i. b i ⊗ a (0 + (d - i)))) (sym count))
    where
      count : d ≡ d - 1 + 1
      count = omega arith

      whole : 0 + (d - 0) ≡ 0 + d
      whole = omega arith

      signs : (x y : Carrier) → x ⊗ neg y ≡ y ⊗ neg x
      signs x y = simp (ring, R)

      cross : a 0 ⊗ b (0 + d) ≡ b 0 ⊗ a (0 + d)
      cross = ap (λ x. a 0 ⊗ x) (q 0) ∙ signs (a 0) (b 0) ∙ ap (λ x. b 0 ⊗ x) (sym (p 0))

      turned : (i : ℕ) → i < d - 1 → d - 1 - 1 - i + 1 ≡ 0 + (d - (i + 1))
      turned i l = omega arith

      back : (i : ℕ) → i < d - 1 → 0 + (d - (d - 1 - 1 - i + 1)) ≡ i + 1
      back i l = omega arith

  -- a power of X on the right factor moves the index of the product
  mul_F_from_zero : (a b : ℕ → Carrier) (k : ℕ) → mul_f O d a (λ i. b (i + k)) 0 ≡ mul_f O d a b k
  unfolding mul_f
  mul_F_from_zero a b k = ap neg (sum_ext O d (λ i. a i ⊗ b (0 + (d - i) + k)) (λ i. a i ⊗ b (k + (d - i))) (λ i l. ap (λ x. a i ⊗ b x) (omega arith)))

  -- ab = ba
  pub mul_F_comm : (a b : ℕ → Carrier) → Antiperiodic O d a → Antiperiodic O d b → (k : ℕ) → mul_f O d a b k ≡ mul_f O d b a k
  mul_F_comm a b p q k =
      ap (mul_f O d a b) (sym (Nat.zero-add k))
      ∙ sym (mul_F_shift k a b p q 0)
      ∙ mul_F_comm_zero (λ i. a (i + k)) b (λ i. ap a (Nat.add_right_comm i d k) ∙ p (i + k)) q
      ∙ mul_F_from_zero b a k

  -- (ab)c = a(bc)
  pub mul_F_assoc : (a b c : ℕ → Carrier) → Antiperiodic O d b → Antiperiodic O d c → (k : ℕ) → mul_f O d (mul_f O d a b) c k ≡ mul_f O d a (mul_f O d b c) k
  unfolding mul_f
  mul_F_assoc a b c q r k =
      ap neg
      (sum_ext O d (λ i. mul_f O d a b i ⊗ c (k + (d - i))) (λ i. neg (sum O d (λ j. T i j))) (λ i l. left i)
      ∙ sum-neg O R d (λ i. sum O d (λ j. T i j))
      ∙ ap neg (sum-swap O R d d T)
      ∙ sym (sum-neg O R d (λ j. sum O d (λ i. T i j)))
      ∙ sum_ext O d (λ j. neg (sum O d (λ i. T i j))) (λ j. a j ⊗ mul_f O d b c (k + (d - j))) (λ j l. sym (right j)))
    where
      T : ℕ → ℕ → Carrier
      T i j = a j ⊗ (b (i + (d - j)) ⊗ c (k + (d - i)))

      left : (i : ℕ) → mul_f O d a b i ⊗ c (k + (d - i)) ≡ neg (sum O d (λ j. T i j))
      left i =
          neg-mul O R (sum O d (λ j. a j ⊗ b (i + (d - j)))) (c (k + (d - i)))
          ∙ ap neg (sym (sum-mul_right O R d (c (k + (d - i))) (λ j. a j ⊗ b (i + (d - j))))
          ∙ sum_ext O d (λ j. a j ⊗ b (i + (d - j)) ⊗ c (k + (d - i))) (λ j. T i j) (λ j l. R.mul_assoc (a j) (b (i + (d - j))) (c (k + (d - i)))))

      right : (j : ℕ) → a j ⊗ mul_f O d b c (k + (d - j)) ≡ neg (sum O d (λ i. T i j))
      right j =
          ap (λ x. a j ⊗ x) (sym (mul_F_shift (d - j) b c q r k))
          ∙ mul-neg O R (a j) (sum O d (λ i. b (i + (d - j)) ⊗ c (k + (d - i))))
          ∙ ap neg (sym (sum-mul-left O R d (a j) (λ i. b (i + (d - j)) ⊗ c (k + (d - i)))))

  -- a(b + c) = ab + ac
  pub mul_F_add : (a b c : ℕ → Carrier) (k : ℕ) → mul_f O d a (λ i. b i ⊕ c i) k ≡ mul_f O d a b k ⊕ mul_f O d a c k
  unfolding mul_f
  mul_F_add a b c k =
      ap neg
      (sum_ext O d (λ i. a i ⊗ (b (k + (d - i)) ⊕ c (k + (d - i)))) (λ i. a i ⊗ b (k + (d - i)) ⊕ a i ⊗ c (k + (d - i))) (λ i l. R.mul-add (a i) (b (k + (d - i))) (c (k + (d - i))))
      ∙ sum-add O R d (λ i. a i ⊗ b (k + (d - i))) (λ i. a i ⊗ c (k + (d - i))))
      ∙ neg_dist O R (sum O d (λ i. a i ⊗ b (k + (d - i)))) (sum O d (λ i. a i ⊗ c (k + (d - i))))

  -- the product with a constant
  pub const_mul_F : (c : Carrier) (a : ℕ → Carrier) → Antiperiodic O d a → (k : ℕ) → mul_f O d (extend O d (const_F O c)) a k ≡ c ⊗ a k
  unfolding mul_f const_F
  const_mul_F c a p k =
      ap neg
      (sum_single O R d 0 (λ i. extend O d (const_F O c) i ⊗ a (k + (d - i))) pos
      (λ i l n. ap (λ x. x ⊗ a (k + (d - i))) (extend_below (const_F O c) i l ∙ other i n) ∙ nil-mul O R (a (k + (d - i))))
      ∙ ap₂ ◌⊗◌ (extend_below (const_F O c) 0 pos) (ap (λ m. a (k + m)) (Nat.sub-zero d) ∙ p k)
      ∙ mul-neg O R c (a k))
      ∙ neg-neg O R (c ⊗ a k)
    where
      other : (i : ℕ) → i ≢ 0 → const_F O c i ≡ nil
      other zero n = absurd (n refl)
      other (suc i) n = refl

  -- coefficient k of the product as sums over i + j = k and over i + j = k + d
  pub mul_F_coefficient : (a b : ℕ → Carrier) → Antiperiodic O d b → (k : ℕ) → k < d
      → mul_f O d a b k ≡ sum O (k + 1) (λ i. a i ⊗ b (k - i)) ⊕ neg (sum O (d - 1 - k) (λ i. a (k + 1 + i) ⊗ b (d - 1 - i)))
  unfolding mul_f
  mul_F_coefficient a b q k h =
      ap neg
      (ap (λ m. sum O m (λ i. a i ⊗ b (k + (d - i)))) count
      ∙ sum_split O R (k + 1) (d - 1 - k) (λ i. a i ⊗ b (k + (d - i)))
      ∙ ap₂ ◌⊕◌
      (sum_ext O (k + 1) (λ i. a i ⊗ b (k + (d - i))) (λ i. neg (a i ⊗ b (k - i))) (λ i l. ap (λ x. a i ⊗ x) (ap b (wrapped i l) ∙ q (k - i)) ∙ mul-neg O R (a i) (b (k - i)))
      ∙ sum-neg O R (k + 1) (λ i. a i ⊗ b (k - i)))
      (sum_ext O (d - 1 - k) (λ i. a (k + 1 + i) ⊗ b (k + (d - (k + 1 + i)))) (λ i. a (k + 1 + i) ⊗ b (d - 1 - i)) (λ i l. ap (λ x. a (k + 1 + i) ⊗ b x) (high i l))))
      ∙ signs (sum O (k + 1) (λ i. a i ⊗ b (k - i))) (sum O (d - 1 - k) (λ i. a (k + 1 + i) ⊗ b (d - 1 - i)))
    where
      count : d ≡ k + 1 + (d - 1 - k)
      count = omega arith

      wrapped : (i : ℕ) → i < k + 1 → k + (d - i) ≡ k - i + d
      wrapped i l = omega arith

      high : (i : ℕ) → i < d - 1 - k → k + (d - (k + 1 + i)) ≡ d - 1 - i
      high i l = omega arith

      signs : (x y : Carrier) → neg (neg x ⊕ y) ≡ x ⊕ neg y
      signs x y = neg_dist O R (neg x) y ∙ ap (λ z. z ⊕ neg y) (neg-neg O R x)

  -- value d − i of the conjugate, for i < d
  pub conj_at : (a : ℕ → Carrier) → Antiperiodic O d a → (i : ℕ) → i < d → extend O d (conj_F O d a) (0 + (d - i)) ≡ neg (a i)
  unfolding conj_F
  conj_at a p zero h =
      ap (λ x. extend O d (conj_F O d a) (0 + x)) (Nat.sub-zero d)
      ∙ extend_anti (conj_F O d a) 0
      ∙ ap neg (extend_below (conj_F O d a) 0 pos ∙ ap neg (ap a whole ∙ p 0) ∙ neg-neg O R (a 0))
    where
      whole : d - 0 ≡ 0 + d
      whole = omega arith
  conj_at a p (suc i) h = extend_below (conj_F O d a) (0 + (d - suc i)) (omega arith) ∙ ap (λ x. neg (a x)) (omega arith)

  -- the constant coefficient of conj(a) b is the inner product of the coefficients
  pub conj_mul_F : (a b : ℕ → Carrier) → Antiperiodic O d a → Antiperiodic O d b → mul_f O d (extend O d (conj_F O d a)) b 0 ≡ sum O d (λ i. a i ⊗ b i)
  unfolding mul_f
  conj_mul_F a b p q =
      mul_F_comm (extend O d (conj_F O d a)) b (extend_anti (conj_F O d a)) q 0
      ∙ ap neg
      (sum_ext O d (λ i. b i ⊗ extend O d (conj_F O d a) (0 + (d - i))) (λ i. neg (a i ⊗ b i)) (λ i l. ap (λ x. b i ⊗ x) (conj_at a p i l) ∙ signs (b i) (a i))
      ∙ sum-neg O R d (λ i. a i ⊗ b i))
      ∙ neg-neg O R (sum O d (λ i. a i ⊗ b i))
    where
      signs : (x y : Carrier) → x ⊗ neg y ≡ neg (y ⊗ x)
      signs x y = simp (ring, R)

-- the elements of the ring
abbrev pub Anti : (O : Ops) → ℕ → Type 0
Anti O d = (f : ℕ → O.Carrier) × Antiperiodic O d f

module _ (O : Ops) (R : CRing O) (d : ℕ) (pos : 0 < d) where
  open O use {Carrier, add as ◌⊕◌, mul as ◌⊗◌, neg, nil, one}

  infixl 60 ◌⊕◌
  infixl 70 ◌⊗◌
  -- the operations of the ring
  abbrev pub anti_ops : Ops
  anti_ops = record {
    Carrier = Anti O d;
    add = λ f g. ((λ k. f.0 k ⊕ g.0 k), λ k. ap₂ ◌⊕◌ (f.1 k) (g.1 k) ∙ sym (neg_dist O R (f.0 k) (g.0 k)));
    mul = λ f g. (mul_f O d f.0 g.0, mul_F_anti O R d pos f.0 g.0 g.1);
    neg = λ f. ((λ k. neg (f.0 k)), λ k. ap neg (f.1 k));
    nil = ((λ k. nil), λ k. sym (neg-nil O R));
    one = (extend O d (const_F O one), extend_anti O R d pos (const_F O one));
  }

  -- elements whose coefficients agree below d are equal
  pub anti_path : (f g : Anti O d) → ((k : ℕ) → k < d → f.0 k ≡ g.0 k) → f ≡ g
  anti_path f g h = Σ_prop_path (λ x. Π_prop (λ k. R.is_set (x (k + d)) (neg (x k)))) (fun_ext (anti_ext O R d pos f.0 g.0 f.1 g.1 h))

  -- R[X]/(X^d + 1) is a commutative ring
  pub anti_ring : CRing anti_ops
  anti_ring = record {
    is_set = Σ_set (→_set R.is_set) (λ f. prop→set (Π_prop (λ k. R.is_set (f (k + d)) (neg (f k)))));
    add_assoc = λ a b c. anti_path _ _ (λ k l. R.add_assoc (a.0 k) (b.0 k) (c.0 k));
    add_comm = λ a b. anti_path _ _ (λ k l. R.add_comm (a.0 k) (b.0 k));
    add-nil = λ a. anti_path _ _ (λ k l. R.add-nil (a.0 k));
    add-neg = λ a. anti_path _ _ (λ k l. R.add-neg (a.0 k));
    mul_assoc = λ a b c. anti_path _ _ (λ k l. mul_F_assoc O R d pos a.0 b.0 c.0 b.1 c.1 k);
    mul_comm = λ a b. anti_path _ _ (λ k l. mul_F_comm O R d pos a.0 b.0 a.1 b.1 k);
    mul-one = λ a.
        anti_path _ _ (λ k l. mul_F_comm O R d pos a.0 (extend O d (const_F O one)) a.1 (extend_anti O R d pos (const_F O one)) k ∙ const_mul_F O R d pos one a.0 a.1 k ∙ one-mul O R (a.0 k));
    mul-add = λ a b c. anti_path _ _ (λ k l. mul_F_add O R d pos a.0 b.0 c.0 k);
  }
