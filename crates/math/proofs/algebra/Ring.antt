-- Commutative rings: the laws, and what follows from them for sums, differences and products of elements.
use mathlib.Core.Path.{◌≡◌, sym, ap, ◌∙◌}
use Rattle.math.specs.algebra.Ops.{Ops}

-- operations that make their carrier a commutative ring
pub record CRing (O : Ops) : Type 0 where
  pub is_set : IsSet O.Carrier
  pub add_assoc : (a b c : O.Carrier) → O.add (O.add a b) c ≡ O.add a (O.add b c)
  pub add_comm : (a b : O.Carrier) → O.add a b ≡ O.add b a
  pub add-nil : (a : O.Carrier) → O.add a O.nil ≡ a
  pub add-neg : (a : O.Carrier) → O.add a (O.neg a) ≡ O.nil
  pub mul_assoc : (a b c : O.Carrier) → O.mul (O.mul a b) c ≡ O.mul a (O.mul b c)
  pub mul_comm : (a b : O.Carrier) → O.mul a b ≡ O.mul b a
  pub mul-one : (a : O.Carrier) → O.mul a O.one ≡ a
  pub mul-add : (a b c : O.Carrier) → O.mul a (O.add b c) ≡ O.add (O.mul a b) (O.mul a c)

module _ (O : Ops) (R : CRing O) where
  open O use {Carrier, add as ◌⊕◌, mul as ◌⊗◌, neg, nil, one}

  infixl 60 ◌⊕◌
  infixl 70 ◌⊗◌
  -- The laws of the ring as lemmas, which a tactic's list can name.
  -- (a + b) + c = a + (b + c)
  pub add_assoc : (a b c : Carrier) → a ⊕ b ⊕ c ≡ a ⊕ (b ⊕ c)
  add_assoc = R.add_assoc

  -- a + b = b + a
  pub add_comm : (a b : Carrier) → a ⊕ b ≡ b ⊕ a
  add_comm = R.add_comm

  -- a + 0 = a
  pub add-nil : (a : Carrier) → a ⊕ nil ≡ a
  add-nil = R.add-nil

  -- a + −a = 0
  pub add-neg : (a : Carrier) → a ⊕ neg a ≡ nil
  add-neg = R.add-neg

  -- (ab)c = a(bc)
  pub mul_assoc : (a b c : Carrier) → a ⊗ b ⊗ c ≡ a ⊗ (b ⊗ c)
  mul_assoc = R.mul_assoc

  -- ab = ba
  pub mul_comm : (a b : Carrier) → a ⊗ b ≡ b ⊗ a
  mul_comm = R.mul_comm

  -- a · 1 = a
  pub mul-one : (a : Carrier) → a ⊗ one ≡ a
  mul-one = R.mul-one

  -- a(b + c) = ab + ac
  pub mul-add : (a b c : Carrier) → a ⊗ (b ⊕ c) ≡ a ⊗ b ⊕ a ⊗ c
  mul-add = R.mul-add

  -- a + (b + c) = b + (a + c)
  pub add_left_comm : (a b c : Carrier) → a ⊕ (b ⊕ c) ≡ b ⊕ (a ⊕ c)
  add_left_comm a b c = sym (add_assoc a b c) ∙ ap (λ x. x ⊕ c) (add_comm a b) ∙ add_assoc b a c

  -- (a + b) + (c + d) = (a + c) + (b + d)
  pub add_add_add_comm : (a b c d : Carrier) → (a ⊕ b) ⊕ (c ⊕ d) ≡ (a ⊕ c) ⊕ (b ⊕ d)
  add_add_add_comm a b c d = add_assoc a b (c ⊕ d) ∙ ap (λ x. a ⊕ x) (add_left_comm b c d) ∙ sym (add_assoc a c (b ⊕ d))

  -- a(bc) = b(ac)
  pub mul_left_comm : (a b c : Carrier) → a ⊗ (b ⊗ c) ≡ b ⊗ (a ⊗ c)
  mul_left_comm a b c = sym (mul_assoc a b c) ∙ ap (λ x. x ⊗ c) (mul_comm a b) ∙ mul_assoc b a c

  -- 0 + a = a
  pub nil-add : (a : Carrier) → nil ⊕ a ≡ a
  nil-add a = add_comm nil a ∙ add-nil a

  -- −a + a = 0
  pub neg-add : (a : Carrier) → neg a ⊕ a ≡ nil
  neg-add a = add_comm (neg a) a ∙ add-neg a

  -- a + (−a + b) = b
  pub add_neg_cancel : (a b : Carrier) → a ⊕ (neg a ⊕ b) ≡ b
  add_neg_cancel a b = sym (add_assoc a (neg a) b) ∙ ap (λ x. x ⊕ b) (add-neg a) ∙ nil-add b

  -- −a + (a + b) = b
  pub neg_add_cancel : (a b : Carrier) → neg a ⊕ (a ⊕ b) ≡ b
  neg_add_cancel a b = sym (add_assoc (neg a) a b) ∙ ap (λ x. x ⊕ b) (neg-add a) ∙ nil-add b

  -- a + b = a + c gives b = c
  pub add_cancel-left : (a b c : Carrier) → a ⊕ b ≡ a ⊕ c → b ≡ c
  add_cancel-left a b c e = sym (neg_add_cancel a b) ∙ ap (λ x. neg a ⊕ x) e ∙ neg_add_cancel a c

  -- b + a = c + a gives b = c
  pub add_cancel_right : (a b c : Carrier) → b ⊕ a ≡ c ⊕ a → b ≡ c
  add_cancel_right a b c e = add_cancel-left a b c (add_comm a b ∙ e ∙ add_comm c a)

  -- a + b = 0 gives b = −a
  pub neg_unique : (a b : Carrier) → a ⊕ b ≡ nil → b ≡ neg a
  neg_unique a b e = add_cancel-left a b (neg a) (e ∙ sym (add-neg a))

  -- −−a = a
  pub neg-neg : (a : Carrier) → neg (neg a) ≡ a
  neg-neg a = sym (neg_unique (neg a) a (neg-add a))

  -- −0 = 0
  pub neg-nil : neg nil ≡ nil
  neg-nil = sym (neg_unique nil nil (add-nil nil))

  -- −(a + b) = −a + −b
  pub neg_dist : (a b : Carrier) → neg (a ⊕ b) ≡ neg a ⊕ neg b
  neg_dist a b = sym (neg_unique (a ⊕ b) (neg a ⊕ neg b) (add_add_add_comm a b (neg a) (neg b) ∙ ap (λ x. x ⊕ (b ⊕ neg b)) (add-neg a) ∙ nil-add (b ⊕ neg b) ∙ add-neg b))

  -- −a = −b gives a = b
  pub neg_inj : (a b : Carrier) → neg a ≡ neg b → a ≡ b
  neg_inj a b e = sym (neg-neg a) ∙ ap neg e ∙ neg-neg b

  -- (a + b)c = ac + bc
  pub add-mul : (a b c : Carrier) → (a ⊕ b) ⊗ c ≡ a ⊗ c ⊕ b ⊗ c
  add-mul a b c = mul_comm (a ⊕ b) c ∙ mul-add c a b ∙ ap (λ x. x ⊕ c ⊗ b) (mul_comm c a) ∙ ap (λ x. a ⊗ c ⊕ x) (mul_comm c b)

  -- a · 0 = 0
  pub mul-nil : (a : Carrier) → a ⊗ nil ≡ nil
  mul-nil a = add_cancel-left (a ⊗ nil) (a ⊗ nil) nil (sym (mul-add a nil nil) ∙ ap (λ x. a ⊗ x) (add-nil nil) ∙ sym (add-nil (a ⊗ nil)))

  -- 0 · a = 0
  pub nil-mul : (a : Carrier) → nil ⊗ a ≡ nil
  nil-mul a = mul_comm nil a ∙ mul-nil a

  -- 1 · a = a
  pub one-mul : (a : Carrier) → one ⊗ a ≡ a
  one-mul a = mul_comm one a ∙ mul-one a

  -- a · −b = −(ab)
  pub mul-neg : (a b : Carrier) → a ⊗ neg b ≡ neg (a ⊗ b)
  mul-neg a b = neg_unique (a ⊗ b) (a ⊗ neg b) (sym (mul-add a b (neg b)) ∙ ap (λ x. a ⊗ x) (add-neg b) ∙ mul-nil a)

  -- −a · b = −(ab)
  pub neg-mul : (a b : Carrier) → neg a ⊗ b ≡ neg (a ⊗ b)
  neg-mul a b = mul_comm (neg a) b ∙ mul-neg b a ∙ ap neg (mul_comm b a)

  -- a − b = 0 gives a = b
  pub eq_of_sub_nil : (a b : Carrier) → a ⊕ neg b ≡ nil → a ≡ b
  eq_of_sub_nil a b e = add_cancel_right (neg b) a b (e ∙ sym (add-neg b))

  -- a + b = c gives a = c − b
  pub eq_sub : (a b c : Carrier) → a ⊕ b ≡ c → a ≡ c ⊕ neg b
  eq_sub a b c e = sym (ap (λ x. x ⊕ neg b) (sym e) ∙ add_assoc a b (neg b) ∙ ap (λ x. a ⊕ x) (add-neg b) ∙ add-nil a)

-- the laws as rewriting rules: products multiplied out, signs outside, sums and products sorted
pub ruleset ring = (
  add_assoc,
  add_comm,
  add_left_comm,
  add-nil,
  nil-add,
  mul_assoc,
  mul_comm,
  mul_left_comm,
  mul-one,
  one-mul,
  mul-nil,
  nil-mul,
  mul-add,
  add-mul,
  mul-neg,
  neg-mul,
  neg-neg,
  neg-nil,
  neg_dist,
  add-neg,
  neg-add,
  add_neg_cancel,
  neg_add_cancel,
)

module _ (O : Ops) (R : CRing O) where
  open O use {Carrier, add as ◌⊕◌, mul as ◌⊗◌, neg, nil, one}

  infixl 60 ◌⊕◌
  infixl 70 ◌⊗◌
  -- (1 + 1)a = a + a
  pub two-mul : (a : Carrier) → (one ⊕ one) ⊗ a ≡ a ⊕ a
  two-mul a = simp (ring, R)

  -- (a + b) − (c + b) = a − c
  pub sub_common : (a b c : Carrier) → a ⊕ b ⊕ neg (c ⊕ b) ≡ a ⊕ neg c
  sub_common a b c = simp (ring, R)

  -- where 1 + 1 has an inverse h, a + a = b + b gives a = b
  pub double_cancel : (h : Carrier) → h ⊗ (one ⊕ one) ≡ one → (a b : Carrier) → a ⊕ a ≡ b ⊕ b → a ≡ b
  double_cancel h e a b d = sym (halved a) ∙ ap (λ x. h ⊗ x) d ∙ halved b
    where
      halved : (x : Carrier) → h ⊗ (x ⊕ x) ≡ x
      halved x = ap (λ y. h ⊗ y) (sym (two-mul x)) ∙ sym (mul_assoc O R h (one ⊕ one) x) ∙ ap (λ y. y ⊗ x) e ∙ one-mul O R x

-- operations that an injective function carries into those of a commutative ring make one
pub transfer : (O P : Ops) → CRing P → IsSet O.Carrier → (φ : O.Carrier → P.Carrier) → ((a b : O.Carrier) → φ a ≡ φ b → a ≡ b)
    → ((a b : O.Carrier) → φ (O.add a b) ≡ P.add (φ a) (φ b))
    → ((a b : O.Carrier) → φ (O.mul a b) ≡ P.mul (φ a) (φ b))
    → ((a : O.Carrier) → φ (O.neg a) ≡ P.neg (φ a))
    → φ O.nil ≡ P.nil
    → φ O.one ≡ P.one
    → CRing O
transfer O P R set φ inj φadd φmul φneg φnil φone = record {
  is_set = set;
  add_assoc = λ a b c. inj _ _ (simp (φadd) (R.add_assoc (φ a) (φ b) (φ c)));
  add_comm = λ a b. inj _ _ (simp (φadd) (R.add_comm (φ a) (φ b)));
  add-nil = λ a. inj _ _ (simp (φadd, φnil) (R.add-nil (φ a)));
  add-neg = λ a. inj _ _ (simp (φadd, φneg, φnil) (R.add-neg (φ a)));
  mul_assoc = λ a b c. inj _ _ (simp (φmul) (R.mul_assoc (φ a) (φ b) (φ c)));
  mul_comm = λ a b. inj _ _ (simp (φmul) (R.mul_comm (φ a) (φ b)));
  mul-one = λ a. inj _ _ (simp (φmul, φone) (R.mul-one (φ a)));
  mul-add = λ a b c. inj _ _ (simp (φmul, φadd) (R.mul-add (φ a) (φ b) (φ c)));
}
