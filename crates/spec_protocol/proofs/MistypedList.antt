-- The order of the list of Item 8, as Item 12 has it, is total, and the list is unique.
use mathlib.Core.Path.{◌≡◌, refl, sym, ap, ap₂, ◌∙◌}
use mathlib.Core.Bool.{Bool, true, false, cond}
use mathlib.Core.Logic.{◌⊎◌, inl, inr}
use mathlib.Core.List.Memᴰ
use mathlib.Core.List.{List, [], ◌∷◌, Memᴰ}
use Prim.Native.Nat.{ℕ, ◌≤◌, ◌<◌}
use native.Mathlib.Nat.{eq-or-lt_of_le}
use native.Mathlib.Omega.{arith}
use borrow.Author.Tests.{ltb-true, ltb-false, lt-ltb, eqb-true, eqb-false, eq-eqb, ne_eqb}
use lib.Dec.{ltb, eqb}
use Rattle.spec_leaves.specs.Zq.{size}
use Rattle.spec_protocol.specs.Views.{Public, Message}
use Rattle.spec_protocol.specs.Mistyped.{Entry, by_number, sign_rank, of_equal_size, comes_before, Ordered, Listed}
use Rattle.spec_protocol.proofs.Mistyped.{smallest_unique}

-- a number that is at least another and not equal is above it
above : (a b : ℕ) → b ≤ a → (a ≡ b → ⊥) → b < a
above a b h d = go (eq-or-lt_of_le h)
  where
    go : (b ≡ a) ⊎ (b < a) → b < a
    go (inl e) = absurd (d (sym e))
    go (inr l) = l

module _ (a b : ℕ) where
  -- a lower number comes first
  by_lower : (p : Bool) → a < b → by_number a b p ≡ true
  by_lower p h = ap (λ t. cond t p (ltb a b)) (ne_eqb a b (λ e. omega arith)) ∙ lt-ltb a b h

  -- equal numbers leave it to what is said next
  by_equal : (p : Bool) → a ≡ b → by_number a b p ≡ p
  by_equal p e = ap (λ t. cond t p (ltb a b)) (eq-eqb a b e)

  -- what comes first has a lower number, or an equal one and comes first by what is said next
  by_number_true : (p : Bool) → by_number a b p ≡ true → (a < b) ⊎ ((a ≡ b) × (p ≡ true))
  by_number_true p e = go (eqb a b) refl
    where
      go : (t : Bool) → eqb a b ≡ t → (a < b) ⊎ ((a ≡ b) × (p ≡ true))
      go true f = inr (eqb-true a b f, sym (by_equal p (eqb-true a b f)) ∙ e)
      go false f = inl (ltb-true a b (sym (ap (λ t. cond t p (ltb a b)) f) ∙ e))

  -- what does not come first has a higher number, or an equal one and does not come first by what is said next
  by_number_false : (p : Bool) → by_number a b p ≡ false → (b < a) ⊎ ((a ≡ b) × (p ≡ false))
  by_number_false p e = go (eqb a b) refl
    where
      go : (t : Bool) → eqb a b ≡ t → (b < a) ⊎ ((a ≡ b) × (p ≡ false))
      go true f = inr (eqb-true a b f, sym (by_equal p (eqb-true a b f)) ∙ e)
      go false f = inl (above a b (ltb-false a b (sym (ap (λ t. cond t p (ltb a b)) f) ∙ e)) (eqb-false a b f))

-- an order by number and then by another is transitive
by_number_trans : (a b c : ℕ) (p q r : Bool) → (p ≡ true → q ≡ true → r ≡ true) → by_number a b p ≡ true → by_number b c q ≡ true → by_number a c r ≡ true
by_number_trans a b c p q r t e f = go (by_number_true a b p e) (by_number_true b c q f)
  where
    go : (a < b) ⊎ ((a ≡ b) × (p ≡ true)) → (b < c) ⊎ ((b ≡ c) × (q ≡ true)) → by_number a c r ≡ true
    go (inl x) (inl y) = by_lower a c r (omega arith)
    go (inl x) (inr y) = by_lower a c r (omega arith)
    go (inr x) (inl y) = by_lower a c r (omega arith)
    go (inr x) (inr y) = by_equal a c r (x.0 ∙ y.0) ∙ t x.1 y.1

-- and total where the other is
by_number_other : (a b : ℕ) (p q : Bool) → (p ≡ false → q ≡ true) → by_number a b p ≡ false → by_number b a q ≡ true
by_number_other a b p q t e = go (by_number_false a b p e)
  where
    go : (b < a) ⊎ ((a ≡ b) × (p ≡ false)) → by_number b a q ≡ true
    go (inl x) = by_lower b a q x
    go (inr x) = by_equal b a q (sym x.0) ∙ t x.1

-- by lower number: transitive, and total on different numbers
ltb_trans : (a b c : ℕ) → ltb a b ≡ true → ltb b c ≡ true → ltb a c ≡ true
ltb_trans a b c e f = let x : a < b = ltb-true a b e in let y : b < c = ltb-true b c f in lt-ltb a c (omega arith)

ltb_other : (a b : ℕ) → (a ≡ b → ⊥) → ltb a b ≡ false → ltb b a ≡ true
ltb_other a b d e = lt-ltb b a (above a b (ltb-false a b e) d)

-- no number is below itself
ltb_self : (a : ℕ) → ltb a a ≡ true → ⊥
ltb_self a e = let h : a < a = ltb-true a a e in omega arith

-- the order of entries is transitive
pub before_trans : (e f g : Entry) → comes_before e f ≡ true → comes_before f g ≡ true → comes_before e g ≡ true
unfolding comes_before
before_trans e f g =
    by_number_trans (size e.number) (size f.number) (size g.number) (of_equal_size e f) (of_equal_size f g) (of_equal_size e g)
    (by_number_trans (sign_rank e.number) (sign_rank f.number) (sign_rank g.number) (ltb e.index f.index) (ltb f.index g.index) (ltb e.index g.index)
    (ltb_trans e.index f.index g.index))

-- total on entries of different indexes
pub before_other : (e f : Entry) → (e.index ≡ f.index → ⊥) → comes_before e f ≡ false → comes_before f e ≡ true
unfolding comes_before
before_other e f d =
    by_number_other (size e.number) (size f.number) (of_equal_size e f) (of_equal_size f e)
    (by_number_other (sign_rank e.number) (sign_rank f.number) (ltb e.index f.index) (ltb f.index e.index) (ltb_other e.index f.index d))

-- and no entry comes before itself
pub before_self : (e : Entry) → comes_before e e ≡ true → ⊥
unfolding comes_before
before_self e h =
    ltb_self e.index
    (sym (by_equal (sign_rank e.number) (sign_rank e.number) (ltb e.index e.index) refl)
    ∙ sym (by_equal (size e.number) (size e.number) (of_equal_size e e) refl)
    ∙ h)

-- lists in order with the same entries are equal
pub ordered_unique : (es fs : List Entry) → Ordered es → Ordered fs → ((e : Entry) → Memᴰ e es → Memᴰ e fs) → ((e : Entry) → Memᴰ e fs → Memᴰ e es) → es ≡ fs
unfolding Ordered
ordered_unique [] [] p q to from = refl
ordered_unique [] (f ∷ fs) p q to from = absurd (Memᴰ.not-nil (from f (Memᴰ.head refl)))
ordered_unique (e ∷ es) [] p q to from = absurd (Memᴰ.not-nil (to e (Memᴰ.head refl)))
ordered_unique (e ∷ es) (f ∷ fs) p q to from = ap₂ ◌∷◌ same (ordered_unique es fs p.1 q.1 down up)
  where
    heads : (e ≡ f) ⊎ Memᴰ e fs → (f ≡ e) ⊎ Memᴰ f es → e ≡ f
    heads (inl x) y = x
    heads (inr x) (inl y) = sym y
    heads (inr x) (inr y) = absurd (before_self e (before_trans e f e (p.0 f y) (q.0 e x)))

    same : e ≡ f
    same = heads (Memᴰ.cases_cons (to e (Memᴰ.head refl))) (Memᴰ.cases_cons (from f (Memᴰ.head refl)))

    down : (g : Entry) → Memᴰ g es → Memᴰ g fs
    down g m = go (Memᴰ.cases_cons (to g (Memᴰ.tail m)))
      where
        go : (g ≡ f) ⊎ Memᴰ g fs → Memᴰ g fs
        go (inl x) = absurd (before_self e (p.0 e (Memᴰ.cast (same ∙ sym x) m)))
        go (inr x) = x

    up : (g : Entry) → Memᴰ g fs → Memᴰ g es
    up g m = go (Memᴰ.cases_cons (from g (Memᴰ.tail m)))
      where
        go : (g ≡ e) ⊎ Memᴰ g es → Memᴰ g es
        go (inl x) = absurd (before_self f (q.0 f (Memᴰ.cast (sym same ∙ sym x) m)))
        go (inr x) = x

-- the list that is asked for is unique: nothing of it is left open
module _ (X : Public) (M : Message) where
  -- an entry of one list is one of another
  carried : {es fs : List Entry} → Listed X M X.P.l es → Listed X M X.P.l fs → (e : Entry) → Memᴰ e es → Memᴰ e fs
  carried {es} {fs} p q e m =
      let h = p.inside e m in
      let s = p.smallest e m in
      let a = q.all e.index e.number h s.mends in
      Memᴰ.cast (ap (λ x. record { index = e.index; number = x }) (smallest_unique X M e.index h e.number a.0 s (q.smallest _ a.1))) a.1

  pub listed_unique : (es fs : List Entry) → Listed X M X.P.l es → Listed X M X.P.l fs → es ≡ fs
  listed_unique es fs p q = ordered_unique es fs p.ordered q.ordered (carried p q) (carried q p)
