-- Second differences of bilinear forms in a commutative ring: what follows where two forms agree at several steps from one place.
use mathlib.Core.Path.{◌≡◌, sym, ap, ap₂, ◌∙◌}
use mathlib.Core.Bool.{cond}
use Prim.Native.Nat.{ℕ, ◌<◌}
use lib.Dec.{eqb}
use borrow.Author.Tests.{eq-eqb, ne_eqb}
use Rattle.math.specs.algebra.Ops.{Ops, dot}
use Rattle.math.proofs.algebra.Ring.{CRing, ring, add_cancel-left, mul-nil, one-mul}
use Rattle.math.proofs.algebra.Sum.{sum_single}
use Rattle.math.proofs.algebra.Dot.{dot-add-left, dot-add_right, dot-mul-left, dot-mul_right}
use Rattle.theorem_soundness.specs.Weights.{IsUnit}

-- f with δ·f₁ and ε·f₂ added
unfoldable pub step : (O : Ops) (f f₁ f₂ : ℕ → O.Carrier) (δ ε : O.Carrier) → ℕ → O.Carrier
step O f f₁ f₂ δ ε k = O.add (O.add (f k) (O.mul δ (f₁ k))) (O.mul ε (f₂ k))

-- the vector that is 1 at i, and 0 elsewhere
unfoldable pub one_at : (O : Ops) → ℕ → ℕ → O.Carrier
one_at O i k = cond (eqb k i) O.one O.nil

module _ (O : Ops) (R : CRing O) where
  open O use {Carrier, add as ◌⊕◌, mul as ◌⊗◌, neg, nil, one}

  infixl 60 ◌⊕◌
  infixl 70 ◌⊗◌
  -- a unit is cancelled on both sides
  pub unit_cancel-both : (u a b : Carrier) → IsUnit O u → u ⊗ a ≡ u ⊗ b → a ≡ b
  unit_cancel-both u a b (f, p) e = sym (back a) ∙ ap (λ x. f ⊗ x) e ∙ back b
    where
      order : (u f x : Carrier) → f ⊗ (u ⊗ x) ≡ u ⊗ f ⊗ x
      order u f x = simp (ring, R)

      back : (x : Carrier) → f ⊗ (u ⊗ x) ≡ x
      back x = order u f x ∙ ap (λ y. y ⊗ x) p ∙ one-mul O R x

  -- an inner product with the vector that is 1 at i
  pub dot-one_at : (n i : ℕ) (f : ℕ → Carrier) → i < n → dot O n f (one_at O i) ≡ f i
  unfolding dot one_at
  dot-one_at n i f h =
      sum_single O R n i (λ k. f k ⊗ cond (eqb k i) one nil) h (λ k l d. ap (λ c. f k ⊗ cond c one nil) (ne_eqb k i d) ∙ mul-nil O R (f k))
      ∙ ap (λ c. f i ⊗ cond c one nil) (eq-eqb i i (λ j. i))
      ∙ R.mul-one (f i)

  -- a form's value after two steps: its value, what each step adds, and what both add together
  unfoldable pub value : (U P S P' S' M δ ε : Carrier) → Carrier
  value U P S P' S' M δ ε = U ⊕ (δ ⊗ P ⊕ δ ⊗ δ ⊗ S) ⊕ (ε ⊗ P' ⊕ ε ⊗ ε ⊗ S') ⊕ δ ⊗ ε ⊗ M

  module _ (n : ℕ) (f f₁ f₂ g g₁ g₂ : ℕ → Carrier) where
    -- an inner product with a stepped vector
    pub dot-step : (δ ε : Carrier) → dot O n f (step O g g₁ g₂ δ ε) ≡ dot O n f g ⊕ δ ⊗ dot O n f g₁ ⊕ ε ⊗ dot O n f g₂
    unfolding step
    dot-step δ ε =
        dot-add_right O R n f (λ k. g k ⊕ δ ⊗ g₁ k) (λ k. ε ⊗ g₂ k)
        ∙ ap₂ ◌⊕◌ (dot-add_right O R n f g (λ k. δ ⊗ g₁ k) ∙ ap (λ x. dot O n f g ⊕ x) (dot-mul_right O R n δ f g₁)) (dot-mul_right O R n ε f g₂)

  module _ (n : ℕ) (f f₁ f₂ g g₁ g₂ : ℕ → Carrier) where
    -- of two stepped vectors
    pub dot-steps : (δ ε : Carrier) → dot O n (step O f f₁ f₂ δ ε) (step O g g₁ g₂ δ ε)
        ≡ value (dot O n f g) (dot O n f g₁ ⊕ dot O n f₁ g) (dot O n f₁ g₁) (dot O n f g₂ ⊕ dot O n f₂ g) (dot O n f₂ g₂) (dot O n f₁ g₂ ⊕ dot O n f₂ g₁) δ ε
    unfolding step value
    dot-steps δ ε =
        left
        ∙ ap₂ ◌⊕◌ (ap₂ ◌⊕◌ (dot-step n f f₁ f₂ g g₁ g₂ δ ε) (ap (λ x. δ ⊗ x) (dot-step n f₁ f₁ f₂ g g₁ g₂ δ ε))) (ap (λ x. ε ⊗ x) (dot-step n f₂ f₁ f₂ g g₁ g₂ δ ε))
        ∙ collect (dot O n f g) (dot O n f g₁) (dot O n f g₂) (dot O n f₁ g) (dot O n f₁ g₁) (dot O n f₁ g₂) (dot O n f₂ g) (dot O n f₂ g₁) (dot O n f₂ g₂) δ ε
      where
        w : ℕ → Carrier
        w = step O g g₁ g₂ δ ε

        left : dot O n (step O f f₁ f₂ δ ε) w ≡ dot O n f w ⊕ δ ⊗ dot O n f₁ w ⊕ ε ⊗ dot O n f₂ w
        left =
            dot-add-left O R n (λ k. f k ⊕ δ ⊗ f₁ k) (λ k. ε ⊗ f₂ k) w
            ∙ ap₂ ◌⊕◌ (dot-add-left O R n f (λ k. δ ⊗ f₁ k) w ∙ ap (λ x. dot O n f w ⊕ x) (dot-mul-left O R n δ f₁ w)) (dot-mul-left O R n ε f₂ w)

        collect : (a b c p q r x y z d e : Carrier) → (a ⊕ d ⊗ b ⊕ e ⊗ c) ⊕ d ⊗ (p ⊕ d ⊗ q ⊕ e ⊗ r) ⊕ e ⊗ (x ⊕ d ⊗ y ⊕ e ⊗ z)
            ≡ a ⊕ (d ⊗ (b ⊕ p) ⊕ d ⊗ d ⊗ q) ⊕ (e ⊗ (c ⊕ x) ⊕ e ⊗ e ⊗ z) ⊕ d ⊗ e ⊗ (r ⊕ y)
        collect a b c p q r x y z d e = simp (ring, R)

  -- two forms that agree at several steps
  module _ (U P S P' S' M W L G L' G' N : Carrier) where
    -- they agree after the steps δ and ε
    abbrev Agree : (δ ε : Carrier) → Type 0
    Agree δ ε = value U P S P' S' M δ ε ≡ value W L G L' G' N δ ε

    no_steps : Agree nil nil → U ≡ W
    unfolding value
    no_steps e = sym (none U P S P' S' M) ∙ e ∙ none W L G L' G' N
      where
        none : (v p s p' s' m : Carrier) → v ⊕ (nil ⊗ p ⊕ nil ⊗ nil ⊗ s) ⊕ (nil ⊗ p' ⊕ nil ⊗ nil ⊗ s') ⊕ nil ⊗ nil ⊗ m ≡ v
        none v p s p' s' m = simp (ring, R)

    first_step : (δ : Carrier) → Agree nil nil → Agree δ nil → δ ⊗ P ⊕ δ ⊗ δ ⊗ S ≡ δ ⊗ L ⊕ δ ⊗ δ ⊗ G
    unfolding value
    first_step δ e h =
        add_cancel-left O R U (δ ⊗ P ⊕ δ ⊗ δ ⊗ S) (δ ⊗ L ⊕ δ ⊗ δ ⊗ G) (sym (none U P S P' S' M δ) ∙ h ∙ none W L G L' G' N δ ∙ ap (λ x. x ⊕ (δ ⊗ L ⊕ δ ⊗ δ ⊗ G)) (sym (no_steps e)))
      where
        none : (v p s p' s' m d : Carrier) → v ⊕ (d ⊗ p ⊕ d ⊗ d ⊗ s) ⊕ (nil ⊗ p' ⊕ nil ⊗ nil ⊗ s') ⊕ d ⊗ nil ⊗ m ≡ v ⊕ (d ⊗ p ⊕ d ⊗ d ⊗ s)
        none v p s p' s' m d = simp (ring, R)

    second-step : (ε : Carrier) → Agree nil nil → Agree nil ε → ε ⊗ P' ⊕ ε ⊗ ε ⊗ S' ≡ ε ⊗ L' ⊕ ε ⊗ ε ⊗ G'
    unfolding value
    second-step ε e h =
        add_cancel-left O R U (ε ⊗ P' ⊕ ε ⊗ ε ⊗ S') (ε ⊗ L' ⊕ ε ⊗ ε ⊗ G') (sym (none U P S P' S' M ε) ∙ h ∙ none W L G L' G' N ε ∙ ap (λ x. x ⊕ (ε ⊗ L' ⊕ ε ⊗ ε ⊗ G')) (sym (no_steps e)))
      where
        none : (v p s p' s' m e : Carrier) → v ⊕ (nil ⊗ p ⊕ nil ⊗ nil ⊗ s) ⊕ (e ⊗ p' ⊕ e ⊗ e ⊗ s') ⊕ nil ⊗ e ⊗ m ≡ v ⊕ (e ⊗ p' ⊕ e ⊗ e ⊗ s')
        none v p s p' s' m e = simp (ring, R)

    -- at no step, δ and δ': the second differences along one step are equal
    pub same-squares : (δ δ' : Carrier) → IsUnit O δ → IsUnit O δ' → IsUnit O (δ ⊕ neg δ') → Agree nil nil → Agree δ nil → Agree δ' nil → S ≡ G
    same-squares δ δ' u u' d e h h' = unit_cancel-both (δ ⊕ neg δ') S G d (sym (less P S) ∙ ap₂ (λ x y. x ⊕ neg y) (halved δ u h) (halved δ' u' h') ∙ less L G)
      where
        out : (d p s : Carrier) → d ⊗ (p ⊕ d ⊗ s) ≡ d ⊗ p ⊕ d ⊗ d ⊗ s
        out d p s = simp (ring, R)

        halved : (d : Carrier) → IsUnit O d → Agree d nil → P ⊕ d ⊗ S ≡ L ⊕ d ⊗ G
        halved d u h = unit_cancel-both d (P ⊕ d ⊗ S) (L ⊕ d ⊗ G) u (out d P S ∙ first_step d e h ∙ sym (out d L G))

        less_of : (p s d d' : Carrier) → p ⊕ d ⊗ s ⊕ neg (p ⊕ d' ⊗ s) ≡ (d ⊕ neg d') ⊗ s
        less_of p s d d' = simp (ring, R)

        less : (p s : Carrier) → p ⊕ δ ⊗ s ⊕ neg (p ⊕ δ' ⊗ s) ≡ (δ ⊕ neg δ') ⊗ s
        less p s = less_of p s δ δ'

    -- at no step, δ, ε and both: the mixed second differences are equal
    pub same-products : (δ ε : Carrier) → IsUnit O δ → IsUnit O ε → Agree nil nil → Agree δ nil → Agree nil ε → Agree δ ε → M ≡ N
    unfolding value
    same-products δ ε u u' e h h' b =
        unit_cancel-both ε M N u' (unit_cancel-both δ (ε ⊗ M) (ε ⊗ N) u
        (sym (R.mul_assoc δ ε M) ∙ add_cancel-left O R before (δ ⊗ ε ⊗ M) (δ ⊗ ε ⊗ N) (b ∙ ap (λ x. x ⊕ δ ⊗ ε ⊗ N) (sym same)) ∙ R.mul_assoc δ ε N))
      where
        before : Carrier
        before = U ⊕ (δ ⊗ P ⊕ δ ⊗ δ ⊗ S) ⊕ (ε ⊗ P' ⊕ ε ⊗ ε ⊗ S')

        same : before ≡ W ⊕ (δ ⊗ L ⊕ δ ⊗ δ ⊗ G) ⊕ (ε ⊗ L' ⊕ ε ⊗ ε ⊗ G')
        same = ap₂ ◌⊕◌ (ap₂ ◌⊕◌ (no_steps e) (first_step δ e h)) (second-step ε e h')

  -- two inner products, of n and of r entries, of vectors that are stepped
  module _ (n r : ℕ) (f f₁ f₂ g g₁ g₂ F F₁ F₂ G G₁ G₂ : ℕ → Carrier) where
    -- they agree after the steps δ and ε
    abbrev pub SameAfter : (δ ε : Carrier) → Type 0
    SameAfter δ ε = dot O n (step O f f₁ f₂ δ ε) (step O g g₁ g₂ δ ε) ≡ dot O r (step O F F₁ F₂ δ ε) (step O G G₁ G₂ δ ε)

    after : (δ ε : Carrier) → SameAfter δ ε
        → value (dot O n f g) (dot O n f g₁ ⊕ dot O n f₁ g) (dot O n f₁ g₁) (dot O n f g₂ ⊕ dot O n f₂ g) (dot O n f₂ g₂) (dot O n f₁ g₂ ⊕ dot O n f₂ g₁) δ ε
        ≡ value (dot O r F G) (dot O r F G₁ ⊕ dot O r F₁ G) (dot O r F₁ G₁) (dot O r F G₂ ⊕ dot O r F₂ G) (dot O r F₂ G₂) (dot O r F₁ G₂ ⊕ dot O r F₂ G₁) δ ε
    after δ ε e = sym (dot-steps n f f₁ f₂ g g₁ g₂ δ ε) ∙ e ∙ dot-steps r F F₁ F₂ G G₁ G₂ δ ε

    pub along_one : (δ δ' : Carrier) → IsUnit O δ → IsUnit O δ' → IsUnit O (δ ⊕ neg δ') → SameAfter nil nil → SameAfter δ nil → SameAfter δ' nil → dot O n f₁ g₁ ≡ dot O r F₁ G₁
    along_one δ δ' u u' d e h h' =
        same-squares (dot O n f g) (dot O n f g₁ ⊕ dot O n f₁ g) (dot O n f₁ g₁) (dot O n f g₂ ⊕ dot O n f₂ g) (dot O n f₂ g₂) (dot O n f₁ g₂ ⊕ dot O n f₂ g₁)
        (dot O r F G) (dot O r F G₁ ⊕ dot O r F₁ G) (dot O r F₁ G₁) (dot O r F G₂ ⊕ dot O r F₂ G) (dot O r F₂ G₂) (dot O r F₁ G₂ ⊕ dot O r F₂ G₁)
        δ δ' u u' d (after nil nil e) (after δ nil h) (after δ' nil h')

    pub along_both : (δ ε : Carrier) → IsUnit O δ → IsUnit O ε → SameAfter nil nil → SameAfter δ nil → SameAfter nil ε → SameAfter δ ε
        → dot O n f₁ g₂ ⊕ dot O n f₂ g₁ ≡ dot O r F₁ G₂ ⊕ dot O r F₂ G₁
    along_both δ ε u u' e h h' b =
        same-products (dot O n f g) (dot O n f g₁ ⊕ dot O n f₁ g) (dot O n f₁ g₁) (dot O n f g₂ ⊕ dot O n f₂ g) (dot O n f₂ g₂) (dot O n f₁ g₂ ⊕ dot O n f₂ g₁)
        (dot O r F G) (dot O r F G₁ ⊕ dot O r F₁ G) (dot O r F₁ G₁) (dot O r F G₂ ⊕ dot O r F₂ G) (dot O r F₂ G₂) (dot O r F₁ G₂ ⊕ dot O r F₂ G₁)
        δ ε u u' (after nil nil e) (after δ nil h) (after nil ε h') (after δ ε b)
