-- Inner products and linear combinations in a commutative ring.
use mathlib.Core.Path.{◌≡◌, sym, ap, ap₂, ◌∙◌}
use Prim.Native.Nat.{ℕ, ◌+◌, ◌<◌}
use Rattle.math.specs.algebra.Ops.{Ops, sum, dot, comb}
use Rattle.math.proofs.algebra.Ring.{CRing, ring, add-mul, neg-mul}
use Rattle.math.proofs.algebra.Sum.{sum_ext, sum_split, sum-add, sum-neg, sum-mul-left, sum-mul_right, sum-swap}

module _ (O : Ops) where
  open O use {Carrier, add as ◌⊕◌, mul as ◌⊗◌}

  infixl 60 ◌⊕◌
  infixl 70 ◌⊗◌
  -- vectors that agree below n have equal inner products
  pub dot_ext : (n : ℕ) (f f' g g' : ℕ → Carrier) → ((i : ℕ) → i < n → f i ≡ f' i) → ((i : ℕ) → i < n → g i ≡ g' i) → dot O n f g ≡ dot O n f' g'
  unfolding dot
  dot_ext n f f' g g' p q = sum_ext O n (λ i. f i ⊗ g i) (λ i. f' i ⊗ g' i) (λ i l. ap₂ ◌⊗◌ (p i l) (q i l))

module _ (O : Ops) (R : CRing O) where
  open O use {Carrier, add as ◌⊕◌, mul as ◌⊗◌, neg, nil, one}

  infixl 60 ◌⊕◌
  infixl 70 ◌⊗◌
  -- ⟨f, g⟩ = ⟨g, f⟩
  pub dot_comm : (n : ℕ) (f g : ℕ → Carrier) → dot O n f g ≡ dot O n g f
  unfolding dot
  dot_comm n f g = sum_ext O n (λ i. f i ⊗ g i) (λ i. g i ⊗ f i) (λ i l. R.mul_comm (f i) (g i))

  -- an inner product split after the first m entries
  pub dot_split : (m n : ℕ) (f g : ℕ → Carrier) → dot O (m + n) f g ≡ dot O m f g ⊕ dot O n (λ i. f (m + i)) (λ i. g (m + i))
  unfolding dot
  dot_split m n f g = sum_split O R m n (λ i. f i ⊗ g i)

  -- ⟨f + g, h⟩ = ⟨f, h⟩ + ⟨g, h⟩
  pub dot-add-left : (n : ℕ) (f g h : ℕ → Carrier) → dot O n (λ i. f i ⊕ g i) h ≡ dot O n f h ⊕ dot O n g h
  unfolding dot
  dot-add-left n f g h = sum_ext O n (λ i. (f i ⊕ g i) ⊗ h i) (λ i. f i ⊗ h i ⊕ g i ⊗ h i) (λ i l. add-mul O R (f i) (g i) (h i)) ∙ sum-add O R n (λ i. f i ⊗ h i) (λ i. g i ⊗ h i)

  -- ⟨f, g + h⟩ = ⟨f, g⟩ + ⟨f, h⟩
  pub dot-add_right : (n : ℕ) (f g h : ℕ → Carrier) → dot O n f (λ i. g i ⊕ h i) ≡ dot O n f g ⊕ dot O n f h
  dot-add_right n f g h = dot_comm n f (λ i. g i ⊕ h i) ∙ dot-add-left n g h f ∙ ap₂ ◌⊕◌ (dot_comm n g f) (dot_comm n h f)

  -- ⟨−f, g⟩ = −⟨f, g⟩
  pub dot-neg-left : (n : ℕ) (f g : ℕ → Carrier) → dot O n (λ i. neg (f i)) g ≡ neg (dot O n f g)
  unfolding dot
  dot-neg-left n f g = sum_ext O n (λ i. neg (f i) ⊗ g i) (λ i. neg (f i ⊗ g i)) (λ i l. neg-mul O R (f i) (g i)) ∙ sum-neg O R n (λ i. f i ⊗ g i)

  -- ⟨f, −g⟩ = −⟨f, g⟩
  pub dot-neg_right : (n : ℕ) (f g : ℕ → Carrier) → dot O n f (λ i. neg (g i)) ≡ neg (dot O n f g)
  dot-neg_right n f g = dot_comm n f (λ i. neg (g i)) ∙ dot-neg-left n g f ∙ ap neg (dot_comm n g f)

  -- ⟨f, g − h⟩ = ⟨f, g⟩ − ⟨f, h⟩
  pub dot-sub_right : (n : ℕ) (f g h : ℕ → Carrier) → dot O n f (λ i. g i ⊕ neg (h i)) ≡ dot O n f g ⊕ neg (dot O n f h)
  dot-sub_right n f g h = dot-add_right n f g (λ i. neg (h i)) ∙ ap (◌⊕◌ (dot O n f g)) (dot-neg_right n f h)

  -- ⟨c f, g⟩ = c ⟨f, g⟩
  pub dot-mul-left : (n : ℕ) (c : Carrier) (f g : ℕ → Carrier) → dot O n (λ i. c ⊗ f i) g ≡ c ⊗ dot O n f g
  unfolding dot
  dot-mul-left n c f g = sum_ext O n (λ i. c ⊗ f i ⊗ g i) (λ i. c ⊗ (f i ⊗ g i)) (λ i l. R.mul_assoc c (f i) (g i)) ∙ sum-mul-left O R n c (λ i. f i ⊗ g i)

  -- ⟨f, c g⟩ = c ⟨f, g⟩
  pub dot-mul_right : (n : ℕ) (c : Carrier) (f g : ℕ → Carrier) → dot O n f (λ i. c ⊗ g i) ≡ c ⊗ dot O n f g
  dot-mul_right n c f g = dot_comm n f (λ i. c ⊗ g i) ∙ dot-mul-left n c g f ∙ ap (λ x. c ⊗ x) (dot_comm n g f)

  -- ⟨Σ f_j, g⟩ = Σ ⟨f_j, g⟩
  pub dot-sum-left : (n m : ℕ) (f : ℕ → ℕ → Carrier) (g : ℕ → Carrier) → dot O n (λ k. sum O m (λ j. f j k)) g ≡ sum O m (λ j. dot O n (f j) g)
  unfolding dot
  dot-sum-left n m f g =
      sum_ext O n (λ k. sum O m (λ j. f j k) ⊗ g k) (λ k. sum O m (λ j. f j k ⊗ g k)) (λ k l. sym (sum-mul_right O R m (g k) (λ j. f j k)))
      ∙ sum-swap O R n m (λ k j. f j k ⊗ g k)

  -- ⟨Σ c_j v_j, g⟩ = Σ c_j ⟨v_j, g⟩
  pub dot-comb-left : (n m : ℕ) (c : ℕ → Carrier) (v : ℕ → ℕ → Carrier) (g : ℕ → Carrier) → dot O n (comb O m c v) g ≡ sum O m (λ j. c j ⊗ dot O n (v j) g)
  unfolding comb
  dot-comb-left n m c v g =
      dot-sum-left n m (λ j k. c j ⊗ v j k) g ∙ sum_ext O m (λ j. dot O n (λ k. c j ⊗ v j k) g) (λ j. c j ⊗ dot O n (v j) g) (λ j l. dot-mul-left n (c j) (v j) g)

  -- ⟨f, Σ c_j v_j⟩ = Σ c_j ⟨f, v_j⟩
  pub dot-comb_right : (n m : ℕ) (c : ℕ → Carrier) (f : ℕ → Carrier) (v : ℕ → ℕ → Carrier) → dot O n f (comb O m c v) ≡ sum O m (λ j. c j ⊗ dot O n f (v j))
  dot-comb_right n m c f v =
      dot_comm n f (comb O m c v) ∙ dot-comb-left n m c v f
      ∙ sum_ext O m (λ j. c j ⊗ dot O n (v j) f) (λ j. c j ⊗ dot O n f (v j)) (λ j l. ap (λ x. c j ⊗ x) (dot_comm n (v j) f))

  -- ⟨Σ c_i u_i, Σ d_j v_j⟩ = Σ_i Σ_j ⟨u_i, v_j⟩ c_i d_j
  pub dot-comb-comb : (n l m : ℕ) (c d : ℕ → Carrier) (u v : ℕ → ℕ → Carrier)
      → dot O n (comb O l c u) (comb O m d v) ≡ sum O l (λ i. sum O m (λ j. dot O n (u i) (v j) ⊗ c i ⊗ d j))
  dot-comb-comb n l m c d u v =
      dot-comb-left n l c u (comb O m d v)
      ∙ sum_ext O l (λ i. c i ⊗ dot O n (u i) (comb O m d v)) (λ i. sum O m (λ j. dot O n (u i) (v j) ⊗ c i ⊗ d j)) (λ i h. row i)
    where
      order : (x y z : Carrier) → x ⊗ (y ⊗ z) ≡ z ⊗ x ⊗ y
      order x y z = simp (ring, R)

      row : (i : ℕ) → c i ⊗ dot O n (u i) (comb O m d v) ≡ sum O m (λ j. dot O n (u i) (v j) ⊗ c i ⊗ d j)
      row i =
          ap (λ x. c i ⊗ x) (dot-comb_right n m d (u i) v)
          ∙ sym (sum-mul-left O R m (c i) (λ j. d j ⊗ dot O n (u i) (v j)))
          ∙ sum_ext O m (λ j. c i ⊗ (d j ⊗ dot O n (u i) (v j))) (λ j. dot O n (u i) (v j) ⊗ c i ⊗ d j) (λ j h. order (c i) (d j) (dot O n (u i) (v j)))
