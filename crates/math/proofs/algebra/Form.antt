-- Sums over pairs and quadratic forms: a form is linear in its coefficients, and what it comes to at a linear combination of the vectors.
use mathlib.Core.Path.{◌≡◌, sym, ap, ap₂, ◌∙◌}
use Prim.Native.Nat.{ℕ, ◌<◌}
use Rattle.math.specs.algebra.Ops.{Ops, sum, dot, comb, pairs, form}
use Rattle.math.proofs.algebra.Ring.{CRing, ring, add-mul, add_add_add_comm}
use Rattle.math.proofs.algebra.Sum.{sum_ext, sum-add, sum-mul-left, sum-mul_right, sum-swap, sum-triangle}
use Rattle.math.proofs.algebra.Dot.{dot_ext, dot-comb-left, dot-comb_right, dot-comb-comb, dot-add-left}

-- terms that agree below n give equal sums over pairs
pub pairs_ext : (O : Ops) (n : ℕ) (f g : ℕ → ℕ → O.Carrier) → ((i j : ℕ) → i < n → j < n → f i j ≡ g i j) → pairs O n f ≡ pairs O n g
unfolding pairs
pairs_ext O n f g h = sum_ext O n (λ i. sum O n (λ j. f i j)) (λ i. sum O n (λ j. g i j)) (λ i l. sum_ext O n (f i) (g i) (λ j m. h i j l m))

-- coefficients and vectors that agree in range give equal forms
pub form_ext : (O : Ops) (r n : ℕ) (a a' φ φ' s s' : ℕ → ℕ → O.Carrier) → ((i j : ℕ) → i < r → j < r → a i j ≡ a' i j)
    → ((i k : ℕ) → i < r → k < n → φ i k ≡ φ' i k) → ((i k : ℕ) → i < r → k < n → s i k ≡ s' i k) → form O r n a φ s ≡ form O r n a' φ' s'
unfolding form
form_ext O r n a a' φ φ' s s' p q w =
    ap₂ O.add
    (pairs_ext O r (λ i j. O.mul (a i j) (dot O n (s i) (s j))) (λ i j. O.mul (a' i j) (dot O n (s' i) (s' j)))
    (λ i j l m. ap₂ O.mul (p i j l m) (dot_ext O n (s i) (s' i) (s j) (s' j) (λ k e. w i k l e) (λ k e. w j k m e))))
    (sum_ext O r (λ i. dot O n (φ i) (s i)) (λ i. dot O n (φ' i) (s' i)) (λ i l. dot_ext O n (φ i) (φ' i) (s i) (s' i) (λ k e. q i k l e) (λ k e. w i k l e)))

module _ (O : Ops) (R : CRing O) where
  open O use {Carrier, add as ◌⊕◌, mul as ◌⊗◌, neg, nil, one}

  infixl 60 ◌⊕◌
  infixl 70 ◌⊗◌
  -- a sum over pairs of sums
  pub pairs-add : (n : ℕ) (f g : ℕ → ℕ → Carrier) → pairs O n (λ i j. f i j ⊕ g i j) ≡ pairs O n f ⊕ pairs O n g
  unfolding pairs
  pairs-add n f g =
      sum_ext O n (λ i. sum O n (λ j. f i j ⊕ g i j)) (λ i. sum O n (f i) ⊕ sum O n (g i)) (λ i l. sum-add O R n (f i) (g i))
      ∙ sum-add O R n (λ i. sum O n (f i)) (λ i. sum O n (g i))

  -- a factor on the left
  pub pairs-mul-left : (n : ℕ) (c : Carrier) (f : ℕ → ℕ → Carrier) → pairs O n (λ i j. c ⊗ f i j) ≡ c ⊗ pairs O n f
  unfolding pairs
  pairs-mul-left n c f =
      sum_ext O n (λ i. sum O n (λ j. c ⊗ f i j)) (λ i. c ⊗ sum O n (f i)) (λ i l. sum-mul-left O R n c (f i)) ∙ sum-mul-left O R n c (λ i. sum O n (f i))

  -- the pairs with their numbers exchanged
  pub pairs-swap : (n : ℕ) (f : ℕ → ℕ → Carrier) → pairs O n f ≡ pairs O n (λ i j. f j i)
  unfolding pairs
  pairs-swap n f = sum-swap O R n n f

  -- a sum over pairs of sums of m terms
  pub pairs-sum : (n m : ℕ) (f : ℕ → ℕ → ℕ → Carrier) → pairs O n (λ i j. sum O m (λ k. f k i j)) ≡ sum O m (λ k. pairs O n (f k))
  unfolding pairs
  pairs-sum n m f =
      sum_ext O n (λ i. sum O n (λ j. sum O m (λ k. f k i j))) (λ i. sum O m (λ k. sum O n (λ j. f k i j))) (λ i l. sum-swap O R n m (λ j k. f k i j))
      ∙ sum-swap O R n m (λ i k. sum O n (λ j. f k i j))

  -- a sum over pairs by its triangle: the diagonal, and each pair below it taken both ways
  pub pairs-triangle : (n : ℕ) (f : ℕ → ℕ → Carrier) → pairs O n f ≡ sum O n (λ i. sum O i (λ j. f i j ⊕ f j i) ⊕ f i i)
  unfolding pairs
  pairs-triangle n f = sum-triangle O R n f

  -- a line Σ ⟨φ_i, s_i⟩ whose vectors are sums is the sum of the lines
  pub line_add : (r n : ℕ) (φ ψ s : ℕ → ℕ → Carrier) → sum O r (λ i. dot O n (λ k. φ i k ⊕ ψ i k) (s i)) ≡ sum O r (λ i. dot O n (φ i) (s i)) ⊕ sum O r (λ i. dot O n (ψ i) (s i))
  line_add r n φ ψ s =
      sum_ext O r (λ i. dot O n (λ k. φ i k ⊕ ψ i k) (s i)) (λ i. dot O n (φ i) (s i) ⊕ dot O n (ψ i) (s i)) (λ i l. dot-add-left O R n (φ i) (ψ i) (s i))
      ∙ sum-add O R r (λ i. dot O n (φ i) (s i)) (λ i. dot O n (ψ i) (s i))

  -- a line Σ ⟨φ_i, s_i⟩ whose vectors are linear combinations is the combination of the lines
  pub line_comb : (r n m : ℕ) (w : ℕ → Carrier) (φ : ℕ → ℕ → ℕ → Carrier) (s : ℕ → ℕ → Carrier)
      → sum O r (λ i. dot O n (comb O m w (λ k. φ k i)) (s i)) ≡ sum O m (λ k. w k ⊗ sum O r (λ i. dot O n (φ k i) (s i)))
  line_comb r n m w φ s =
      sum_ext O r (λ i. dot O n (comb O m w (λ k. φ k i)) (s i)) (λ i. sum O m (λ k. w k ⊗ dot O n (φ k i) (s i))) (λ i l. dot-comb-left O R n m w (λ k. φ k i) (s i))
      ∙ sum-swap O R r m (λ i k. w k ⊗ dot O n (φ k i) (s i))
      ∙ sum_ext O m (λ k. sum O r (λ i. w k ⊗ dot O n (φ k i) (s i))) (λ k. w k ⊗ sum O r (λ i. dot O n (φ k i) (s i))) (λ k l. sum-mul-left O R r (w k) (λ i. dot O n (φ k i) (s i)))

  -- the form of a linear combination of m coefficient pairs (a, φ) is the combination of their forms
  pub form-comb : (r n m : ℕ) (w : ℕ → Carrier) (a φ : ℕ → ℕ → ℕ → Carrier) (s : ℕ → ℕ → Carrier)
      → form O r n (λ i j. sum O m (λ k. w k ⊗ a k i j)) (λ i. comb O m w (λ k. φ k i)) s ≡ sum O m (λ k. w k ⊗ form O r n (a k) (φ k) s)
  unfolding form
  form-comb r n m w a φ s =
      ap₂ ◌⊕◌ quadratic (line_comb r n m w φ s)
      ∙ sym (sum-add O R m (λ k. w k ⊗ square k) (λ k. w k ⊗ line k))
      ∙ sum_ext O m (λ k. w k ⊗ square k ⊕ w k ⊗ line k) (λ k. w k ⊗ (square k ⊕ line k)) (λ k l. sym (R.mul-add (w k) (square k) (line k)))
    where
      square : ℕ → Carrier
      square k = pairs O r (λ i j. a k i j ⊗ dot O n (s i) (s j))

      line : ℕ → Carrier
      line k = sum O r (λ i. dot O n (φ k i) (s i))

      entry : (i j : ℕ) → sum O m (λ k. w k ⊗ a k i j) ⊗ dot O n (s i) (s j) ≡ sum O m (λ k. w k ⊗ (a k i j ⊗ dot O n (s i) (s j)))
      entry i j =
          sym (sum-mul_right O R m (dot O n (s i) (s j)) (λ k. w k ⊗ a k i j))
          ∙ sum_ext O m (λ k. w k ⊗ a k i j ⊗ dot O n (s i) (s j)) (λ k. w k ⊗ (a k i j ⊗ dot O n (s i) (s j))) (λ k l. R.mul_assoc (w k) (a k i j) (dot O n (s i) (s j)))

      quadratic : pairs O r (λ i j. sum O m (λ k. w k ⊗ a k i j) ⊗ dot O n (s i) (s j)) ≡ sum O m (λ k. w k ⊗ square k)
      quadratic =
          pairs_ext O r (λ i j. sum O m (λ k. w k ⊗ a k i j) ⊗ dot O n (s i) (s j)) (λ i j. sum O m (λ k. w k ⊗ (a k i j ⊗ dot O n (s i) (s j)))) (λ i j l h. entry i j)
          ∙ pairs-sum r m (λ k i j. w k ⊗ (a k i j ⊗ dot O n (s i) (s j)))
          ∙ sum_ext O m (λ k. pairs O r (λ i j. w k ⊗ (a k i j ⊗ dot O n (s i) (s j)))) (λ k. w k ⊗ square k) (λ k l. pairs-mul-left r (w k) (λ i j. a k i j ⊗ dot O n (s i) (s j)))

  -- the form of a sum of coefficients is the sum of the forms
  pub form-add : (r n : ℕ) (a b φ ψ s : ℕ → ℕ → Carrier) → form O r n (λ i j. a i j ⊕ b i j) (λ i k. φ i k ⊕ ψ i k) s ≡ form O r n a φ s ⊕ form O r n b ψ s
  unfolding form
  form-add r n a b φ ψ s =
      ap₂ ◌⊕◌
      (pairs_ext O r (λ i j. (a i j ⊕ b i j) ⊗ dot O n (s i) (s j)) (λ i j. a i j ⊗ dot O n (s i) (s j) ⊕ b i j ⊗ dot O n (s i) (s j)) (λ i j l m. add-mul O R (a i j) (b i j) (dot O n (s i) (s j)))
      ∙ pairs-add r (λ i j. a i j ⊗ dot O n (s i) (s j)) (λ i j. b i j ⊗ dot O n (s i) (s j)))
      (line_add r n φ ψ s)
      ∙ add_add_add_comm O R (pairs O r (λ i j. a i j ⊗ dot O n (s i) (s j))) (pairs O r (λ i j. b i j ⊗ dot O n (s i) (s j))) (sum O r (λ i. dot O n (φ i) (s i))) (sum O r (λ i. dot O n (ψ i) (s i)))

  -- the form with a line added to its linear part
  pub form-add_line : (r n : ℕ) (a φ ψ s : ℕ → ℕ → Carrier) → form O r n a (λ i k. φ i k ⊕ ψ i k) s ≡ form O r n a φ s ⊕ sum O r (λ i. dot O n (ψ i) (s i))
  unfolding form
  form-add_line r n a φ ψ s =
      ap (λ x. pairs O r (λ i j. a i j ⊗ dot O n (s i) (s j)) ⊕ x)
      (line_add r n φ ψ s)
      ∙ sym (R.add_assoc (pairs O r (λ i j. a i j ⊗ dot O n (s i) (s j))) (sum O r (λ i. dot O n (φ i) (s i))) (sum O r (λ i. dot O n (ψ i) (s i))))

  -- ⟨z, z⟩ = Σ_ij ⟨s_i, s_j⟩ c_i c_j for z = Σ c_i s_i
  pub square_of-comb : (r n : ℕ) (c : ℕ → Carrier) (s : ℕ → ℕ → Carrier) → dot O n (comb O r c s) (comb O r c s) ≡ pairs O r (λ i j. dot O n (s i) (s j) ⊗ c i ⊗ c j)
  unfolding pairs
  square_of-comb r n c s = dot-comb-comb O R n r r c c s s

  -- Σ_i ⟨φ_i, z⟩ c_i = Σ_ij ⟨φ_i, s_j⟩ c_i c_j for z = Σ c_j s_j
  pub line_of_comb : (r n : ℕ) (c : ℕ → Carrier) (φ s : ℕ → ℕ → Carrier) → sum O r (λ i. dot O n (φ i) (comb O r c s) ⊗ c i) ≡ pairs O r (λ i j. dot O n (φ i) (s j) ⊗ c i ⊗ c j)
  unfolding pairs
  line_of_comb r n c φ s = sum_ext O r (λ i. dot O n (φ i) (comb O r c s) ⊗ c i) (λ i. sum O r (λ j. dot O n (φ i) (s j) ⊗ c i ⊗ c j)) (λ i l. row i)
    where
      order : (x y z : Carrier) → x ⊗ y ⊗ z ≡ y ⊗ z ⊗ x
      order x y z = simp (ring, R)

      row : (i : ℕ) → dot O n (φ i) (comb O r c s) ⊗ c i ≡ sum O r (λ j. dot O n (φ i) (s j) ⊗ c i ⊗ c j)
      row i =
          ap (λ x. x ⊗ c i) (dot-comb_right O R n r c (φ i) s)
          ∙ sym (sum-mul_right O R r (c i) (λ j. c j ⊗ dot O n (φ i) (s j)))
          ∙ sum_ext O r (λ j. c j ⊗ dot O n (φ i) (s j) ⊗ c i) (λ j. dot O n (φ i) (s j) ⊗ c i ⊗ c j) (λ j l. order (c j) (dot O n (φ i) (s j)) (c i))

  -- twice Σ_i ⟨φ_i, z⟩ c_i = Σ_ij (⟨φ_i, s_j⟩ + ⟨φ_j, s_i⟩) c_i c_j for z = Σ c_j s_j
  pub twice_line_of-comb : (r n : ℕ) (c : ℕ → Carrier) (φ s : ℕ → ℕ → Carrier)
      → sum O r (λ i. dot O n (φ i) (comb O r c s) ⊗ c i) ⊕ sum O r (λ i. dot O n (φ i) (comb O r c s) ⊗ c i)
      ≡ pairs O r (λ i j. (dot O n (φ i) (s j) ⊕ dot O n (φ j) (s i)) ⊗ c i ⊗ c j)
  twice_line_of-comb r n c φ s =
      ap₂ ◌⊕◌ (line_of_comb r n c φ s) (line_of_comb r n c φ s ∙ pairs-swap r (λ i j. dot O n (φ i) (s j) ⊗ c i ⊗ c j))
      ∙ sym (pairs-add r (λ i j. dot O n (φ i) (s j) ⊗ c i ⊗ c j) (λ i j. dot O n (φ j) (s i) ⊗ c j ⊗ c i))
      ∙ pairs_ext O r (λ i j. dot O n (φ i) (s j) ⊗ c i ⊗ c j ⊕ dot O n (φ j) (s i) ⊗ c j ⊗ c i) (λ i j. (dot O n (φ i) (s j) ⊕ dot O n (φ j) (s i)) ⊗ c i ⊗ c j)
      (λ i j l m. collect (dot O n (φ i) (s j)) (dot O n (φ j) (s i)) (c i) (c j))
    where
      collect : (x y u v : Carrier) → x ⊗ u ⊗ v ⊕ y ⊗ v ⊗ u ≡ (x ⊕ y) ⊗ u ⊗ v
      collect x y u v = simp (ring, R)

  -- twice Σ_ij a_ij ⟨s_i, s_j⟩ with Σ_i (⟨φ_i, s_i⟩ + ⟨φ_i, s_i⟩) is twice the form
  pub twice-form : (r n : ℕ) (a φ s : ℕ → ℕ → Carrier)
      → pairs O r (λ i j. a i j ⊗ dot O n (s i) (s j)) ⊕ pairs O r (λ i j. a i j ⊗ dot O n (s i) (s j)) ⊕ sum O r (λ i. dot O n (φ i) (s i) ⊕ dot O n (φ i) (s i))
      ≡ form O r n a φ s ⊕ form O r n a φ s
  unfolding form
  twice-form r n a φ s =
      ap (λ x. pairs O r (λ i j. a i j ⊗ dot O n (s i) (s j)) ⊕ pairs O r (λ i j. a i j ⊗ dot O n (s i) (s j)) ⊕ x) (sum-add O R r (λ i. dot O n (φ i) (s i)) (λ i. dot O n (φ i) (s i)))
      ∙ add_add_add_comm O R (pairs O r (λ i j. a i j ⊗ dot O n (s i) (s j))) (pairs O r (λ i j. a i j ⊗ dot O n (s i) (s j))) (sum O r (λ i. dot O n (φ i) (s i))) (sum O r (λ i. dot O n (φ i) (s i)))
