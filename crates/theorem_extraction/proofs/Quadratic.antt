-- The two sides of 25 and of 26 as inner products of stepped vectors, in a commutative ring.
use mathlib.Core.Path.{◌≡◌, sym, ap, ap₂, ◌∙◌}
use Prim.Native.Nat.{ℕ, ◌<◌}
use Rattle.math.specs.algebra.Ops.{Ops, sum, dot, pairs}
use Rattle.math.proofs.algebra.Ring.{CRing, ring}
use Rattle.math.proofs.algebra.Sum.{sum_ext, sum-mul_right}
use Rattle.math.proofs.algebra.Dot.{dot_ext, dot-add-left}
use Rattle.math.proofs.algebra.Form.{pairs_ext}
use Rattle.theorem_soundness.specs.Weights.{IsUnit}
use Rattle.theorem_extraction.proofs.Steps.{step, one_at, dot-one_at, dot-step, SameAfter, along_one, along_both}

module _ (O : Ops) (R : CRing O) where
  open O use {Carrier, add as ◌⊕◌, mul as ◌⊗◌, neg, nil, one}

  infixl 60 ◌⊕◌
  infixl 70 ◌⊗◌
  -- Σ g_ij·c_i·c_j = ⟨(⟨g_i,c⟩)_i, c⟩
  pairs-dot : (r : ℕ) (g : ℕ → ℕ → Carrier) (c : ℕ → Carrier) → pairs O r (λ i j. g i j ⊗ c i ⊗ c j) ≡ dot O r (λ i. dot O r (g i) c) c
  unfolding pairs dot
  pairs-dot r g c = sum_ext O r (λ i. sum O r (λ j. g i j ⊗ c i ⊗ c j)) (λ i. sum O r (λ j. g i j ⊗ c j) ⊗ c i) (λ i l. row i)
    where
      order : (x y w : Carrier) → x ⊗ y ⊗ w ≡ x ⊗ w ⊗ y
      order x y w = simp (ring, R)

      row : (i : ℕ) → sum O r (λ j. g i j ⊗ c i ⊗ c j) ≡ sum O r (λ j. g i j ⊗ c j) ⊗ c i
      row i = sum_ext O r (λ j. g i j ⊗ c i ⊗ c j) (λ j. g i j ⊗ c j ⊗ c i) (λ j l. order (g i j) (c i) (c j)) ∙ sum-mul_right O R r (c i) (λ j. g i j ⊗ c j)

  -- r challenges c, of which c_i and c_j are changed, and n entries of z, to which multiples of s_i and s_j are added
  module _ (n r i j : ℕ) (c z : ℕ → Carrier) (s M : ℕ → ℕ → Carrier) where
    -- the changed challenges and the changed z
    abbrev pub moved-c : (δ ε : Carrier) → ℕ → Carrier
    moved-c = step O c (one_at O i) (one_at O j)

    abbrev pub moved-z : (δ ε : Carrier) → ℕ → Carrier
    moved-z = step O z (s i) (s j)

    -- ⟨M_k, v⟩ for each k
    abbrev row_of : (ℕ → Carrier) → ℕ → Carrier
    row_of v k = dot O r (M k) v

    -- Σ M_ij·c_i·c_j of changed challenges
    right_after : (c' : ℕ → Carrier) (M' : ℕ → ℕ → Carrier) (δ ε : Carrier)
        → ((k : ℕ) → k < r → c' k ≡ moved-c δ ε k)
        → ((a b : ℕ) → a < r → b < r → M' a b ≡ M a b)
        → pairs O r (λ a b. M' a b ⊗ c' a ⊗ c' b) ≡ dot O r (step O (row_of c) (row_of (one_at O i)) (row_of (one_at O j)) δ ε) (moved-c δ ε)
    unfolding step
    right_after c' M' δ ε of_c of-M =
        pairs_ext O r (λ a b. M' a b ⊗ c' a ⊗ c' b) (λ a b. M a b ⊗ moved-c δ ε a ⊗ moved-c δ ε b) (λ a b l h. ap₂ ◌⊗◌ (ap₂ ◌⊗◌ (of-M a b l h) (of_c a l)) (of_c b h))
        ∙ pairs-dot r M (moved-c δ ε)
        ∙ dot_ext O r (λ k. dot O r (M k) (moved-c δ ε)) (step O (row_of c) (row_of (one_at O i)) (row_of (one_at O j)) δ ε) (moved-c δ ε) (moved-c δ ε)
        (λ k l. dot-step O R r (M k) (one_at O i) (one_at O j) c (one_at O i) (one_at O j) δ ε) (λ k l. λ t. moved-c δ ε k)

    -- 25 of changed challenges
    abbrev pub Squares : (δ ε : Carrier) → Type 0
    Squares = SameAfter O R n r z (s i) (s j) z (s i) (s j) (row_of c) (row_of (one_at O i)) (row_of (one_at O j)) c (one_at O i) (one_at O j)

    pub squares-after : (z' c' : ℕ → Carrier) (M' : ℕ → ℕ → Carrier) (δ ε : Carrier)
        → ((m : ℕ) → m < n → z' m ≡ moved-z δ ε m)
        → ((k : ℕ) → k < r → c' k ≡ moved-c δ ε k)
        → ((a b : ℕ) → a < r → b < r → M' a b ≡ M a b)
        → dot O n z' z' ≡ pairs O r (λ a b. M' a b ⊗ c' a ⊗ c' b)
        → Squares δ ε
    squares-after z' c' M' δ ε of-z of_c of-M holds = sym (dot_ext O n z' (moved-z δ ε) z' (moved-z δ ε) of-z of-z) ∙ holds ∙ right_after c' M' δ ε of_c of-M

    -- the right side's second differences
    right_one : i < r → dot O r (row_of (one_at O i)) (one_at O i) ≡ M i i
    right_one h = dot-one_at O R r i (row_of (one_at O i)) h ∙ dot-one_at O R r i (M i) h

    right_both : i < r → j < r → dot O r (row_of (one_at O i)) (one_at O j) ⊕ dot O r (row_of (one_at O j)) (one_at O i) ≡ M j i ⊕ M i j
    right_both h l = ap₂ ◌⊕◌ (dot-one_at O R r j (row_of (one_at O i)) l ∙ dot-one_at O R r i (M j) h) (dot-one_at O R r i (row_of (one_at O j)) h ∙ dot-one_at O R r j (M i) l)

    -- ⟨s_i,s_i⟩ = M_ii, by 25 at three values of c_i
    pub squares-one : (δ δ' : Carrier) → i < r → IsUnit O δ → IsUnit O δ' → IsUnit O (δ ⊕ neg δ') → Squares nil nil → Squares δ nil → Squares δ' nil → dot O n (s i) (s i) ≡ M i i
    squares-one δ δ' h u u' d e f f' =
        along_one O R n r z (s i) (s j) z (s i) (s j) (row_of c) (row_of (one_at O i)) (row_of (one_at O j)) c (one_at O i) (one_at O j) δ δ' u u' d e f f' ∙ right_one h

    -- ⟨s_i,s_j⟩ + ⟨s_j,s_i⟩ = M_ji + M_ij, by 25 at two values of c_i and two of c_j
    pub squares-both : (δ ε : Carrier) → i < r → j < r → IsUnit O δ → IsUnit O ε → Squares nil nil → Squares δ nil → Squares nil ε → Squares δ ε
        → dot O n (s i) (s j) ⊕ dot O n (s j) (s i) ≡ M j i ⊕ M i j
    squares-both δ ε h l u u' e f f' b =
        along_both O R n r z (s i) (s j) z (s i) (s j) (row_of c) (row_of (one_at O i)) (row_of (one_at O j)) c (one_at O i) (one_at O j) δ ε u u' e f f' b ∙ right_both h l

    -- with vectors φ_k
    module _ (φ : ℕ → ℕ → Carrier) where
      -- twice ⟨φ_k, v⟩ for each k
      abbrev line_of : (ℕ → Carrier) → ℕ → Carrier
      line_of v k = dot O n (φ k) v ⊕ dot O n (φ k) v

      -- 26 of changed challenges
      abbrev pub Lines : (δ ε : Carrier) → Type 0
      Lines = SameAfter O R r r (line_of z) (line_of (s i)) (line_of (s j)) c (one_at O i) (one_at O j) (row_of c) (row_of (one_at O i)) (row_of (one_at O j)) c (one_at O i) (one_at O j)

      -- twice Σ⟨φ_i,z⟩·c_i
      left_after : (z' c' : ℕ → Carrier) (φ' : ℕ → ℕ → Carrier) (δ ε : Carrier)
          → ((m : ℕ) → m < n → z' m ≡ moved-z δ ε m)
          → ((k : ℕ) → k < r → c' k ≡ moved-c δ ε k)
          → ((a m : ℕ) → a < r → m < n → φ' a m ≡ φ a m)
          → dot O r (step O (line_of z) (line_of (s i)) (line_of (s j)) δ ε) (moved-c δ ε) ≡ sum O r (λ a. dot O n (φ' a) z' ⊗ c' a) ⊕ sum O r (λ a. dot O n (φ' a) z' ⊗ c' a)
      unfolding step dot
      left_after z' c' φ' δ ε of-z of_c of-φ =
          dot_ext O r (step O (line_of z) (line_of (s i)) (line_of (s j)) δ ε) (λ a. dot O n (φ' a) z' ⊕ dot O n (φ' a) z') (moved-c δ ε) c' (λ a l. line a l) (λ a l. sym (of_c a l))
          ∙ dot-add-left O R r (λ a. dot O n (φ' a) z') (λ a. dot O n (φ' a) z') c'
        where
          double : (p q w d e : Carrier) → p ⊕ p ⊕ d ⊗ (q ⊕ q) ⊕ e ⊗ (w ⊕ w) ≡ (p ⊕ d ⊗ q ⊕ e ⊗ w) ⊕ (p ⊕ d ⊗ q ⊕ e ⊗ w)
          double p q w d e = simp (ring, R)

          each : (a : ℕ) → a < r → dot O n (φ a) z ⊕ δ ⊗ dot O n (φ a) (s i) ⊕ ε ⊗ dot O n (φ a) (s j) ≡ dot O n (φ' a) z'
          each a l =
              sym (dot-step O R n (φ a) (s i) (s j) z (s i) (s j) δ ε) ∙ dot_ext O n (φ a) (φ' a) (moved-z δ ε) z' (λ m h. sym (of-φ a m l h)) (λ m h. sym (of-z m h))

          line : (a : ℕ) → a < r → line_of z a ⊕ δ ⊗ line_of (s i) a ⊕ ε ⊗ line_of (s j) a ≡ dot O n (φ' a) z' ⊕ dot O n (φ' a) z'
          line a l = double (dot O n (φ a) z) (dot O n (φ a) (s i)) (dot O n (φ a) (s j)) δ ε ∙ ap (λ x. x ⊕ x) (each a l)

      pub lines_after : (z' c' : ℕ → Carrier) (φ' M' : ℕ → ℕ → Carrier) (δ ε : Carrier)
          → ((m : ℕ) → m < n → z' m ≡ moved-z δ ε m)
          → ((k : ℕ) → k < r → c' k ≡ moved-c δ ε k)
          → ((a m : ℕ) → a < r → m < n → φ' a m ≡ φ a m)
          → ((a b : ℕ) → a < r → b < r → M' a b ≡ M a b)
          → sum O r (λ a. dot O n (φ' a) z' ⊗ c' a) ⊕ sum O r (λ a. dot O n (φ' a) z' ⊗ c' a) ≡ pairs O r (λ a b. M' a b ⊗ c' a ⊗ c' b)
          → Lines δ ε
      lines_after z' c' φ' M' δ ε of-z of_c of-φ of-M holds = left_after z' c' φ' δ ε of-z of_c of-φ ∙ holds ∙ right_after c' M' δ ε of_c of-M

      -- ⟨φ_i,s_i⟩ + ⟨φ_i,s_i⟩ = M_ii, by 26 at three values of c_i
      pub lines-one : (δ δ' : Carrier) → i < r → IsUnit O δ → IsUnit O δ' → IsUnit O (δ ⊕ neg δ') → Lines nil nil → Lines δ nil → Lines δ' nil → line_of (s i) i ≡ M i i
      lines-one δ δ' h u u' d e f f' =
          sym (dot-one_at O R r i (line_of (s i)) h)
          ∙ along_one O R r r (line_of z) (line_of (s i)) (line_of (s j)) c (one_at O i) (one_at O j) (row_of c) (row_of (one_at O i)) (row_of (one_at O j)) c (one_at O i)
          (one_at O j) δ δ' u u' d e f f'
          ∙ right_one h

      -- twice ⟨φ_j,s_i⟩ and twice ⟨φ_i,s_j⟩ sum to M_ji + M_ij, by 26 at two values of c_i and two of c_j
      pub lines-both : (δ ε : Carrier) → i < r → j < r → IsUnit O δ → IsUnit O ε → Lines nil nil → Lines δ nil → Lines nil ε → Lines δ ε
          → line_of (s i) j ⊕ line_of (s j) i ≡ M j i ⊕ M i j
      lines-both δ ε h l u u' e f f' b =
          sym (ap₂ ◌⊕◌ (dot-one_at O R r j (line_of (s i)) l) (dot-one_at O R r i (line_of (s j)) h))
          ∙ along_both O R r r (line_of z) (line_of (s i)) (line_of (s j)) c (one_at O i) (one_at O j) (row_of c) (row_of (one_at O i)) (row_of (one_at O j)) c (one_at O i)
          (one_at O j) δ ε u u' e f f' b
          ∙ right_both h l
