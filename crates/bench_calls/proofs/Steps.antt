-- The sums of products of values of one pair, one product after the other, and the inverse NTT of them.
use mathlib.Core.Path.{◌≡◌, sym, ap, ap₂, subst, ◌∙◌}
use mathlib.Core.List.{List}
use Prim.Native.Nat.{ℕ, ◌+◌, ◌≤◌, ◌<◌}
use native.Mathlib.Omega.{arith}
use lib.ListN.{replicate}
use Rattle.ntt_product.specs.NttForm.{ProductsFit, Transform, ntt_of, values_added, sums_of, inverse_ntt_of}
use Rattle.ntt_product.proofs.Residue.{Words}
use Rattle.ntt_product.proofs.Inner.{inverse_is, sums_next, sums-room, no_sums}
use Rattle.bench_calls.specs.Repeated.{repeated}

-- the sums of m products a·b
pub record Held (m : ℕ) (a b s t u : List ℕ) : Type 0 where
  pub first : s ≡ sums_of 0 m (λ i. a) (λ i. b)
  pub second : t ≡ sums_of 1 m (λ i. a) (λ i. b)
  pub third : u ≡ sums_of 2 m (λ i. a) (λ i. b)

-- none yet
pub held_none : (a b s t u : List ℕ) → s ≡ replicate 64 0 → t ≡ replicate 64 0 → u ≡ replicate 64 0 → Held 0 a b s t u
held_none a b s t u es et eu = record {
  first = es ∙ no_sums 0 (λ i. a) (λ i. b);
  second = et ∙ no_sums 1 (λ i. a) (λ i. b);
  third = eu ∙ no_sums 2 (λ i. a) (λ i. b);
}

module _ (m : ℕ) (hm : m ≤ 64) (a b : List ℕ) (wa : Words a) (wb : Words b) where
  room : (i : ℕ) → i < 3 → (s x y : List ℕ) → s ≡ sums_of i m (λ j. a) (λ j. b) → x ≡ ntt_of i a → y ≡ ntt_of i b → ProductsFit s x y
  room i hi s x y es ex ey =
      subst (λ l. ProductsFit l x y) (sym es)
      (subst (λ l. ProductsFit (sums_of i m (λ j. a) (λ j. b)) l y) (sym ex)
      (subst (λ l. ProductsFit (sums_of i m (λ j. a) (λ j. b)) (ntt_of i a) l) (sym ey) (sums-room m (omega arith) (λ j. a) (λ j. b) (λ j. wa) (λ j. wb) i hi)))

  next : (i : ℕ) → i < 3 → (s x y r : List ℕ) → s ≡ sums_of i m (λ j. a) (λ j. b) → x ≡ ntt_of i a → y ≡ ntt_of i b → r ≡ values_added s x y → r ≡ sums_of i (m + 1) (λ j. a) (λ j. b)
  next i hi s x y r es ex ey e = e ∙ ap (λ l. values_added l x y) es ∙ ap₂ (values_added (sums_of i m (λ j. a) (λ j. b))) ex ey ∙ sums_next m (omega arith) (λ j. a) (λ j. b) (λ j. wa) (λ j. wb) i hi

  module _ (s t u x₁ x₂ x₃ y₁ y₂ y₃ : List ℕ) (h : Held m a b s t u) (tx : Transform a x₁ x₂ x₃) (ty : Transform b y₁ y₂ y₃) where
    -- there is room for one more
    pub held-room : ProductsFit s x₁ y₁ × (ProductsFit t x₂ y₂ × ProductsFit u x₃ y₃)
    held-room = (
      room 0 (omega arith) s x₁ y₁ h.first tx.one ty.one,
      (room 1 (omega arith) t x₂ y₂ h.second tx.two ty.two, room 2 (omega arith) u x₃ y₃ h.third tx.three ty.three),
    )

    -- one more
    pub held_next : (s' t' u' : List ℕ) → s' ≡ values_added s x₁ y₁ → t' ≡ values_added t x₂ y₂ → u' ≡ values_added u x₃ y₃ → Held (m + 1) a b s' t' u'
    held_next s' t' u' e₁ e₂ e₃ = record {
      first = next 0 (omega arith) s x₁ y₁ s' h.first tx.one ty.one e₁;
      second = next 1 (omega arith) t x₂ y₂ t' h.second tx.two ty.two e₂;
      third = next 2 (omega arith) u x₃ y₃ u' h.third tx.three ty.three e₃;
    }

-- the inverse NTT
pub held-inverse : (n m : ℕ) → m ≡ n → n ≤ 64 → (a b : List ℕ) → Words a → Words b → (s t u : List ℕ) → Held m a b s t u → inverse_ntt_of s t u ≡ repeated n a b
unfolding repeated
held-inverse n m e hn a b wa wb s t u h =
    ap₂ (λ x y. inverse_ntt_of x y u) h.first h.second
    ∙ ap (inverse_ntt_of (sums_of 0 m (λ i. a) (λ i. b)) (sums_of 1 m (λ i. a) (λ i. b))) h.third
    ∙ ap (λ c. inverse_ntt_of (sums_of 0 c (λ i. a) (λ i. b)) (sums_of 1 c (λ i. a) (λ i. b)) (sums_of 2 c (λ i. a) (λ i. b))) e
    ∙ inverse_is n (omega arith) (λ i. a) (λ i. b) (λ i. wa) (λ i. wb)
