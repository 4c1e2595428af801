-- Sums that grow by the entries from a row's places on.
use mathlib.Core.Path.{◌≡◌, refl, sym, ap, ◌∙◌}
use mathlib.Core.List.{List}
use Prim.Native.Nat.{ℕ, ◌+◌, ◌*◌, ◌%◌, ◌≤◌, ◌<◌, ◌^◌}
use native.Mathlib.Nat.{add-zero}
use native.Mathlib.Omega.{arith}
use lib.ListN.{length, get_or}
use Rattle.math.specs.lists.Sum.{Σ}
use Rattle.math.proofs.lists.Sum.{Σ_split, Σ-bound, Σ-mod_ext}
use Rattle.math.proofs.lists.Table.{get_or-table}
use Rattle.spec_leaves.specs.Zq.{Q}
use Rattle.spec_leaves.proofs.Modulo.{add-mod}
use Rattle.ring_rq_product.specs.Sums.{Added}
use Rattle.ring_challenge_products.specs.Powers.{entry, Places, row_product}
use Rattle.ring_challenge_products.specs.Sums.{Entries, Extension, Row, row_sum, seven_sum, Grown, UpTo}

module _ (sums : List ℕ) where
  -- none of the places
  pub grown_none : (powers : List ℕ) (at : ℕ) (e : List ℕ) → length sums ≡ 64 → Grown sums sums (row_sum powers at e (7 * 0))
  unfolding Σ
  grown_none powers at e n = record { count = n; each = λ k h. sym (add-zero (get_or sums k 0)) }

  -- a sum with seven terms more
  Σ_seven : (n : ℕ) (f : ℕ → ℕ) → Σ (n + 7) f ≡ Σ n f + (f (n + 0) + f (n + 1) + f (n + 2) + f (n + 3) + f (n + 4) + f (n + 5) + f (n + 6))
  unfolding Σ
  Σ_seven n f = Σ_split n 7 f ∙ ap (λ s. Σ n f + s) (ap (λ x. x + f (n + 1) + f (n + 2) + f (n + 3) + f (n + 4) + f (n + 5) + f (n + 6)) (zero_first (f (n + 0))))
    where
      zero_first : (x : ℕ) → 0 + x ≡ x
      zero_first x = omega arith

  -- seven more
  pub grown_seven : (powers : List ℕ) (at : ℕ) (e now next : List ℕ) (b p₀ p₁ p₂ p₃ p₄ p₅ p₆ : ℕ) → Grown sums now (row_sum powers at e (7 * b))
      → p₀ ≡ get_or powers (at + 7 * b) 0 → p₁ ≡ get_or powers (at + 7 * b + 1) 0 → p₂ ≡ get_or powers (at + 7 * b + 2) 0 → p₃ ≡ get_or powers (at + 7 * b + 3) 0
      → p₄ ≡ get_or powers (at + 7 * b + 4) 0 → p₅ ≡ get_or powers (at + 7 * b + 5) 0 → p₆ ≡ get_or powers (at + 7 * b + 6) 0
      → Grown now next (seven_sum e p₀ p₁ p₂ p₃ p₄ p₅ p₆) → Grown sums next (row_sum powers at e (7 * (b + 1)))
  grown_seven powers at e now next b p₀ p₁ p₂ p₃ p₄ p₅ p₆ g e₀ e₁ e₂ e₃ e₄ e₅ e₆ h = record { count = h.count; each = each }
    where
      -- entry i of the seven
      read : (k i x place : ℕ) → x ≡ get_or powers place 0 → place ≡ at + (7 * b + i) → get_or e (x + k) 0 ≡ get_or e (get_or powers (at + (7 * b + i)) 0 + k) 0
      read k i x place p q = ap (λ y. get_or e (y + k) 0) (p ∙ ap (λ j. get_or powers j 0) q)

      joined : (x y s m w u₀ u₁ u₂ u₃ u₄ u₅ u₆ v₀ v₁ v₂ v₃ v₄ v₅ v₆ : ℕ) → x ≡ y + (u₀ + u₁ + u₂ + u₃ + u₄ + u₅ + u₆) → y ≡ s + m → w ≡ m + (v₀ + v₁ + v₂ + v₃ + v₄ + v₅ + v₆)
          → u₀ ≡ v₀ → u₁ ≡ v₁ → u₂ ≡ v₂ → u₃ ≡ v₃ → u₄ ≡ v₄ → u₅ ≡ v₅ → u₆ ≡ v₆ → x ≡ s + w
      joined x y s m w u₀ u₁ u₂ u₃ u₄ u₅ u₆ v₀ v₁ v₂ v₃ v₄ v₅ v₆ p q r z₀ z₁ z₂ z₃ z₄ z₅ z₆ = omega arith

      each : (k : ℕ) → k < 64 → get_or next k 0 ≡ get_or sums k 0 + row_sum powers at e (7 * (b + 1)) k
      each k l =
          let f : ℕ → ℕ = λ t. get_or e (get_or powers (at + t) 0 + k) 0 in
          let more : 7 * (b + 1) ≡ 7 * b + 7 = omega arith in
          joined _ _ _ _ _ _ _ _ _ _ _ _ _ _ _ _ _ _ _ (h.each k l) (g.each k l) (ap (λ n. Σ n f) more ∙ Σ_seven (7 * b) f) (read k 0 p₀ _ e₀ (omega arith)) (read k 1 p₁ _ e₁ (omega arith))
          (read k 2 p₂ _ e₂ (omega arith)) (read k 3 p₃ _ e₃ (omega arith)) (read k 4 p₄ _ e₄ (omega arith)) (read k 5 p₅ _ e₅ (omega arith)) (read k 6 p₆ _ e₆ (omega arith))

-- place i of seven
pub place-small : (powers : List ℕ) (at b : ℕ) → Row powers at → b < 6 → (i place : ℕ) → i < 7 → place ≡ at + (7 * b + i) → get_or powers place 0 ≤ 384
place-small powers at b r h i place l e = omega (arith, r.below (7 * b + i) (omega arith), ap (λ j. get_or powers j 0) e)

-- such sums stay small
pub row_small : (powers : List ℕ) (at : ℕ) (e : List ℕ) (n k : ℕ) → Row powers at → Entries e → n ≤ 42 → k < 64 → row_sum powers at e n k ≤ n * 2 ^ 33
row_small powers at e n k r f l h =
    Σ-bound n (2 ^ 33) (λ t. get_or e (get_or powers (at + t) 0 + k) 0) (λ t m. f.small (get_or powers (at + t) 0 + k) (omega (arith, r.below t (omega arith))))

pub grown_fit : (sums now powers : List ℕ) (at : ℕ) (e : List ℕ) (b : ℕ) → UpTo (2 ^ 61) sums → Row powers at → Entries e → b ≤ 6 → Grown sums now (row_sum powers at e (7 * b))
    → UpTo (2 ^ 62) now
grown_fit sums now powers at e b u r f l g = record {
  count = g.count;
  each = λ k h. fits (get_or now k 0) (get_or sums k 0) (row_sum powers at e (7 * b) k) b (g.each k h) (u.each k h) (row_small powers at e (7 * b) k r f (omega arith) h) l;
}
  where
    fits : (x s m b : ℕ) → x ≡ s + m → s ≤ 2 ^ 61 → m ≤ 7 * b * 2 ^ 33 → b ≤ 6 → x ≤ 2 ^ 62
    fits x s m b p q r l = omega arith

-- row i of the places of r elements
pub row_of : (powers : List ℕ) (i r : ℕ) → Places powers r → i < r → Row powers (64 * i)
row_of powers i r p h = record { within = omega (arith, p.room); below = λ t l. p.below i t h l }

-- a row's product is added
pub row_added : (totals next powers : List ℕ) (i : ℕ) (e a : List ℕ) → Row powers (64 * i) → Extension e a → Grown totals next (row_sum powers (64 * i) e 42)
    → Added (2 ^ 39) totals (row_product powers i a) next
row_added totals next powers i e a r x g = record {
  value = λ k h.
      ap (λ v. v % Q) (g.each k h)
      ∙ add-mod Q (get_or totals k 0) (row_sum powers (64 * i) e 42 k) (get_or totals k 0) (taken k) refl
      (Σ-mod_ext 42 Q (λ t. get_or e (get_or powers (64 * i + t) 0 + k) 0) (λ t. entry a (get_or powers (64 * i + t) 0 + k))
      (λ t l. x.value (get_or powers (64 * i + t) 0 + k) (omega (arith, r.below t l))))
      ∙ ap (λ v. (get_or totals k 0 + v) % Q) (sym (get_or-table 64 taken k 0 h));
  bound = λ k h. omega (arith, g.each k h, row_small powers (64 * i) e 42 k r x.entries (omega arith) h);
}
  where
    taken : ℕ → ℕ
    taken k = Σ 42 (λ t. entry a (get_or powers (64 * i + t) 0 + k))
