-- Functions of lists that add up over lists joined: of tables, of joins and of lists made element by element.
use mathlib.Core.Path.{◌≡◌, refl, sym, ap, ◌∙◌}
use mathlib.Core.List.{List, [], ◌∷◌, ◌++◌, flat_map, append_assoc}
use Prim.Native.Nat.{ℕ, zero, suc, ◌+◌}
use Rattle.math.specs.lists.Table.{table, cat}
use Rattle.math.specs.lists.Sum.{Σ}

-- 0 of the empty list, and of two lists joined the sum
pub record Additive {ℓ} (A : Type ℓ) (μ : List A → ℕ) : Type ℓ where
  pub empty : μ [] ≡ 0
  pub joined : (a b : List A) → μ (a ++ b) ≡ μ a + μ b

module _ {ℓ} {A : Type ℓ} (μ : List A → ℕ) (additive : Additive A μ) where
  -- the sum over lists joined
  pub additive_cat : (n : ℕ) (f : ℕ → List A) → μ (cat n f) ≡ Σ n (λ i. μ (f i))
  unfolding cat Σ
  additive_cat zero f = additive.empty
  additive_cat (suc n) f = additive.joined (cat n f) (f n) ∙ ap (λ k. k + μ (f n)) (additive_cat n f)

  -- the sum over a table's entries
  pub additive_table : (n : ℕ) (f : ℕ → A) → μ (table n f) ≡ Σ n (λ i. μ (f i ∷ []))
  unfolding table Σ
  additive_table zero f = additive.empty
  additive_table (suc n) f = additive.joined (table n f) (f n ∷ []) ∙ ap (λ k. k + μ (f n ∷ [])) (additive_table n f)

-- lists made of two lists joined
pub flat_map_append {ℓ κ} : {A : Type ℓ} {B : Type κ} (f : A → List B) (a b : List A) → flat_map f (a ++ b) ≡ flat_map f a ++ flat_map f b
unfolding flat_map
flat_map_append f [] b = refl
flat_map_append f (x ∷ a) b = ap (λ l. f x ++ l) (flat_map_append f a b) ∙ sym (append_assoc (f x) (flat_map f a) (flat_map f b))

-- what adds up adds up over lists made element by element
pub additive_flat_map {ℓ κ} : {A : Type ℓ} {B : Type κ} (f : A → List B) (μ : List B → ℕ) → Additive B μ → Additive A (λ l. μ (flat_map f l))
unfolding flat_map
additive_flat_map f μ additive = record {
  empty = additive.empty;
  joined = λ a b. ap μ (flat_map_append f a b) ∙ additive.joined (flat_map f a) (flat_map f b);
}
