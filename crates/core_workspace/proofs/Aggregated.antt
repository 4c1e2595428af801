-- What the crates `core_aggregate` and `transcript_challenges` store are the words of the protocol's formulas.
use mathlib.Core.Path.{◌≡◌, sym, ap, ap₂, ◌∙◌}
use mathlib.Core.List.{List}
use Prim.Native.Nat.{ℕ, ◌+◌, ◌*◌, ◌<◌}
use Rattle.math.specs.lists.Table.{table, cat}
use Rattle.math.proofs.lists.Cat.{cat_ext, table-rows}
use Rattle.math.proofs.algebra.Sum.{sum_ext}
use Rattle.spec_leaves.specs.Rq.{Element}
use Rattle.spec_leaves.specs.Ring.{RqOps}
use Rattle.spec_protocol.specs.Parameters.{Parameters, parameters, T, triangular}
use Rattle.spec_protocol.specs.Views.{Public, public, element_at, cell}
use Rattle.spec_protocol.specs.Formulas.{flat, rows, triangle, ◌⊕◌, ◌⊗◌, a'', φ'', a_sum, φ_sum}
use Rattle.spec_protocol.specs.Region.{Triangle, Vectors}
use Rattle.spec_protocol.proofs.Region.{rows_ext, triangle_ext, triangle-table}
use Rattle.ring_rq_matrix.proofs.Place.{cell_mirrored}
use Rattle.core_aggregate_psi.specs.Grid.{weighed}
use Rattle.ring_inner_product.specs.Run.{further}
use Rattle.core_aggregate.specs.Weighed.{both, mixed, rows_at, mixed_words}
use Rattle.core_aggregate.proofs.Laws.{job_at, randomness_at, a''_is, φ''_is, a_sum_is, φ_sum_is}
use Rattle.core_workspace.specs.Aggregated.{a''_words, φ''_words, φ_words, a_words}

-- the elements f 0, f 1, … that are a triangle's cells
pub table-triangle : (r : ℕ) (f : ℕ → Element) (g : ℕ → ℕ → Element) → ((i j : ℕ) → i < r → j < r → f (cell i j) ≡ g i j) → table (triangular r) f ≡ triangle r g
table-triangle r f g e = sym (triangle-table r f) ∙ triangle_ext r (λ i j. f (cell i j)) g e

-- the elements f 0, f 1, … that are the elements of r vectors
pub table-vectors : (r n : ℕ) (f : ℕ → Element) (g : ℕ → ℕ → Element) → ((i m : ℕ) → i < r → m < n → f (i * n + m) ≡ g i m) → table (r * n) f ≡ rows r n g
unfolding rows
table-vectors r n f g e = table-rows r n f ∙ rows_ext r n (λ i m. f (i * n + m)) g e

module _ (J R : List ℕ) where
  abbrev P : Parameters
  P = parameters J

  abbrev X : Public
  X = public J R

  -- a''_k is the same mirrored
  pub a''_symmetric : (k i j : ℕ) → a'' X k i j ≡ a'' X k j i
  a''_symmetric k i j =
      sym (a''_is J R k i j) ∙ ap (weighed J (job_at J 0) (T P) P.l R (randomness_at J 1 + k * P.l)) (cell_mirrored i j) ∙ a''_is J R k j i

  -- so is a
  pub a_symmetric : (i j : ℕ) → a_sum X i j ≡ a_sum X j i
  unfolding a_sum
  a_symmetric i j =
      ap₂ ◌⊕◌
      (sum_ext RqOps P.K (λ k. X.alpha k ⊗ X.a k i j) (λ k. X.alpha k ⊗ X.a k j i) (λ k h. ap (λ c. X.alpha k ⊗ element_at J (job_at J 3) (k * T P + c)) (cell_mirrored i j)))
      (sum_ext RqOps P.L (λ k. X.beta k ⊗ a'' X k i j) (λ k. X.beta k ⊗ a'' X k j i) (λ k h. ap (λ e. X.beta k ⊗ e) (a''_symmetric k i j)))

  -- φ'', as `phi_double_prime` stores it
  pub φ''_formula : flat (cat P.L (λ k. rows P.r P.n (both J (job_at J 1) P.r P.n P.l R (randomness_at J 0) (randomness_at J 1 + k * P.l) (randomness_at J 2 + k * 256))))
      ≡ φ''_words J R
  φ''_formula =
      ap flat
      (cat_ext P.L (λ k. rows P.r P.n (B k)) (λ k. rows P.r P.n (φ'' X k))
      (λ k h. rows_ext P.r P.n (B k) (φ'' X k) (λ i m p q. φ''_is J R k i m)))
    where
      B : ℕ → ℕ → ℕ → Element
      B k = both J (job_at J 1) P.r P.n P.l R (randomness_at J 0) (randomness_at J 1 + k * P.l) (randomness_at J 2 + k * 256)

  -- a'', as `a_double_prime` stores it
  pub a''_formula : flat (rows P.L (T P) (λ k. weighed J (job_at J 0) (T P) P.l R (randomness_at J 1 + k * P.l))) ≡ a''_words J R
  unfolding rows
  a''_formula =
      ap flat (cat_ext P.L (λ k. table (T P) (W k)) (λ k. triangle P.r (a'' X k)) (λ k h. table-triangle P.r (W k) (a'' X k) (λ i j p q. a''_is J R k i j)))
    where
      W : ℕ → ℕ → Element
      W k = weighed J (job_at J 0) (T P) P.l R (randomness_at J 1 + k * P.l)

  -- φ, as `aggregate` stores it from a region whose vectors k are φ''_k
  pub φ_formula : (S : List ℕ) (at : ℕ) → ((k : ℕ) → k < P.L → Vectors S (at + 64 * (k * (P.r * P.n))) P.r P.n (φ'' X k))
      → mixed_words J (rows_at (job_at J 4) (P.r * P.n) P.K) R (randomness_at J 3) (randomness_at J 4) S (rows_at at (P.r * P.n) P.L) (P.r * P.n) ≡ φ_words J R
  φ_formula S at h = ap flat (table-vectors P.r P.n M (φ_sum X) (φ_sum_is J R S at h))
    where
      M : ℕ → Element
      M c = mixed J (further (rows_at (job_at J 4) (P.r * P.n) P.K) c) R (randomness_at J 3) (randomness_at J 4) S (further (rows_at at (P.r * P.n) P.L) c)

  -- a, as `aggregate` stores it from a region whose triangle k is a''_k
  pub a_formula : (S : List ℕ) (at : ℕ) → ((k : ℕ) → k < P.L → Triangle S (at + 64 * (k * T P)) P.r (a'' X k))
      → mixed_words J (rows_at (job_at J 3) (T P) P.K) R (randomness_at J 3) (randomness_at J 4) S (rows_at at (T P) P.L) (T P) ≡ a_words J R
  a_formula S at h = ap flat (table-triangle P.r M (a_sum X) (a_sum_is J R S at h))
    where
      M : ℕ → Element
      M c = mixed J (further (rows_at (job_at J 3) (T P) P.K) c) R (randomness_at J 3) (randomness_at J 4) S (further (rows_at at (T P) P.L) c)
