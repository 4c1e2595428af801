-- A cell of h from the places of its vectors, and after stores apart from φ.
use mathlib.Core.Path.{◌≡◌, refl, ap, ap₂, ◌∙◌}
use mathlib.Core.List.{List}
use Prim.Native.Nat.{ℕ, ◌+◌, ◌*◌, ◌<◌}
use native.Mathlib.Omega.{arith}
use lib.ListN.{length}
use Rattle.math.specs.lists.Table.{table}
use Rattle.math.specs.lists.Part.{splice}
use Rattle.math.proofs.lists.Table.{table_ext}
use Rattle.math.proofs.algebra.Dot.{dot_ext}
use Rattle.spec_leaves.specs.Ring.{RqOps, words}
use Rattle.ring_inner_product.specs.Run.{run}
use Rattle.spec_protocol.specs.Formulas.{◌⊕◌, dot, flat}
use Rattle.ring_rq_matrix.specs.Region.{vector, Apart}
use Rattle.ring_rq_matrix.proofs.Place.{vector_apart, dot-vectors}
use Rattle.core_garbage_polynomials.specs.Garbage.{h_of}

module _ (φ s : List ℕ) (φ-at s-at n : ℕ) where
  -- its words, from the places of φ_i, φ_j, s_i and s_j
  pub h-places : (l : List ℕ) (i j φ-i φ-j s-i s-j : ℕ) → l ≡ words (dot n (run φ φ-i 64) (run s s-j 64) ⊕ dot n (run φ φ-j 64) (run s s-i 64))
      → φ-i ≡ φ-at + 64 * (i * n) → φ-j ≡ φ-at + 64 * (j * n) → s-i ≡ s-at + 64 * (i * n) → s-j ≡ s-at + 64 * (j * n) → l ≡ words (h_of φ φ-at s s-at n i j)
  h-places l i j φ-i φ-j s-i s-j h a b d e = h ∙ ap₂ (λ x y. words (x ⊕ y)) (dot-vectors φ φ-at i φ-i s s-at j s-j n a e) (dot-vectors φ φ-at j φ-j s s-at i s-i n b d)

-- after a store apart from φ
module _ (now φ : List ℕ) (place : ℕ) (new : List ℕ) (φ-at r n : ℕ) (e : now ≡ splice φ place new) (apart : Apart φ-at (64 * (r * n)) place (length new)) where
  -- the inner products with φ_i
  φ_unchanged : (s : List ℕ) (s-at i j : ℕ) → i < r → dot n (vector now φ-at n i) (vector s s-at n j) ≡ dot n (vector φ φ-at n i) (vector s s-at n j)
  φ_unchanged s s-at i j h =
      dot_ext RqOps n (vector now φ-at n i) (vector φ φ-at n i) (vector s s-at n j) (vector s s-at n j) (λ m l. vector_apart now φ place new φ-at r n e apart i m h l) (λ m l. refl)

  -- the cells of h
  pub h_unchanged : (s : List ℕ) (s-at i j : ℕ) → i < r → j < r → h_of now φ-at s s-at n i j ≡ h_of φ φ-at s s-at n i j
  h_unchanged s s-at i j h l = ap₂ ◌⊕◌ (φ_unchanged s s-at i j h) (φ_unchanged s s-at j i l)

  -- row i of h, stored
  pub h-row_unchanged : (next s : List ℕ) (s-at i row : ℕ) → i < r → next ≡ splice now row (flat (table (i + 1) (h_of now φ-at s s-at n i)))
      → next ≡ splice now row (flat (table (i + 1) (h_of φ φ-at s s-at n i)))
  h-row_unchanged next s s-at i row h stored =
      stored ∙ ap (λ cells. splice now row (flat cells)) (table_ext (i + 1) (h_of now φ-at s s-at n i) (h_of φ φ-at s s-at n i) (λ j l. h_unchanged s s-at i j h (omega arith)))
