-- A square of elements in a slice: its cells after stores, and read back.
use mathlib.Core.Path.{◌≡◌, ap, ap₂, ◌∙◌}
use mathlib.Core.Logic.{inl}
use mathlib.Core.List.{List}
use Prim.Native.Nat.{ℕ, ◌+◌, ◌*◌, ◌≤◌, ◌<◌}
use native.Mathlib.Omega.{arith}
use lib.ListN.{length}
use Rattle.math.specs.lists.Table.{table}
use Rattle.math.specs.lists.Part.{part, splice}
use Rattle.math.proofs.lists.Table.{table_ext}
use Rattle.math.proofs.lists.Splice.{part-splice-same}
use Rattle.spec_leaves.specs.Rq.{Element, radd}
use Rattle.spec_leaves.specs.Ring.{words, element}
use Rattle.spec_protocol.specs.Formulas.{◌⊕◌, flat, rows, triangle}
use Rattle.spec_protocol.proofs.Flat.{length-flat, element_of-flat, length-rows, row-cell, row-cell-within}
use Rattle.spec_protocol.proofs.Region.{triangle_ext}
use Rattle.ring_rq_matrix.specs.Region.{vector}
use Rattle.ring_rq_matrix.proofs.Place.{vector_apart}
use Rattle.ring_rq_matrix.proofs.Word.{words_of-sum}
use Rattle.core_garbage_ntt.specs.NttLines.{both_ways}

-- the words of a cell and its mirror image together, from the places of both
pub cell-sum : (S l a b : List ℕ) (at r i j across down : ℕ) → l ≡ radd a b → a ≡ part S across 64 → b ≡ part S down 64 → across ≡ at + 64 * (i * r + j)
    → down ≡ at + 64 * (j * r + i) → l ≡ words (both_ways S at r i j)
cell-sum S l a b at r i j across down e ea eb p q =
    words_of-sum l a b (vector S at r i j) (vector S at r j i) e (ap element (ea ∙ ap (λ k. part S k 64) p)) (ap element (eb ∙ ap (λ k. part S k 64) q))

-- after a store behind the square
pub both-before : (S S' : List ℕ) (to : ℕ) (new : List ℕ) (at r i j : ℕ) → S' ≡ splice S to new → at + 64 * (r * r) ≤ to → i < r → j < r → both_ways S' at r i j ≡ both_ways S at r i j
both-before S S' to new at r i j e h hi hj = ap₂ ◌⊕◌ (vector_apart S' S to new at r r e (inl h) i j hi hj) (vector_apart S' S to new at r r e (inl h) j i hj hi)

-- row i, stored
pub both-row : (S S' next : List ℕ) (to : ℕ) (new : List ℕ) (at r i row : ℕ) → S' ≡ splice S to new → at + 64 * (r * r) ≤ to → i < r
    → next ≡ splice S' row (flat (table (i + 1) (both_ways S' at r i))) → next ≡ splice S' row (flat (table (i + 1) (both_ways S at r i)))
both-row S S' next to new at r i row e h hi stored =
    stored ∙ ap (λ cells. splice S' row (flat cells)) (table_ext (i + 1) (both_ways S' at r i) (both_ways S at r i) (λ j l. both-before S S' to new at r i j e h hi (omega arith)))

-- a square that is stored, read back
pub both_stored : (S S' : List ℕ) (at r : ℕ) (f : ℕ → ℕ → Element) → S' ≡ splice S at (flat (rows r r f)) → at + 64 * (r * r) ≤ length S
    → triangle r (both_ways S' at r) ≡ triangle r (λ i j. f i j ⊕ f j i)
both_stored S S' at r f e h = triangle_ext r (both_ways S' at r) (λ i j. f i j ⊕ f j i) (λ i j l m. ap₂ ◌⊕◌ (one i j l m) (one j i m l))
  where
    held : part S' at (length (flat (rows r r f))) ≡ flat (rows r r f)
    held = ap (λ s. part s at (length (flat (rows r r f)))) e ∙ part-splice-same 0 S at (flat (rows r r f)) (omega (arith, length-flat (rows r r f), length-rows r f r))

    one : (i j : ℕ) → i < r → j < r → vector S' at r i j ≡ f i j
    one i j l m = element_of-flat S' at (rows r r f) (i * r + j) (f 0 0) held (row-cell-within r f r i j l m) ∙ row-cell r f r i j (f 0 0) l m
