-- What a slice holds at a place: what is stored, what stores elsewhere leave, and the elements of it.
use mathlib.Core.Path.{◌≡◌, sym, ap, subst, ◌∙◌}
use mathlib.Core.List.{List, ◌++◌}
use mathlib.Core.Logic.{◌⊎◌, inl, inr}
use Prim.Native.Nat.{ℕ, zero, suc, ◌+◌, ◌*◌, ◌≤◌, ◌<◌}
use native.Mathlib.Nat.{not-suc-le-zero, eq-or-lt_of_le}
use native.Mathlib.Omega.{arith}
use lib.ListN.{length, take, drop, length-append}
use lib.Seq.{take-take, take-length, take-append_seam, drop-append_seam}
use Rattle.math.specs.lists.Table.{table, cat}
use Rattle.math.specs.lists.Part.{part, splice}
use Rattle.math.proofs.lists.Table.{length-table, get_or-table}
use Rattle.math.proofs.lists.Part.{part_of-part}
use Rattle.math.proofs.lists.Splice.{part-splice-before, part-splice-after, part-splice-same}
use Rattle.spec_leaves.specs.Rq.{Element}
use Rattle.spec_protocol.specs.Parameters.{triangular}
use Rattle.spec_protocol.specs.Views.{cell}
use Rattle.spec_protocol.specs.Formulas.{flat, rows, triangle}
use Rattle.spec_protocol.specs.Region.{Elements, Triangle, Vectors}
use Rattle.spec_protocol.proofs.Flat.{length-flat, element_of-flat, length-rows, row-cell, row-cell-within, length-triangle, cell-within, triangle-cell}
use Rattle.spec_protocol.proofs.Region.{length-lists}
use Rattle.spec_protocol.proofs.Stored.{flat_append}
use Rattle.core_workspace.specs.Holds.{Holds, Unchanged}
use Rattle.core_workspace.proofs.Unchanged.{unchanged_weaken}

-- what is stored
pub holds-stored : (S : List ℕ) (at : ℕ) (ws : List ℕ) → at + length ws ≤ length S → Holds (splice S at ws) at ws
holds-stored S at ws h = part-splice-same 0 S at ws h

-- what stands before a store
pub holds-before : (S : List ℕ) (at : ℕ) (ws : List ℕ) (to : ℕ) (new : List ℕ) → at + length ws ≤ to → Holds S at ws → Holds (splice S to new) at ws
holds-before S at ws to new a h = part-splice-before 0 S to new at (length ws) a ∙ h

-- what stands after a store
pub holds_after : (S : List ℕ) (at : ℕ) (ws : List ℕ) (to : ℕ) (new : List ℕ) → to + length new ≤ at → Holds S at ws → Holds (splice S to new) at ws
holds_after S at ws to new a h = part-splice-after 0 S to new at (length ws) a ∙ h

-- what stands beyond the place up to which words change
pub holds_unchanged : (k : ℕ) (S S' : List ℕ) (at : ℕ) (ws : List ℕ) → Unchanged k S S' → k ≤ at → Holds S at ws → Holds S' at ws
holds_unchanged k S S' at ws a l h = ap (take (length ws)) (unchanged_weaken k at S S' l a).beyond ∙ h

-- the first of two lists of words
pub holds-first : (S : List ℕ) (at : ℕ) (us vs : List ℕ) → Holds S at (us ++ vs) → Holds S at us
holds-first S at us vs h =
    sym (take-take (length us) (length (us ++ vs)) (drop at S) (omega (arith, length-append us vs))) ∙ ap (take (length us)) h ∙ take-append_seam us vs

-- the second of them
pub holds-second : (S : List ℕ) (at : ℕ) (us vs : List ℕ) → Holds S at (us ++ vs) → Holds S (at + length us) vs
holds-second S at us vs h =
    sym (part_of-part S at (length (us ++ vs)) (length us) (length vs) (omega (arith, length-append us vs)))
    ∙ ap (λ l. part l (length us) (length vs)) h
    ∙ ap (take (length vs)) (drop-append_seam us vs)
    ∙ take-length vs

-- the words of n elements
pub elements_held : (S : List ℕ) (at n : ℕ) (f : ℕ → Element) → Holds S at (flat (table n f)) → Elements S at n f
elements_held S at n f h m k = element_of-flat S at (table n f) m (f 0) h (omega (arith, length-table n f)) ∙ get_or-table n f m (f 0) k

-- the words of r vectors of n elements
pub vectors-held : (S : List ℕ) (at r n : ℕ) (f : ℕ → ℕ → Element) → Holds S at (flat (rows r n f)) → Vectors S at r n f
vectors-held S at r n f h i m k l = element_of-flat S at (rows r n f) (i * n + m) (f 0 0) h (row-cell-within r f n i m k l) ∙ row-cell r f n i m (f 0 0) k l

-- the words of a triangle that is the same mirrored
pub triangle-held : (S : List ℕ) (at r : ℕ) (f : ℕ → ℕ → Element) → ((i j : ℕ) → f i j ≡ f j i) → Holds S at (flat (triangle r f)) → Triangle S at r f
triangle-held S at r f symmetric h i j k l = element_of-flat S at (triangle r f) (cell i j) (f 0 0) h (cell-within r f i j k l) ∙ triangle-cell r f symmetric (f 0 0) i j k l

-- the words of list k, of lists of n elements each
pub list_held : (S : List ℕ) (at L n : ℕ) (f : ℕ → List Element) → ((k : ℕ) → length (f k) ≡ n) → Holds S at (flat (cat L f)) → (k : ℕ) → k < L → Holds S (at + 64 * (k * n)) (flat (f k))
unfolding cat
list_held S at zero n f size h k l = absurd (not-suc-le-zero l)
list_held S at (suc L) n f size h k l = go (eq-or-lt_of_le l) (list_held S at L n f size (holds-first S at (flat (cat L f)) (flat (f L)) joined) k)
  where
    joined : Holds S at (flat (cat L f) ++ flat (f L))
    joined = subst (λ ws. Holds S at ws) (flat_append (cat L f) (f L)) h

    go : (suc k ≡ suc L) ⊎ (suc k < suc L) → (k < L → Holds S (at + 64 * (k * n)) (flat (f k))) → Holds S (at + 64 * (k * n)) (flat (f k))
    go (inl e) ih =
        let same : L ≡ k = omega arith in
        let place : length (flat (cat L f)) ≡ 64 * (L * n) = length-flat (cat L f) ∙ ap (λ m. 64 * m) (length-lists L n f size) in
        subst (λ m. Holds S (at + 64 * (m * n)) (flat (f m))) same
        (subst (λ m. Holds S (at + m) (flat (f L))) place (holds-second S at (flat (cat L f)) (flat (f L)) joined))
    go (inr m) ih = ih (omega arith)

-- vectors k of lists of r vectors of n elements
pub vectors_list-held : (S : List ℕ) (at L r n : ℕ) (f : ℕ → ℕ → ℕ → Element) → Holds S at (flat (cat L (λ k. rows r n (f k)))) → (k : ℕ) → k < L → Vectors S (at + 64 * (k * (r * n))) r n (f k)
vectors_list-held S at L r n f h k l = vectors-held S (at + 64 * (k * (r * n))) r n (f k) (list_held S at L (r * n) (λ k. rows r n (f k)) (λ k. length-rows r (f k) n) h k l)

-- triangle k of triangles that are the same mirrored
pub triangle_list-held : (S : List ℕ) (at L r : ℕ) (f : ℕ → ℕ → ℕ → Element) → ((k i j : ℕ) → f k i j ≡ f k j i) → Holds S at (flat (cat L (λ k. triangle r (f k)))) → (k : ℕ) → k < L
    → Triangle S (at + 64 * (k * triangular r)) r (f k)
triangle_list-held S at L r f symmetric h k l =
    triangle-held S (at + 64 * (k * triangular r)) r (f k) (symmetric k) (list_held S at L (triangular r) (λ k. triangle r (f k)) (λ k. length-triangle r (f k)) h k l)
