-- Elements added to stored elements in their places.
use mathlib.Core.Path.{◌≡◌, refl, sym, ◌∙◌, ap, ap₂}
use mathlib.Core.List.{List, ◌++◌, flat_map}
use Prim.Native.Nat.{ℕ, zero, suc, ◌+◌, ◌*◌, ◌≤◌, ◌<◌}
use native.Mathlib.Numerals.{add-one}
use native.Mathlib.Omega.{arith}
use lib.ListN.{length, take, drop, take-append-drop}
use lib.Seq.{take-add, drop-drop}
use Rattle.math.specs.lists.Table.{table}
use Rattle.math.specs.lists.Part.{part, splice}
use Rattle.math.proofs.lists.Table.{table_ext, table-suc}
use Rattle.math.proofs.lists.Splice.{splice_eq, splice_again, length_part, get_d_part, get_or-splice-within}
use Rattle.math.proofs.algebra.Ring.{nil-add}
use Rattle.spec_leaves.specs.Rq.{Element}
use Rattle.spec_leaves.specs.Ring.{RqOps, IsElement, element}
use Rattle.spec_leaves.proofs.RqRing.{rq_ring}
use Rattle.spec_leaves.proofs.Bridge.{words-element}
use Rattle.ring_inner_product.specs.Run.{run}
use Rattle.spec_protocol.specs.Formulas.{◌⊕◌, flat}
use Rattle.spec_protocol.proofs.Flat.{flat-canonical, length-flat-table}
use Rattle.spec_protocol.proofs.Stored.{flat_append, flat-one, stored-rest}
use Rattle.spec_protocol.proofs.Region.{elements_stored}
use Rattle.commitments_outer.specs.Cells.{CanonicalFrom}

-- stored elements have canonical words
pub stored-canonical : (l l' : List ℕ) (at n : ℕ) (f : ℕ → Element) → at + 64 * n ≤ length l → l' ≡ splice l at (flat (table n f)) → CanonicalFrom l' at (64 * n)
stored-canonical l l' at n f h e i m =
    let w : length (flat (table n f)) ≡ 64 * n = length-flat-table n f in
    rw (e, get_or-splice-within l at (flat (table n f)) i 0 (omega arith) (omega arith)) (flat-canonical (table n f) i (omega arith))

-- the element after the first k stored ones is as it was
pub run-rest : (l l' : List ℕ) (at k place : ℕ) (f : ℕ → Element) → l' ≡ splice l at (flat (table k f)) → place ≡ at + 64 * k → element (part l' place 64) ≡ run l at 64 k
run-rest l l' at k place f e p = ap element (ap (λ q. part l' q 64) p ∙ stored-rest l l' at k f (at + 64 * k) 64 e (omega arith))

-- elements added to stored ones
pub store_added : (l l' l'' : List ℕ) (at n : ℕ) (f g : ℕ → Element) → at + 64 * n ≤ length l → l' ≡ splice l at (flat (table n f))
    → l'' ≡ splice l' at (flat (table n (λ k. run l' at 64 k ⊕ g k))) → l'' ≡ splice l at (flat (table n (λ k. f k ⊕ g k)))
store_added l l' l'' at n f g h e e' =
    let w : length (flat (table n f)) ≡ 64 * n = length-flat-table n f in
    e'
    ∙ ap (λ x. splice x at (flat (table n (λ k. run x at 64 k ⊕ g k)))) e
    ∙ ap (λ t. splice (splice l at (flat (table n f))) at (flat t))
    (table_ext n (λ k. run (splice l at (flat (table n f))) at 64 k ⊕ g k) sums (λ k m. ap (λ x. x ⊕ g k) (elements_stored l at n f h k m)))
    ∙ splice_again 0 l at (flat (table n f)) (flat (table n sums)) (w ∙ sym (length-flat-table n sums)) (omega arith)
  where
    sums : ℕ → Element
    sums k = f k ⊕ g k

-- elements added to zeros
pub from_zero : (l l' l'' : List ℕ) (at n : ℕ) (g : ℕ → Element) → at + 64 * n ≤ length l → l' ≡ splice l at (flat (table n (λ k. RqOps.nil)))
    → l'' ≡ splice l' at (flat (table n (λ k. run l' at 64 k ⊕ g k))) → l'' ≡ splice l at (flat (table n g))
from_zero l l' l'' at n g h e e' =
    store_added l l' l'' at n (λ k. RqOps.nil) g h e e'
    ∙ ap (λ t. splice l at (flat t)) (table_ext n (λ k. RqOps.nil ⊕ g k) g (λ k q. nil-add RqOps rq_ring (g k)))

-- canonical words are the words of their elements
pub flat-run : (l : List ℕ) (at n : ℕ) → at + 64 * n ≤ length l → CanonicalFrom l at (64 * n) → flat (table n (run l at 64)) ≡ part l at (64 * n)
unfolding table flat flat_map
flat-run l at zero h c = refl
flat-run l at (suc n) h c =
    ap flat (ap (λ k. table k (run l at 64)) (sym (add-one n)) ∙ table-suc n (run l at 64))
    ∙ flat_append (table n (run l at 64)) _
    ∙ ap₂ ◌++◌ (flat-run l at n (omega arith) (λ i m. c i (omega arith))) (flat-one (run l at 64 n) ∙ words-element (part l (at + 64 * n) 64) last)
    ∙ sym (ap (λ k. take k (drop at l)) (more n) ∙ take-add (64 * n) 64 (drop at l) ∙ ap (λ x. part l at (64 * n) ++ take 64 x) (drop-drop (64 * n) at l))
  where
    more : (n : ℕ) → 64 * suc n ≡ 64 * n + 64
    more n = omega arith

    place : (k : ℕ) → at + (64 * n + k) ≡ at + 64 * n + k
    place k = omega arith

    size : length (part l (at + 64 * n) 64) ≡ 64
    size = length_part l (at + 64 * n) 64 (omega arith)

    last : IsElement (part l (at + 64 * n) 64)
    last = (size, λ k m. let b : k < 64 = omega (arith, size) in rw (get_d_part 0 l (at + 64 * n) 64 k b, ← place k) (c (64 * n + k) (omega arith)))

-- a part stored where it stands
splice-part : (l : List ℕ) (at n : ℕ) → at + n ≤ length l → splice l at (part l at n) ≡ l
splice-part l at n h =
    let e : length (part l at n) ≡ n = length_part l at n h in
    splice_eq l at (part l at n) (omega arith)
    ∙ ap (λ k. take at l ++ part l at n ++ drop (at + k) l) e
    ∙ ap (λ w. w ++ drop (at + n) l) (sym (take-add at n l))
    ∙ take-append-drop (at + n) l

-- zeros added to elements
pub store_nothing : (l : List ℕ) (at n : ℕ) (g : ℕ → Element) → at + 64 * n ≤ length l → CanonicalFrom l at (64 * n) → ((k : ℕ) → g k ≡ RqOps.nil)
    → l ≡ splice l at (flat (table n (λ k. run l at 64 k ⊕ g k)))
store_nothing l at n g h c z =
    sym
    (ap (λ t. splice l at (flat t)) (table_ext n (λ k. run l at 64 k ⊕ g k) (run l at 64) (λ k m. ap (λ x. run l at 64 k ⊕ x) (z k) ∙ rq_ring.add-nil (run l at 64 k)))
    ∙ ap (splice l at) (flat-run l at n h c)
    ∙ splice-part l at (64 * n) h)
