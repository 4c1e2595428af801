-- Elements added to elements that are stored.
use mathlib.Core.Path.{◌≡◌, refl, sym, ap, ◌∙◌}
use mathlib.Core.List.{List}
use Prim.Native.Nat.{ℕ, ◌+◌, ◌*◌, ◌≤◌, ◌<◌}
use native.Mathlib.Omega.{arith}
use lib.ListN.{length, get_or}
use Rattle.math.specs.lists.Table.{table, cat}
use Rattle.math.specs.lists.Part.{splice}
use Rattle.math.proofs.lists.Cat.{table-rows, cat_ext}
use Rattle.math.proofs.lists.Splice.{splice_again}
use Rattle.spec_leaves.specs.Rq.{Element}
use Rattle.spec_protocol.specs.Views.{element_at}
use Rattle.spec_protocol.specs.Formulas.{flat, rows, ◌⊕◌}
use Rattle.spec_protocol.proofs.Flat.{length-flat, length-rows, row-cell}
use Rattle.spec_protocol.proofs.Region.{Vectors, elements_list, length-lists, rows_ext, vectors_of}

-- the number of elements of so many rows of n elements, for each of so many k
module _ (aggregations r n : ℕ) where
  length-parts : (f : ℕ → ℕ → ℕ → Element) → length (flat (cat aggregations (λ k. rows r n (f k)))) ≡ 64 * (aggregations * (r * n))
  length-parts f = length-flat (cat aggregations (λ k. rows r n (f k))) ∙ ap (λ m. 64 * m) (length-lists aggregations (r * n) (λ k. rows r n (f k)) (λ k. length-rows r (f k) n))

  -- r rows of n elements stored for each of so many k, and then elements g added to them
  pub lists-added : (l mid after : List ℕ) (to : ℕ) (f : ℕ → ℕ → ℕ → Element) (g : ℕ → ℕ → Element) → to + 64 * (aggregations * (r * n)) ≤ length l
      → mid ≡ splice l to (flat (cat aggregations (λ k. rows r n (f k))))
      → after ≡ splice mid to (flat (rows aggregations (r * n) (λ k c. element_at mid (to + 64 * (k * (r * n))) c ⊕ g k c)))
      → after ≡ splice l to (flat (cat aggregations (λ k. rows r n (λ i m. f k i m ⊕ g k (i * n + m)))))
  lists-added l mid after to f g h e w =
      w
      ∙ ap (λ x. splice x to (flat (rows aggregations (r * n) (λ k c. element_at x (to + 64 * (k * (r * n))) c ⊕ g k c)))) e
      ∙ ap (λ x. splice (splice l to (flat (cat aggregations (λ k. rows r n (f k))))) to (flat x)) all
      ∙ splice_again 0 l to (flat (cat aggregations (λ k. rows r n (f k)))) (flat (cat aggregations (λ k. rows r n (added k)))) (length-parts f ∙ sym (length-parts added))
      (omega (arith, length-parts f))
    where
      added : ℕ → ℕ → ℕ → Element
      added k i m = f k i m ⊕ g k (i * n + m)

      -- element c of the r rows of k with g's added
      one : ℕ → ℕ → Element
      one k c = element_at (splice l to (flat (cat aggregations (λ k. rows r n (f k))))) (to + 64 * (k * (r * n))) c ⊕ g k c

      stored : (k : ℕ) → k < aggregations → Vectors (splice l to (flat (cat aggregations (λ k. rows r n (f k))))) (to + 64 * (k * (r * n))) r n (f k)
      stored k b =
          vectors_of (splice l to (flat (cat aggregations (λ k. rows r n (f k))))) (to + 64 * (k * (r * n))) r n (λ m. get_or (rows r n (f k)) m (f 0 0 0)) (f k)
          (elements_list l to aggregations (r * n) (λ k. rows r n (f k)) (λ k. length-rows r (f k) n) h (f 0 0 0) k b)
          (λ i m p q. row-cell r (f k) n i m (f 0 0 0) p q)

      as_rows : (k : ℕ → Element) → table (r * n) k ≡ rows r n (λ i m. k (i * n + m))
      as_rows k = unfold rows in table-rows r n k

      all : rows aggregations (r * n) one ≡ cat aggregations (λ k. rows r n (added k))
      all = whole ∙ cat_ext aggregations (λ k. table (r * n) (one k)) (λ k. rows r n (added k)) (λ k b.
          as_rows (one k) ∙ rows_ext r n (λ i m. one k (i * n + m)) (added k) (λ i m p q. ap (λ x. x ⊕ g k (i * n + m)) (stored k b i m p q)))
        where
          whole : rows aggregations (r * n) one ≡ cat aggregations (λ k. table (r * n) (one k))
          whole = unfold rows in refl
