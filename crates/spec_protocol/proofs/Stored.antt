-- Elements stored one after the other: what a loop that fills a region keeps.
use mathlib.Core.Path.{◌≡◌, sym, ap, ◌∙◌}
use mathlib.Core.List.{List, [], ◌∷◌, ◌++◌, append-nil, flat_map}
use Prim.Native.Nat.{ℕ, ◌+◌, ◌*◌, ◌≤◌}
use native.Mathlib.Omega.{arith}
use lib.ListN.{length}
use Rattle.math.specs.lists.Table.{table, cat}
use Rattle.math.specs.lists.Part.{part, splice}
use Rattle.math.proofs.lists.Table.{length-table, table-suc}
use Rattle.math.proofs.lists.Cat.{cat-suc}
use Rattle.math.proofs.lists.Additive.{flat_map_append}
use Rattle.math.proofs.lists.Splice.{splice-nil, splice-append, part-splice-after}
use Rattle.spec_leaves.specs.Rq.{Element}
use Rattle.spec_leaves.specs.Ring.{words}
use Rattle.spec_protocol.specs.Formulas.{flat, rows}
use Rattle.spec_protocol.proofs.Flat.{length-flat, length-rows}

-- the words of two lists of elements joined
pub flat_append : (a b : List Element) → flat (a ++ b) ≡ flat a ++ flat b
unfolding flat flat_map
flat_append a b = flat_map_append words a b

-- the words of one element
pub flat-one : (e : Element) → flat (e ∷ []) ≡ words e
unfolding flat flat_map
flat-one e = append-nil (words e)

-- nothing stored
pub stored-none : (l : List ℕ) (at : ℕ) (f : ℕ → Element) → l ≡ splice l at (flat (table 0 f))
unfolding flat table flat_map
stored-none l at f = sym (splice-nil l at)

-- one more element stored after the first m
pub stored_next : (l before : List ℕ) (at m : ℕ) (f : ℕ → Element) (e : List ℕ) → before ≡ splice l at (flat (table m f)) → e ≡ words (f m)
    → splice before (at + 64 * m) e ≡ splice l at (flat (table (m + 1) f))
stored_next l before at m f e b w =
    ap (λ x. splice x (at + 64 * m) e) b
    ∙ ap (λ n. splice (splice l at (flat (table m f))) (at + n) e) (sym (length-flat (table m f) ∙ ap (λ n. 64 * n) (length-table m f)))
    ∙ splice-append l at (flat (table m f)) e
    ∙ ap (splice l at) (ap (λ x. flat (table m f) ++ x) (w ∙ sym (flat-one (f m))) ∙ sym (flat_append (table m f) (f m ∷ [])) ∙ ap flat (sym (table-suc m f)))

-- all n elements stored
pub stored-all : (l after : List ℕ) (at m n : ℕ) (f : ℕ → Element) → after ≡ splice l at (flat (table m f)) → m ≡ n → after ≡ splice l at (flat (table n f))
stored-all l after at m n f b e = b ∙ ap (λ k. splice l at (flat (table k f))) e

-- what stands after the first m elements is as it was
pub stored-rest : (l after : List ℕ) (at m : ℕ) (f : ℕ → Element) (from n : ℕ) → after ≡ splice l at (flat (table m f)) → at + 64 * m ≤ from → part after from n ≡ part l from n
stored-rest l after at m f from n b h =
    ap (λ x. part x from n) b ∙ part-splice-after 0 l at (flat (table m f)) from n (omega (arith, length-flat (table m f), length-table m f))

-- nothing stored of lists of elements
pub lists-none : (l : List ℕ) (at : ℕ) (f : ℕ → List Element) → l ≡ splice l at (flat (cat 0 f))
unfolding flat cat flat_map
lists-none l at f = sym (splice-nil l at)

-- one more list of elements stored after the first m, which have so many elements together
pub lists-next : (l before : List ℕ) (at m n : ℕ) (f : ℕ → List Element) → before ≡ splice l at (flat (cat m f)) → length (cat m f) ≡ n
    → splice before (at + 64 * n) (flat (f m)) ≡ splice l at (flat (cat (m + 1) f))
lists-next l before at m n f b k =
    ap (λ x. splice x (at + 64 * n) (flat (f m))) b
    ∙ ap (λ j. splice (splice l at (flat (cat m f))) (at + j) (flat (f m))) (sym (length-flat (cat m f) ∙ ap (λ j. 64 * j) k))
    ∙ splice-append l at (flat (cat m f)) (flat (f m))
    ∙ ap (splice l at) (sym (flat_append (cat m f) (f m)) ∙ ap flat (sym (cat-suc m f)))

-- all lists of elements stored
pub lists-all : (l after : List ℕ) (at m n : ℕ) (f : ℕ → List Element) → after ≡ splice l at (flat (cat m f)) → m ≡ n → after ≡ splice l at (flat (cat n f))
lists-all l after at m n f b e = b ∙ ap (λ k. splice l at (flat (cat k f))) e

-- nothing stored of rows of elements
pub rows_none : (l : List ℕ) (at n : ℕ) (f : ℕ → ℕ → Element) → l ≡ splice l at (flat (rows 0 n f))
unfolding rows
rows_none l at n f = lists-none l at (λ i. table n (f i))

-- one more row of n elements stored after the first m
pub rows_next : (l before : List ℕ) (at m n : ℕ) (f : ℕ → ℕ → Element) → before ≡ splice l at (flat (rows m n f))
    → splice before (at + 64 * (m * n)) (flat (table n (f m))) ≡ splice l at (flat (rows (m + 1) n f))
unfolding rows
rows_next l before at m n f b = lists-next l before at m (m * n) (λ i. table n (f i)) b (length-rows m f n)

-- all rows stored
pub rows_all : (l after : List ℕ) (at m r n : ℕ) (f : ℕ → ℕ → Element) → after ≡ splice l at (flat (rows m n f)) → m ≡ r → after ≡ splice l at (flat (rows r n f))
unfolding rows
rows_all l after at m r n f b e = lists-all l after at m r (λ i. table n (f i)) b e
