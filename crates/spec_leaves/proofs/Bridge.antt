-- The words of an element and the element of a list: the definitions on lists always give elements, and their words are those of the ring's operations.
use mathlib.Core.Path.{◌≡◌, sym, ap, ap₂, ◌∙◌}
use mathlib.Core.Bool.{Bool, true, false, cond}
use mathlib.Core.List.{List}
use Prim.Native.Nat.{ℕ, ◌+◌, ◌-◌, ◌*◌, ◌%◌, ◌<◌}
use native.Mathlib.Nat as Nat
use native.Mathlib.Decide.{dec_lt}
use native.Mathlib.Omega.{arith}
use lib.Dec.{eqb}
use lib.ListN.{length, get_or-eq_default}
use Rattle.math.specs.lists.Table.{table}
use Rattle.math.specs.lists.Sum.{Σ}
use Rattle.math.proofs.lists.Table.{is_table, get_or-table, table_ext}
use Rattle.math.specs.algebra.Ops.{sum}
use Rattle.math.proofs.algebra.Sum.{sum_ext, sum-map}
use Rattle.spec_leaves.specs.Zq.{Q, Canonical, zadd, zsub, zneg, zmul}
use Rattle.spec_leaves.specs.Rq.{coeff, Element, rzero, radd, rsub, low, high, rmul, rscale, rconj}
use Rattle.spec_leaves.specs.Ring.{residue, canonical_mod, ZqOps, IsElement, words, table_element, element, RqOps, scale, conj}
use Rattle.spec_leaves.proofs.ZqRing.{residue-Σ, residue-reduced}
use Rattle.spec_leaves.proofs.RqRing.{words_path, coefficient, element_path, coefficient-element, coefficient-table, coefficient-radd, coefficient-rsub}
use Rattle.spec_leaves.proofs.RqRing.{coefficient-rzero, coefficient-neg, coefficient-rscale, coefficient-rmul, residue-low, residue-high}

-- zero is an element
pub rzero-element : IsElement rzero
unfolding rzero
rzero-element = table_element (λ k. 0) (λ k. omega arith)

-- a sum is an element, whatever the lists
pub radd-element : (a b : List ℕ) → IsElement (radd a b)
unfolding radd
radd-element a b = table_element (λ k. zadd (coeff a k) (coeff b k)) (λ k. canonical_mod (coeff a k + coeff b k))

-- a difference is an element, whatever the lists
pub rsub-element : (a b : List ℕ) → IsElement (rsub a b)
unfolding rsub
rsub-element a b = table_element (λ k. zsub (coeff a k) (coeff b k)) (λ k. canonical_mod (coeff a k + (Q - coeff b k % Q)))

-- a product is an element, whatever the lists
pub rmul-element : (a b : List ℕ) → IsElement (rmul a b)
unfolding rmul
rmul-element a b = table_element (λ k. zsub (low a b k) (high a b k)) (λ k. canonical_mod (low a b k + (Q - high a b k % Q)))

-- a multiple is an element, whatever the list and the number
pub rscale-element : (a : List ℕ) (c : ℕ) → IsElement (rscale a c)
unfolding rscale
rscale-element a c = table_element (λ k. zmul (coeff a k) c) (λ k. canonical_mod (coeff a k * c))

-- a conjugate is an element where coefficient 0 is canonical
pub rconj-element : (a : List ℕ) → Canonical (coeff a 0) → IsElement (rconj a)
unfolding rconj
rconj-element a h = table_element (λ k. cond (eqb k 0) (coeff a 0) (zneg (coeff a (64 - k)))) (λ k. either (eqb k 0) (canonical_mod (Q - coeff a (64 - k) % Q)))
  where
    either : (b : Bool) {y : ℕ} → Canonical y → Canonical (cond b (coeff a 0) y)
    either true l = h
    either false l = l

-- a coefficient of an element is canonical; past its 64 it is 0
pub coeff-canonical : (a : Element) (k : ℕ) → Canonical (coeff (words a) k)
coeff-canonical a k = go (dec_lt k (length (words a)))
  where
    go : Dec (k < length (words a)) → Canonical (coeff (words a) k)
    go (yes h) = a.1.1 k h
    go (no h) = rw (get_or-eq_default (words a) 0 {n = k} (omega arith)) (omega arith)

-- a coefficient of the element of a list
pub coeff-element : (a : List ℕ) (j : ℕ) → j < 64 → coeff (words (element a)) j ≡ coeff a j % Q
unfolding element
coeff-element a j h = get_or-table 64 (λ k. coeff a k % Q) j 0 h

-- the words of the element of a list that has an element's words
pub words-element : (l : List ℕ) → IsElement l → words (element l) ≡ l
unfolding element
words-element l h = sym (is_table 64 l (λ k. coeff l k % Q) 0 h.0 (λ k m. sym (Nat.mod-eq_of_lt (h.1 k (rw h.0 m)))))

-- the element of an element's words
pub element-words : (a : Element) → element (words a) ≡ a
element-words a = words_path (element (words a)) a (words-element (words a) a.1)

-- the words of an element whose coefficients are those of a table
pub words-table : (a : Element) (f : ℕ → ℕ) → ((k : ℕ) → Canonical (f k)) → ((k : ℕ) → k < 64 → coefficient a k ≡ residue (f k)) → words a ≡ table 64 f
words-table a f c h = ap words (element_path a (element (table 64 f)) (λ k l. h k l ∙ sym (coefficient-table f k l))) ∙ words-element (table 64 f) (table_element f c)

-- the words of zero
pub words-nil : words RqOps.nil ≡ rzero
words-nil = words-element rzero rzero-element

-- the words of a sum
pub words-add : (a b : Element) → words (RqOps.add a b) ≡ radd (words a) (words b)
words-add a b = words-element (radd (words a) (words b)) (radd-element (words a) (words b))

-- the words of a product
pub words-mul : (a b : Element) → words (RqOps.mul a b) ≡ rmul (words a) (words b)
words-mul a b = words-element (rmul (words a) (words b)) (rmul-element (words a) (words b))

-- the words of a conjugate
pub words-conj : (a : Element) → words (conj a) ≡ rconj (words a)
unfolding conj
words-conj a = words-element (rconj (words a)) (rconj-element (words a) (coeff-canonical a 0))

-- lists whose coefficients agree modulo Q have one element
pub element_agree : (a b : List ℕ) → ((k : ℕ) → k < 64 → coeff a k % Q ≡ coeff b k % Q) → element a ≡ element b
unfolding element
element_agree a b h = words_path (element a) (element b) (table_ext 64 (λ k. coeff a k % Q) (λ k. coeff b k % Q) h)

-- the element of a sum of lists
pub element-radd : (a b : List ℕ) → element (radd a b) ≡ RqOps.add (element a) (element b)
element-radd a b = element_path (element (radd a b)) (RqOps.add (element a) (element b)) (λ k h.
    coefficient-radd a b k h ∙ ap₂ ZqOps.add (sym (coefficient-element a k h)) (sym (coefficient-element b k h)) ∙ sym (coefficient-radd (words (element a)) (words (element b)) k h))

-- the element of a difference of lists
pub element-rsub : (a b : List ℕ) → element (rsub a b) ≡ RqOps.add (element a) (RqOps.neg (element b))
element-rsub a b = element_path (element (rsub a b)) (RqOps.add (element a) (RqOps.neg (element b))) (λ k h.
    coefficient-rsub a b k h
    ∙ ap₂ ZqOps.add (sym (coefficient-element a k h)) (ap ZqOps.neg (sym (coefficient-element b k h)) ∙ sym (coefficient-neg (element b) k h))
    ∙ sym (coefficient-radd (words (element a)) (words (RqOps.neg (element b))) k h))

-- the element of a multiple of a list
pub element-rscale : (a : List ℕ) (c : ℕ) → element (rscale a c) ≡ scale (element a) c
unfolding scale
element-rscale a c = element_path (element (rscale a c)) (scale (element a) c) (λ k h.
    coefficient-rscale a c k h ∙ ap (λ x. ZqOps.mul x (residue c)) (sym (coefficient-element a k h)) ∙ sym (coefficient-rscale (words (element a)) c k h))

-- the element of a product of lists
pub element-rmul : (a b : List ℕ) → element (rmul a b) ≡ RqOps.mul (element a) (element b)
element-rmul a b = element_path (element (rmul a b)) (RqOps.mul (element a) (element b)) (λ k h.
    coefficient-rmul a b k h
    ∙ ap₂ (λ x y. ZqOps.add x (ZqOps.neg y)) (residue-low a b k ∙ lows k h ∙ sym (residue-low (words (element a)) (words (element b)) k))
    (residue-high a b k ∙ highs k h ∙ sym (residue-high (words (element a)) (words (element b)) k))
    ∙ sym (coefficient-rmul (words (element a)) (words (element b)) k h))
  where
    lows : (k : ℕ) → k < 64 → sum ZqOps (k + 1) (λ i. ZqOps.mul (residue (coeff a i)) (residue (coeff b (k - i)))) ≡ sum ZqOps (k + 1)
        (λ i. ZqOps.mul (coefficient (element a) i) (coefficient (element b) (k - i)))
    lows k h = sum_ext ZqOps (k + 1) (λ i. ZqOps.mul (residue (coeff a i)) (residue (coeff b (k - i)))) (λ i. ZqOps.mul (coefficient (element a) i) (coefficient (element b) (k - i)))
        (λ i l. ap₂ ZqOps.mul (sym (coefficient-element a i (omega arith))) (sym (coefficient-element b (k - i) (omega arith))))

    highs : (k : ℕ) → k < 64 → sum ZqOps (63 - k) (λ i. ZqOps.mul (residue (coeff a (k + 1 + i))) (residue (coeff b (63 - i)))) ≡ sum ZqOps (63 - k)
        (λ i. ZqOps.mul (coefficient (element a) (k + 1 + i)) (coefficient (element b) (63 - i)))
    highs k h = sum_ext ZqOps (63 - k) (λ i. ZqOps.mul (residue (coeff a (k + 1 + i))) (residue (coeff b (63 - i))))
        (λ i. ZqOps.mul (coefficient (element a) (k + 1 + i)) (coefficient (element b) (63 - i)))
        (λ i l. ap₂ ZqOps.mul (sym (coefficient-element a (k + 1 + i) (omega arith))) (sym (coefficient-element b (63 - i) (omega arith))))

-- the words of a difference
pub words-sub : (a b : Element) → words (RqOps.add a (RqOps.neg b)) ≡ rsub (words a) (words b)
words-sub a b =
    ap₂ (λ x y. words (RqOps.add x (RqOps.neg y))) (sym (element-words a)) (sym (element-words b))
    ∙ ap words (sym (element-rsub (words a) (words b)))
    ∙ words-element (rsub (words a) (words b)) (rsub-element (words a) (words b))

-- the coefficients of a finite sum
pub coefficient-sum : (n : ℕ) (f : ℕ → Element) (k : ℕ) → k < 64 → coefficient (sum RqOps n f) k ≡ sum ZqOps n (λ i. coefficient (f i) k)
coefficient-sum n f k h = sum-map RqOps ZqOps (λ a. coefficient a k) (coefficient-rzero k h) (λ a b. coefficient-radd (words a) (words b) k h) n f

-- the words of a finite sum: each coefficient summed over the natural numbers and reduced once
pub words-sum : (n : ℕ) (f : ℕ → Element) → words (sum RqOps n f) ≡ table 64 (λ k. Σ n (λ i. coeff (words (f i)) k) % Q)
words-sum n f = words-table (sum RqOps n f) (λ k. Σ n (λ i. coeff (words (f i)) k) % Q) (λ k. canonical_mod (Σ n (λ i. coeff (words (f i)) k)))
    (λ k h. coefficient-sum n f k h ∙ sym (residue-Σ n (λ i. coeff (words (f i)) k)) ∙ sym (residue-reduced (Σ n (λ i. coeff (words (f i)) k))))
