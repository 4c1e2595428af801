-- Lists of words and the elements that they stand for: what sums and products of such lists are the words of.
use mathlib.Core.Path.{◌≡◌, sym, ap, ap₂, ◌∙◌}
use mathlib.Core.List.{List}
use Prim.Native.Nat.{ℕ, ◌+◌, ◌*◌}
use Rattle.math.specs.algebra.Ops as Ops
use Rattle.math.proofs.algebra.Sum.{sum-suc}
use Rattle.spec_leaves.specs.Rq.{Element, rzero, radd, rmul}
use Rattle.spec_leaves.specs.Ring.{RqOps, words, element}
use Rattle.spec_leaves.proofs.Bridge.{words-element, element-words, radd-element, rmul-element, element-radd, element-rmul, words-nil}
use Rattle.ring_inner_product.specs.Run.{run}
use Rattle.spec_protocol.specs.Formulas.{◌⊕◌, ◌⊗◌, sum, dot}
use Rattle.ring_rq_matrix.specs.Region.{vector}
use Rattle.ring_rq_matrix.proofs.Place.{run-vector, run-column, dot-vectors}

-- the words of an element stand for it
pub stands_for : (l : List ℕ) (e : Element) → l ≡ words e → element l ≡ e
stands_for l e h = ap element h ∙ element-words e

-- a sum of lists that stand for x and y
pub words_of-sum : (l a b : List ℕ) (x y : Element) → l ≡ radd a b → element a ≡ x → element b ≡ y → l ≡ words (x ⊕ y)
words_of-sum l a b x y h p q = h ∙ sym (words-element (radd a b) (radd-element a b)) ∙ ap words (element-radd a b ∙ ap₂ ◌⊕◌ p q)

-- a product of lists that stand for x and y
pub words_of_product : (l a b : List ℕ) (x y : Element) → l ≡ rmul a b → element a ≡ x → element b ≡ y → l ≡ words (x ⊗ y)
words_of_product l a b x y h p q = h ∙ sym (words-element (rmul a b) (rmul-element a b)) ∙ ap words (element-rmul a b ∙ ap₂ ◌⊗◌ p q)

-- the sum of no terms
pub total-none : (l : List ℕ) (f : ℕ → Element) → l ≡ rzero → l ≡ words (sum 0 f)
unfolding Ops.sum
total-none l f h = h ∙ sym words-nil

-- one more term
pub total-next : (l t e : List ℕ) (i : ℕ) (f : ℕ → Element) → l ≡ radd t e → t ≡ words (sum i f) → element e ≡ f i → l ≡ words (sum (i + 1) f)
total-next l t e i f h p q = words_of-sum l t e (sum i f) (f i) h (stands_for t (sum i f) p) q ∙ ap words (sym (sum-suc RqOps i f))

-- one more term that is a product
pub total_product-next : (l t e a b : List ℕ) (i : ℕ) (f g : ℕ → Element) → l ≡ radd t e → e ≡ rmul a b → t ≡ words (sum i (λ k. f k ⊗ g k)) → element a ≡ f i → element b ≡ g i
    → l ≡ words (sum (i + 1) (λ k. f k ⊗ g k))
total_product-next l t e a b i f g h m p x y = total-next l t e i (λ k. f k ⊗ g k) h p (stands_for e (f i ⊗ g i) (words_of_product e a b (f i) (g i) m x y))

-- the words of an inner product with vector i, from the place where it stands
pub words_of-vector : (l ws : List ℕ) (at n i place : ℕ) (y : ℕ → Element) → l ≡ words (dot n (run ws place 64) y) → place ≡ at + 64 * (i * n) → l ≡ words (dot n (vector ws at n i) y)
words_of-vector l ws at n i place y h p = h ∙ ap (λ f. words (dot n f y)) (run-vector ws at n i place p)

-- the words of an inner product of two vectors, from the places where they stand
pub words_of-vectors : (l x : List ℕ) (x-at i p : ℕ) (y : List ℕ) (y-at j q n : ℕ) → l ≡ words (dot n (run x p 64) (run y q 64)) → p ≡ x-at + 64 * (i * n) → q ≡ y-at + 64 * (j * n)
    → l ≡ words (dot n (vector x x-at n i) (vector y y-at n j))
words_of-vectors l x x-at i p y y-at j q n h e f = h ∙ ap words (dot-vectors x x-at i p y y-at j q n e f)

-- the words of an inner product with element k of each vector
pub words_of-column : (l ws : List ℕ) (at n k r : ℕ) (y : ℕ → Element) → l ≡ words (dot r (run ws (at + 64 * k) (64 * n)) y) → l ≡ words (sum r (λ i. vector ws at n i k ⊗ y i))
unfolding Ops.dot
words_of-column l ws at n k r y h = h ∙ ap (λ f. words (dot r f y)) (run-column ws at n k)
