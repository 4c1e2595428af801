-- One more number or element of the sums, and the constant coefficient of a product from its 64 products.
use mathlib.Core.Path.{◌≡◌, refl, sym, ap, ap₂, ◌∙◌}
use mathlib.Core.Bool.{Bool, true, false, cond}
use mathlib.Core.List.{List}
use Prim.Native.Nat.{ℕ, ◌+◌, ◌-◌, ◌*◌, ◌%◌, ◌≤◌, ◌<◌}
use native.Mathlib.Omega.{arith}
use borrow.Author.Tests.{eqb-false}
use lib.Dec.{eqb}
use lib.ListN.{length, get_or, set}
use Rattle.math.specs.lists.Table.{table}
use Rattle.math.specs.lists.Part.{part, splice}
use Rattle.math.proofs.lists.Sum.{Σ_ext, Σ-mod_ext}
use Rattle.math.proofs.lists.Table.{length-table, get_or-table, table_ext}
use Rattle.math.proofs.lists.Fill.{splice-table-next}
use Rattle.math.proofs.lists.Splice.{get_or-splice-before, get_or-splice-after, part-splice-before, part-splice-after, get_d_part}
use Rattle.spec_leaves.specs.Zq.{Q, zadd, zneg}
use Rattle.spec_leaves.specs.Rq.{Element, coeff, conj_coeff, rconj, radd, rmul}
use Rattle.spec_leaves.specs.Ring.{words, element, conj}
use Rattle.spec_leaves.proofs.Modulo.{mul-mod-both}
use Rattle.spec_leaves.proofs.RqRing.{rq_ring}
use Rattle.spec_leaves.proofs.Bridge.{words-mul, words-conj, coeff-element}
use Rattle.spec_leaves.proofs.Conjugate.{conj-conj, conj-mul-word}
use Rattle.spec_protocol.specs.Views.{element_at}
use Rattle.spec_protocol.specs.Formulas.{◌⊕◌, ◌⊗◌, flat}
use Rattle.spec_protocol.proofs.Stored.{stored-rest}
use Rattle.ring_rq_matrix.proofs.Place.{rows-within}
use Rattle.ring_rq_matrix.proofs.Word.{stands_for, words_of-sum, words_of_product}
use Rattle.ring_rq_matrix.proofs.Fill.{fill_next}
use Rattle.load_constraints.specs.declared.sums.Target.{Target}
use Rattle.load_constraints.specs.Sums.{dot_at, term, plus, Placed}

-- reduced again
reduced_again : (x : ℕ) → x % Q % Q ≡ x % Q
reduced_again x = omega arith

negative_again : (x : ℕ) → zneg (x % Q) ≡ zneg x
negative_again x = ap (λ y. (Q - y) % Q) (reduced_again x)

-- so is one of the conjugate
conj_coeff_lem : (l : List ℕ) (i : ℕ) → i < 64 → coeff (rconj (words (element l))) i % Q ≡ coeff (rconj l) i % Q
unfolding rconj
conj_coeff_lem l i h =
    ap (λ w. w % Q) (get_or-table 64 (conj_coeff (words (element l))) i 0 h) ∙ go (eqb i 0) refl ∙ ap (λ w. w % Q) (sym (get_or-table 64 (conj_coeff l) i 0 h))
  where
    below : (i ≡ 0 → ⊥) → 64 - i < 64
    below n = omega arith

    go : (b : Bool) → eqb i 0 ≡ b → cond b (coeff (words (element l)) 0) (zneg (coeff (words (element l)) (64 - i))) % Q ≡ cond b (coeff l 0) (zneg (coeff l (64 - i))) % Q
    go true e = ap (λ w. w % Q) (coeff-element l 0 (omega arith)) ∙ reduced_again (coeff l 0)
    go false e = ap (λ w. zneg w % Q) (coeff-element l (64 - i) (below (eqb-false i 0 e))) ∙ ap (λ w. w % Q) (negative_again (coeff l (64 - i)))

-- the constant coefficient of a product: the products of the conjugate's coefficients with the other's, added up
pub constant_product : (J : List ℕ) (p : ℕ) (w : List ℕ) → dot_at (rconj w) J p ≡ coeff (words (element (part J p 64) ⊗ element w)) 0
constant_product J p w =
    let a = element w in
    let b = element (part J p 64) in
    Σ-mod_ext 64 Q (λ i. coeff (rconj w) i * get_or J (p + i) 0) (λ i. coeff (words (conj a)) i * coeff (words b) i)
    (λ i h.
    sym (mul-mod-both Q (coeff (rconj w) i) (get_or J (p + i) 0))
    ∙ ap₂ (λ x y. (x * y) % Q)
    (sym (conj_coeff_lem w i h) ∙ ap (λ l. coeff l i % Q) (sym (words-conj a)))
    (ap (λ x. x % Q) (sym (get_d_part 0 J p 64 i h)) ∙ sym (reduced_again (coeff (part J p 64) i)) ∙ ap (λ x. x % Q) (sym (coeff-element (part J p 64) i h)))
    ∙ mul-mod-both Q (coeff (words (conj a)) i) (coeff (words b) i))
    ∙ sym (conj-mul-word (conj a) b)
    ∙ ap (λ l. coeff (rmul l (words b)) 0) (sym (words-conj (conj a)) ∙ ap words (conj-conj a))
    ∙ ap (λ l. coeff l 0) (sym (words-mul a b))
    ∙ ap (λ e. coeff (words e) 0) (rq_ring.mul_comm a b)

-- element `cell` of constraint k ends before the sums
pub cell-before : (base m cell count to k : ℕ) → base + 64 * (count * m) ≤ to → cell < m → k < count → base + 64 * (k * m + cell) + 64 ≤ to
cell-before base m cell count to k h l below = omega (arith, rows-within k count m below)

module _ (J job : List ℕ) (base m cell count to k at : ℕ) (placed : base + 64 * (count * m) ≤ to) (inside : cell < m) (below : k < count) (there : at ≡ base + 64 * (k * m + cell)) where
  -- one more element
  pub element-next : (w : List ℕ) (place : ℕ) (x y p e next : List ℕ)
      → job ≡ splice J to (flat (table k (λ i. element_at J to i ⊕ term J base m cell w i)))
      → place ≡ to + 64 * k
      → x ≡ part job place 64
      → y ≡ part job at 64
      → p ≡ rmul y w
      → e ≡ radd x p
      → next ≡ splice job place e
      → next ≡ splice J to (flat (table (k + 1) (λ i. element_at J to i ⊕ term J base m cell w i)))
  element-next w place x y p e next now here read other product sum stored =
      let f : ℕ → Element = λ i. element_at J to i ⊕ term J base m cell w i in
      let old = ap element (read ∙ ap (λ q. part job q 64) here ∙ stored-rest J job to k f (to + 64 * k) 64 now (omega arith)) in
      let one = ap element (other ∙ ap₂ (λ l q. part l q 64) now there
      ∙ part-splice-before 0 J to (flat (table k f)) (base + 64 * (k * m + cell)) 64 (cell-before base m cell count to k placed inside below)) in
      fill_next J to job next e k place f now here
      (words_of-sum e x p (element_at J to k) (term J base m cell w k) sum old
      (stands_for p (term J base m cell w k) (words_of_product p y w (element_at J base (k * m + cell)) (element w) product one refl)))
      stored

  -- one more number
  pub number-next : (c : List ℕ) (v : ℕ)
      → job ≡ splice J to (table k (λ x. zadd (get_or J (to + x) 0) (dot_at c J (base + 64 * (x * m + cell)))))
      → v ≡ zadd (get_or job (to + k) 0) (dot_at c job at)
      → set job (to + k) v ≡ splice J to (table (k + 1) (λ x. zadd (get_or J (to + x) 0) (dot_at c J (base + 64 * (x * m + cell)))))
  number-next c v now e =
      let f : ℕ → ℕ = λ x. zadd (get_or J (to + x) 0) (dot_at c J (base + 64 * (x * m + cell))) in
      ap (λ l. set l (to + k) v) now
      ∙ splice-table-next J to k f v
      (e
      ∙ ap₂ (λ l q. zadd (get_or l (to + k) 0) (dot_at c l q)) now there
      ∙ ap₂ zadd
      (get_or-splice-after J to (table k f) (to + k) 0 (omega (arith, length-table k f)))
      (ap (λ n. n % Q) (Σ_ext 64 (λ i. coeff c i * get_or (splice J to (table k f)) (base + 64 * (k * m + cell) + i) 0) (λ i. coeff c i * get_or J (base + 64 * (k * m + cell) + i) 0)
      (λ i h. ap (λ w. coeff c i * w) (get_or-splice-before J to (table k f) (base + 64 * (k * m + cell) + i) 0 (omega (arith, cell-before base m cell count to k placed inside below)))))))

-- both sums of one term
pub term_added : (J one two : List ℕ) (t : Target) (base₀ base m cell : ℕ) (w c : List ℕ)
    → Placed J t base₀ base m
    → cell < m
    → c ≡ rconj w
    → one ≡ splice J t.b0_at (table t.l (λ x. zadd (get_or J (t.b0_at + x) 0) (dot_at c J (base₀ + 64 * (x * m + cell)))))
    → two ≡ splice one t.b_at (flat (table t.k (λ k. element_at one t.b_at k ⊕ term one base m cell w k)))
    → two ≡ plus J t (term J base₀ m cell w) (term J base m cell w)
unfolding plus
term_added J one two t base₀ base m cell w c placed inside conjugate first second =
    let numbers : List ℕ = table t.l (λ x. zadd (get_or J (t.b0_at + x) 0) (dot_at c J (base₀ + 64 * (x * m + cell)))) in
    let size : length numbers ≡ t.l = length-table t.l (λ x. zadd (get_or J (t.b0_at + x) 0) (dot_at c J (base₀ + 64 * (x * m + cell)))) in
    second
    ∙ ap (λ l. splice l t.b_at (flat (table t.k (λ k. element_at l t.b_at k ⊕ term l base m cell w k)))) first
    ∙ ap₂ (λ a b. splice (splice J t.b0_at a) t.b_at (flat b))
    (table_ext t.l (λ x. zadd (get_or J (t.b0_at + x) 0) (dot_at c J (base₀ + 64 * (x * m + cell)))) (λ x. zadd (get_or J (t.b0_at + x) 0) (coeff (words (term J base₀ m cell w x)) 0))
    (λ x h. ap (zadd (get_or J (t.b0_at + x) 0)) (ap (λ c. dot_at c J (base₀ + 64 * (x * m + cell))) conjugate ∙ constant_product J (base₀ + 64 * (x * m + cell)) w)))
    (table_ext t.k (λ k. element_at (splice J t.b0_at numbers) t.b_at k ⊕ term (splice J t.b0_at numbers) base m cell w k) (λ k. element_at J t.b_at k ⊕ term J base m cell w k)
    (λ k h. ap₂ (λ a b. a ⊕ (b ⊗ element w))
    (ap element (part-splice-after 0 J t.b0_at numbers (t.b_at + 64 * k) 64 (omega (arith, placed))))
    (ap element (part-splice-after 0 J t.b0_at numbers (base + 64 * (k * m + cell)) 64 (omega (arith, placed))))))
