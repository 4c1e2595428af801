-- The terms added one after the other are the left sides.
use mathlib.Core.Path.{◌≡◌, sym, ap, ap₂, ◌∙◌}
use mathlib.Core.Bool.{cond}
use mathlib.Core.List.{List}
use Prim.Native.Nat.{ℕ, ◌+◌, ◌*◌, ◌≤◌, ◌<◌}
use native.Mathlib.Omega.{arith}
use borrow.Author.Tests.{lt-ltb, le-ltb}
use lib.Dec.{ltb}
use Rattle.math.specs.algebra.Ops as Ops
use Rattle.math.proofs.algebra.Sum.{sum-suc, sum_ext, sum_rows}
use Rattle.math.proofs.algebra.Dot.{dot_comm, dot-add_right}
use Rattle.spec_leaves.specs.Rq.{Element}
use Rattle.spec_leaves.specs.Ring.{RqOps, element}
use Rattle.spec_leaves.proofs.RqRing.{rq_ring}
use Rattle.spec_protocol.specs.Parameters.{triangular}
use Rattle.spec_protocol.specs.Views.{element_at, cell}
use Rattle.spec_protocol.specs.Formulas.{◌⊕◌, ◌⊗◌, sum, dot, pairs}
use Rattle.ring_rq_matrix.specs.Region.{vector, gram}
use Rattle.ring_rq_matrix.proofs.Place.{rows-within}
use Rattle.ring_rq_matrix.proofs.Mirror.{triangle-by-rows}
use Rattle.load_constraints.specs.declared.sums.Target.{Target}
use Rattle.load_constraints.specs.Sums.{term, terms, plus, Placed, Reduced}
use Rattle.load_constraints.proofs.Plus.{plus-plus, plus_ext, plus_none, read_before, read_between}
use Rattle.load_constraints.specs.Terms.{weight_of, rows_of, left_of}

-- element of constraint x, of count constraints of m elements each
inside : (x count m q : ℕ) → x < count → q < m → x * m + q < count * m
inside x count m q h l = omega (arith, rows-within x count m h)

module _ (J : List ℕ) (t : Target) (base₀ base m : ℕ) (placed : Placed J t base₀ base m) where
  -- nothing added yet
  pub terms-none : (row : ℕ) (ω : ℕ → Element) → Reduced J t → J ≡ plus J t (terms J base₀ m row 0 ω) (terms J base m row 0 ω)
  unfolding Ops.sum
  terms-none row ω reduced = sym (plus_none J t base₀ base m placed reduced)

  pub rows_none : (s : List ℕ) (at n : ℕ) → Reduced J t → J ≡ plus J t (rows_of J base₀ m s at n 0) (rows_of J base m s at n 0)
  unfolding Ops.sum
  rows_none s at n reduced = sym (plus_none J t base₀ base m placed reduced)

  -- one more term
  pub terms-next : (job next : List ℕ) (row j : ℕ) (ω : ℕ → Element) (w : List ℕ) → row + j < m
      → job ≡ plus J t (terms J base₀ m row j ω) (terms J base m row j ω)
      → next ≡ plus job t (term job base₀ m (row + j) w) (term job base m (row + j) w)
      → element w ≡ ω j
      → next ≡ plus J t (terms J base₀ m row (j + 1) ω) (terms J base m row (j + 1) ω)
  terms-next job next row j ω w h now added e =
      let F : ℕ → Element = terms J base₀ m row j ω in
      let G : ℕ → Element = terms J base m row j ω in
      added
      ∙ ap (λ l. plus l t (term l base₀ m (row + j) w) (term l base m (row + j) w)) now
      ∙ plus-plus J t base₀ base m placed F G (term (plus J t F G) base₀ m (row + j) w) (term (plus J t F G) base m (row + j) w)
      ∙ plus_ext J t base₀ base m placed (λ x. F x ⊕ term (plus J t F G) base₀ m (row + j) w x) (λ x. G x ⊕ term (plus J t F G) base m (row + j) w x)
      (terms J base₀ m row (j + 1) ω) (terms J base m row (j + 1) ω)
      (λ x l. ap (λ y. F x ⊕ y) (ap₂ ◌⊗◌ (read_before J t base₀ base m placed F G (x * m + (row + j)) (inside x t.l m (row + j) l h)) e)
      ∙ sym (sum-suc RqOps j (λ j. element_at J base₀ (x * m + (row + j)) ⊗ ω j)))
      (λ x l. ap (λ y. G x ⊕ y) (ap₂ ◌⊗◌ (read_between J t base₀ base m placed F G (x * m + (row + j)) (inside x t.k m (row + j) l h)) e)
      ∙ sym (sum-suc RqOps j (λ j. element_at J base (x * m + (row + j)) ⊗ ω j)))

  -- one more row
  pub rows_next : (job next s : List ℕ) (at n i row : ℕ) → triangular i + (i + 1) ≤ m → row ≡ triangular i
      → job ≡ plus J t (rows_of J base₀ m s at n i) (rows_of J base m s at n i)
      → next ≡ plus job t (terms job base₀ m row (i + 1) (weight_of s at n i)) (terms job base m row (i + 1) (weight_of s at n i))
      → next ≡ plus J t (rows_of J base₀ m s at n (i + 1)) (rows_of J base m s at n (i + 1))
  rows_next job next s at n i row h there now added =
      let F : ℕ → Element = rows_of J base₀ m s at n i in
      let G : ℕ → Element = rows_of J base m s at n i in
      let ω : ℕ → Element = weight_of s at n i in
      added
      ∙ ap₂ (λ l q. plus l t (terms l base₀ m q (i + 1) ω) (terms l base m q (i + 1) ω)) now there
      ∙ plus-plus J t base₀ base m placed F G (terms (plus J t F G) base₀ m (triangular i) (i + 1) ω) (terms (plus J t F G) base m (triangular i) (i + 1) ω)
      ∙ plus_ext J t base₀ base m placed (λ x. F x ⊕ terms (plus J t F G) base₀ m (triangular i) (i + 1) ω x) (λ x. G x ⊕ terms (plus J t F G) base m (triangular i) (i + 1) ω x)
      (rows_of J base₀ m s at n (i + 1)) (rows_of J base m s at n (i + 1))
      (λ x l. ap (λ y. F x ⊕ y)
      (sum_ext RqOps (i + 1) (λ j. element_at (plus J t F G) base₀ (x * m + (triangular i + j)) ⊗ ω j) (λ j. element_at J base₀ (x * m + (triangular i + j)) ⊗ ω j)
      (λ j k. ap (λ y. y ⊗ ω j) (read_before J t base₀ base m placed F G (x * m + (triangular i + j)) (inside x t.l m (triangular i + j) l (omega arith)))))
      ∙ sym (sum-suc RqOps i (λ i. terms J base₀ m (triangular i) (i + 1) (weight_of s at n i) x)))
      (λ x l. ap (λ y. G x ⊕ y)
      (sum_ext RqOps (i + 1) (λ j. element_at (plus J t F G) base (x * m + (triangular i + j)) ⊗ ω j) (λ j. element_at J base (x * m + (triangular i + j)) ⊗ ω j)
      (λ j k. ap (λ y. y ⊗ ω j) (read_between J t base₀ base m placed F G (x * m + (triangular i + j)) (inside x t.k m (triangular i + j) l (omega arith)))))
      ∙ sym (sum-suc RqOps i (λ i. terms J base m (triangular i) (i + 1) (weight_of s at n i) x)))

-- row i of a triangle, each term left of the diagonal twice
row_is : (i : ℕ) (a y : ℕ → Element) → sum (i + 1) (λ j. a j ⊗ cond (ltb j i) (y j ⊕ y j) (y j)) ≡ dot i a y ⊕ dot i a y ⊕ a i ⊗ y i
unfolding Ops.dot
row_is i a y =
    sum-suc RqOps i (λ j. a j ⊗ cond (ltb j i) (y j ⊕ y j) (y j))
    ∙ ap₂ ◌⊕◌
    (sum_ext RqOps i (λ j. a j ⊗ cond (ltb j i) (y j ⊕ y j) (y j)) (λ j. a j ⊗ (y j ⊕ y j)) (λ j h. ap (λ b. a j ⊗ cond b (y j ⊕ y j) (y j)) (lt-ltb j i h))
    ∙ dot-add_right RqOps rq_ring i a y y)
    (ap (λ b. a i ⊗ cond b (y i ⊕ y i) (y i)) (le-ltb i i (omega arith)))

-- the rows of a triangle are the sum over all pairs
pub rows_are-pairs : (J : List ℕ) (base m : ℕ) (s : List ℕ) (at n r x : ℕ) → rows_of J base m s at n r x ≡ pairs r (λ i j. element_at J base (x * m + cell i j) ⊗ gram s at n i j)
rows_are-pairs J base m s at n r x =
    let a : ℕ → Element = λ q. element_at J base (x * m + q) in
    sum_ext RqOps r (λ i. terms J base m (triangular i) (i + 1) (weight_of s at n i) x)
    (λ i. dot i (λ j. a (triangular i + j)) (gram s at n i) ⊕ dot i (λ j. a (triangular i + j)) (gram s at n i) ⊕ a (triangular i + i) ⊗ gram s at n i i)
    (λ i h. row_is i (λ j. a (triangular i + j)) (gram s at n i))
    ∙ sym (triangle-by-rows RqOps rq_ring r a (gram s at n) (λ i j. dot_comm RqOps rq_ring n (vector s at n i) (vector s at n j)))

-- all elements of the vectors are the sum of the vectors' inner products
pub line_is_dots : (J : List ℕ) (base : ℕ) (s : List ℕ) (at n r x : ℕ)
    → terms J base (r * n) 0 (r * n) (element_at s at) x ≡ sum r (λ i. dot n (λ m. element_at J base ((x * r + i) * n + m)) (vector s at n i))
unfolding Ops.dot
line_is_dots J base s at n r x =
    sum_rows RqOps rq_ring r n (λ j. element_at J base (x * (r * n) + (0 + j)) ⊗ element_at s at j)
    ∙ sum_ext RqOps r (λ i. sum n (λ m. element_at J base (x * (r * n) + (0 + (i * n + m))) ⊗ element_at s at (i * n + m)))
    (λ i. sum n (λ m. element_at J base ((x * r + i) * n + m) ⊗ element_at s at (i * n + m)))
    (λ i h. sum_ext RqOps n (λ m. element_at J base (x * (r * n) + (0 + (i * n + m))) ⊗ element_at s at (i * n + m)) (λ m. element_at J base ((x * r + i) * n + m) ⊗ element_at s at (i * n + m))
    (λ m k. ap (λ q. element_at J base q ⊗ element_at s at (i * n + m)) (index i m)))
  where
    index : (i m : ℕ) → x * (r * n) + (0 + (i * n + m)) ≡ (x * r + i) * n + m
    index i m = omega arith

-- triangles and vectors together are the left sides
pub left-added : (J one two : List ℕ) (t : Target) (a₀ a φ₀ φ : ℕ) (s : List ℕ) (at r n : ℕ)
    → Placed J t a₀ a (triangular r)
    → Placed J t φ₀ φ (r * n)
    → one ≡ plus J t (rows_of J a₀ (triangular r) s at n r) (rows_of J a (triangular r) s at n r)
    → two ≡ plus one t (terms one φ₀ (r * n) 0 (r * n) (element_at s at)) (terms one φ (r * n) 0 (r * n) (element_at s at))
    → two ≡ plus J t (left_of J a₀ φ₀ s at r n) (left_of J a φ s at r n)
unfolding Ops.form
left-added J one two t a₀ a φ₀ φ s at r n placed lines first second =
    let T = triangular r in
    let F : ℕ → Element = rows_of J a₀ T s at n r in
    let G : ℕ → Element = rows_of J a T s at n r in
    second
    ∙ ap (λ l. plus l t (terms l φ₀ (r * n) 0 (r * n) (element_at s at)) (terms l φ (r * n) 0 (r * n) (element_at s at))) first
    ∙ plus-plus J t φ₀ φ (r * n) lines F G (terms (plus J t F G) φ₀ (r * n) 0 (r * n) (element_at s at)) (terms (plus J t F G) φ (r * n) 0 (r * n) (element_at s at))
    ∙ plus_ext J t φ₀ φ (r * n) lines
    (λ x. F x ⊕ terms (plus J t F G) φ₀ (r * n) 0 (r * n) (element_at s at) x) (λ x. G x ⊕ terms (plus J t F G) φ (r * n) 0 (r * n) (element_at s at) x)
    (left_of J a₀ φ₀ s at r n) (left_of J a φ s at r n)
    (λ x l. ap₂ ◌⊕◌ (rows_are-pairs J a₀ T s at n r x)
    (sum_ext RqOps (r * n) (λ j. element_at (plus J t F G) φ₀ (x * (r * n) + (0 + j)) ⊗ element_at s at j) (λ j. element_at J φ₀ (x * (r * n) + (0 + j)) ⊗ element_at s at j)
    (λ j k. ap (λ y. y ⊗ element_at s at j) (read_before J t φ₀ φ (r * n) lines F G (x * (r * n) + (0 + j)) (inside x t.l (r * n) (0 + j) l (omega arith))))
    ∙ line_is_dots J φ₀ s at n r x))
    (λ x l. ap₂ ◌⊕◌ (rows_are-pairs J a T s at n r x)
    (sum_ext RqOps (r * n) (λ j. element_at (plus J t F G) φ (x * (r * n) + (0 + j)) ⊗ element_at s at j) (λ j. element_at J φ (x * (r * n) + (0 + j)) ⊗ element_at s at j)
    (λ j k. ap (λ y. y ⊗ element_at s at j) (read_between J t φ₀ φ (r * n) lines F G (x * (r * n) + (0 + j)) (inside x t.k (r * n) (0 + j) l (omega arith))))
    ∙ line_is_dots J φ s at n r x))
