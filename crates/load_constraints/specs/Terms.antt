-- The terms of a constraint's left side, in the order in which they are added.
use Rattle.std.specs.Prelude.{cond, List, ℕ, ◌+◌, ◌*◌, ltb}
use Rattle.math.specs.algebra.Ops.{form}
use Rattle.spec_leaves.specs.Rq.{Element}
use Rattle.spec_leaves.specs.Ring.{RqOps}
use Rattle.spec_protocol.specs.Parameters.{triangular}
use Rattle.spec_protocol.specs.Views.{element_at, cell}
use Rattle.spec_protocol.specs.Formulas.{◌⊕◌, sum}
use Rattle.ring_rq_matrix.specs.Region.{vector, gram}
use Rattle.load_constraints.specs.declared.sums.Target.{Target}
use Rattle.load_constraints.specs.Sums.{terms, plus}

-- ⟨s_i, s_j⟩, twice left of the diagonal
abbrev pub weight_of : List ℕ → ℕ → ℕ → ℕ → ℕ → Element
weight_of s at n i j = cond (ltb j i) (gram s at n i j ⊕ gram s at n i j) (gram s at n i j)

-- b0 and b with the same sums added, each of its own constraints: those whose elements stand from one place on, and from another
abbrev pub plus_both : List ℕ → Target → (base0 base : ℕ) → (ℕ → ℕ → Element) → List ℕ
plus_both J t base0 base sums = plus J t (sums base0) (sums base)

-- the first rows of its triangle
abbrev pub rows_of : List ℕ → (base m : ℕ) → List ℕ → (at n r : ℕ) → ℕ → Element
rows_of J base m s at n r x = sum r (λ i. terms J base m (triangular i) (i + 1) (weight_of s at n i) x)

-- its left side: triangle x of those from a place on, vectors x of those from another on
abbrev pub left_of : List ℕ → (a φ : ℕ) → List ℕ → (at r n : ℕ) → ℕ → Element
left_of J a φ s at r n x =
    form RqOps r n (λ i j. element_at J a (x * triangular r + cell i j)) (λ i m. element_at J φ ((x * r + i) * n + m)) (vector s at n)
