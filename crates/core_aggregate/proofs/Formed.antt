-- b'' over two triangles and the vectors of a region: stores after them leave it, and it is what the protocol's formula says.
use mathlib.Core.Path.{◌≡◌, refl, ap, ap₂, ◌∙◌}
use mathlib.Core.List.{List}
use Prim.Native.Nat.{ℕ, ◌+◌, ◌*◌, ◌≤◌}
use Rattle.math.specs.lists.Part.{splice}
use Rattle.math.specs.algebra.Ops as Ops
use Rattle.math.proofs.algebra.Sum.{sum_ext, sum_rows}
use Rattle.math.proofs.algebra.Dot.{dot_ext}
use Rattle.math.proofs.algebra.Form.{pairs_ext}
use Rattle.spec_leaves.specs.Rq.{Element}
use Rattle.spec_leaves.specs.Ring.{RqOps}
use Rattle.spec_leaves.proofs.RqRing.{rq_ring}
use Rattle.spec_protocol.specs.Parameters.{Parameters, parameters, triangular}
use Rattle.spec_protocol.specs.Layout.{start, witness_sections}
use Rattle.spec_protocol.specs.Views.{Public, public, element_at, cell, witness}
use Rattle.spec_protocol.specs.Formulas as F
use Rattle.spec_protocol.specs.Formulas.{sum, dot, ◌⊕◌, ◌⊗◌, a'', φ'', b''}
use Rattle.spec_protocol.proofs.Region.{Triangle, Vectors, elements_before, triangle_of}
use Rattle.core_aggregate.specs.Weighed.{formed}

-- a triangle before a store
pub cells_before : (l : List ℕ) (at r to : ℕ) (new : List ℕ) → at + 64 * triangular r ≤ to → Triangle (splice l to new) at r (λ i j. element_at l at (cell i j))
cells_before l at r to new h =
    triangle_of (splice l to new) at r (element_at l at) (λ i j. element_at l at (cell i j)) (elements_before l at (triangular r) (element_at l at) to new h (λ m k. refl)) (λ i j p q. refl)

module _ (l : List ℕ) (a g φ r n : ℕ) (W : List ℕ) (s to : ℕ) (new : List ℕ) (ha : a + 64 * triangular r ≤ to) (hg : g + 64 * triangular r ≤ to) (hφ : φ + 64 * (r * n) ≤ to) where
  formed-splice : formed (splice l to new) a g φ r n W s ≡ formed l a g φ r n W s
  unfolding formed
  formed-splice =
      ap₂ ◌⊕◌
      (pairs_ext RqOps r (λ i j. element_at (splice l to new) a (cell i j) ⊗ element_at (splice l to new) g (cell i j)) (λ i j. element_at l a (cell i j) ⊗ element_at l g (cell i j))
      (λ i j p q. ap₂ ◌⊗◌ (cells_before l a r to new ha i j p q) (cells_before l g r to new hg i j p q)))
      (dot_ext RqOps (r * n) (element_at (splice l to new) φ) (element_at l φ) (element_at W s) (element_at W s)
      (elements_before l φ (r * n) (element_at l φ) to new hφ (λ m k. refl)) (λ m k. refl))

  -- what lies before a store keeps its elements
  pub formed-before : (after : List ℕ) → after ≡ splice l to new → formed after a g φ r n W s ≡ formed l a g φ r n W s
  formed-before after e = ap (λ x. formed x a g φ r n W s) e ∙ formed-splice

-- the inner product of r vectors of n elements with r others that stand one after the other
pub line_is : (words : List ℕ) (φ r n : ℕ) (f : ℕ → ℕ → Element) (W : List ℕ) (s : ℕ) → Vectors words φ r n f
    → dot (r * n) (element_at words φ) (element_at W s) ≡ sum r (λ i. dot n (f i) (λ m. element_at W s (i * n + m)))
unfolding Ops.dot
line_is words φ r n f W s v =
    sum_rows RqOps rq_ring r n (λ c. element_at words φ c ⊗ element_at W s c)
    ∙ sum_ext RqOps r (λ i. sum n (λ m. element_at words φ (i * n + m) ⊗ element_at W s (i * n + m))) (λ i. sum n (λ m. f i m ⊗ element_at W s (i * n + m)))
    (λ i p. sum_ext RqOps n (λ m. element_at words φ (i * n + m) ⊗ element_at W s (i * n + m)) (λ m. f i m ⊗ element_at W s (i * n + m)) (λ m q. ap (λ x. x ⊗ element_at W s (i * n + m)) (v i m p q)))

module _ (J R W : List ℕ) where
  abbrev P : Parameters
  P = parameters J

  abbrev X : Public
  X = public J R

  -- of a triangle a''_k, the triangle g and vectors φ''_k
  pub b''_is : (S : List ℕ) (a g φ k : ℕ) → Triangle S a P.r (a'' X k) → Triangle S g P.r (F.g X (witness P W)) → Vectors S φ P.r P.n (φ'' X k)
      → formed S a g φ P.r P.n W (start (witness_sections P) 0) ≡ b'' X (witness P W) k
  unfolding formed b'' F.g Ops.form
  b''_is S a g φ k ta tg v =
      ap₂ ◌⊕◌
      (pairs_ext RqOps P.r (λ i j. element_at S a (cell i j) ⊗ element_at S g (cell i j)) (λ i j. a'' X k i j ⊗ dot P.n (witness P W i) (witness P W j))
      (λ i j p q. ap₂ ◌⊗◌ (ta i j p q) (tg i j p q)))
      (line_is S φ P.r P.n (φ'' X k) W (start (witness_sections P) 0) v)
