-- The left sides of the contracts are those of the statement's constraints.
use mathlib.Core.Path.{◌≡◌, refl, ap, ap₂, ◌∙◌, fun_ext}
use mathlib.Core.List.{List}
use Prim.Native.Nat.{ℕ, ◌+◌, ◌*◌}
use native.Mathlib.Omega.{arith}
use Rattle.math.specs.algebra.Ops as Ops
use Rattle.math.specs.algebra.Ops.{form}
use Rattle.math.proofs.algebra.Sum.{sum_rows}
use Rattle.spec_leaves.specs.Rq.{Element}
use Rattle.spec_leaves.specs.Ring.{RqOps, words}
use Rattle.spec_leaves.proofs.RqRing.{rq_ring}
use Rattle.ring_inner_product.specs.Run.{run}
use Rattle.spec_protocol.specs.Parameters.{T}
use Rattle.spec_protocol.specs.Layout.{start, job_sections, witness_sections}
use Rattle.spec_protocol.specs.Views.{public, witness, cell, element_at}
use Rattle.spec_protocol.specs.Formulas.{◌⊗◌, sum, dot, left}
use Rattle.ring_rq_matrix.specs.Region.{vector, triangle_at}
use Rattle.ring_rq_matrix.proofs.Place.{run-from}

-- an inner product over all elements of r vectors is the sum of the vectors' inner products
pub words_of_line : (l x : List ℕ) (x-at : ℕ) (y : List ℕ) (y-at r n : ℕ) → l ≡ words (dot (r * n) (run x x-at 64) (run y y-at 64))
    → l ≡ words (sum r (λ i. dot n (vector x x-at n i) (vector y y-at n i)))
unfolding Ops.dot
words_of_line l x x-at y y-at r n h = h ∙ ap words (sum_rows RqOps rq_ring r n (λ k. run x x-at 64 k ⊗ run y y-at 64 k))

-- constraint k of constraints whose triangles of t cells and whose vectors stand one after the other
constraint_form : (J : List ℕ) (a_at φ-at t r n k : ℕ) (s : ℕ → ℕ → Element)
    → form RqOps r n (triangle_at J (a_at + 64 * (k * t))) (vector J (φ-at + 64 * (k * r * n)) n) s
    ≡ form RqOps r n (λ i j. element_at J a_at (k * t + cell i j)) (λ i m. element_at J φ-at ((k * r + i) * n + m)) s
constraint_form J a_at φ-at t r n k s =
    ap₂ (λ a φ. form RqOps r n a φ s)
    (ap (λ f i j. f (cell i j)) (run-from J a_at (k * t) (a_at + 64 * (k * t)) refl))
    (ap (λ f i m. f (i * n + m)) (run-from J φ-at (k * r * n) (φ-at + 64 * (k * r * n)) refl) ∙ fun_ext (λ i. fun_ext (λ m. ap (run J φ-at 64) (index i m))))
  where
    index : (i m : ℕ) → k * r * n + (i * n + m) ≡ (k * r + i) * n + m
    index i m = omega arith

module _ (J R W : List ℕ) where
  open public J R use {P, a', φ', a, φ}
  open P use {n, r}

  -- ring constraint k
  pub ring_left : (k : ℕ)
      → form RqOps r n (triangle_at J (31 + start (job_sections P) 3 + 64 * (k * T P))) (vector J (31 + start (job_sections P) 4 + 64 * (k * r * n)) n) (vector W (start (witness_sections P) 0) n)
      ≡ left P (a k) (φ k) (witness P W)
  ring_left k = constraint_form J (31 + start (job_sections P) 3) (31 + start (job_sections P) 4) (T P) r n k (witness P W)

  -- constant-term constraint x
  pub constant_left : (x : ℕ)
      → form RqOps r n (triangle_at J (31 + start (job_sections P) 0 + 64 * (x * T P))) (vector J (31 + start (job_sections P) 1 + 64 * (x * r * n)) n) (vector W (start (witness_sections P) 0) n)
      ≡ left P (a' x) (φ' x) (witness P W)
  constant_left x = constraint_form J (31 + start (job_sections P) 0) (31 + start (job_sections P) 1) (T P) r n x (witness P W)
