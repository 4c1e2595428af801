-- What the functions of this crate store is what the protocol's formulas say, of any job J and randomness R.
use mathlib.Core.Path.{◌≡◌, refl, sym, ap, ap₂, ◌∙◌}
use mathlib.Core.List.{List}
use Prim.Native.Nat.{ℕ, ◌+◌, ◌*◌, ◌≤◌, ◌<◌}
use native.Mathlib.Omega.{arith}
use lib.ListN.{length, get_or}
use Rattle.math.specs.lists.Table.{table}
use Rattle.math.specs.lists.Part.{part, splice}
use Rattle.math.specs.algebra.Ops as Ops
use Rattle.math.proofs.algebra.Ring.{add_comm}
use Rattle.math.proofs.algebra.Sum.{sum_ext}
use Rattle.math.proofs.algebra.Dot.{dot_ext}
use Rattle.spec_leaves.specs.Rq.{Element}
use Rattle.spec_leaves.specs.Ring.{RqOps, element, scale}
use Rattle.spec_leaves.proofs.RqRing.{rq_ring}
use Rattle.ring_inner_product.specs.declared.Strided.{Strided}
use Rattle.ring_inner_product.specs.Run.{run, strided, further}
use Rattle.core_jl_transpose.specs.Omega.{omega_element}
use Rattle.core_jl_transpose.proofs.Formula.{φ''-parts}
use Rattle.spec_protocol.specs.Parameters.{Parameters, parameters, T}
use Rattle.spec_protocol.specs.Layout.{start, job_sections, randomness_sections}
use Rattle.spec_protocol.specs.Views.{Public, public, element_at, cell}
use Rattle.spec_protocol.specs.Formulas.{flat, sum, ◌⊕◌, ◌⊗◌, a'', φ'', a_sum, φ_sum, b_sum}
use Rattle.spec_protocol.proofs.Region.{Triangle, Vectors, elements_stored, vectors_of}
use Rattle.core_aggregate_psi.specs.Grid.{weighed}
use Rattle.core_aggregate.specs.Weighed.{both, mixed, mixed_words, rows_at}

-- the place of element c of constraint x, constraints having so many elements
constraint_place : (at c width x : ℕ) → at + 64 * c + 64 * width * x ≡ at + 64 * (x * width + c)
constraint_place at c width x = omega arith

-- the same where the elements are vectors'
vector-place : (at i m r n x : ℕ) → at + 64 * (i * n + m) + 64 * (r * n) * x ≡ at + 64 * ((x * r + i) * n + m)
vector-place at i m r n x = omega arith

-- the places of a region's row k
row-place : (at c width k : ℕ) → at + 64 * c + 64 * width * k ≡ at + 64 * (k * width) + 64 * c
row-place at c width k = omega arith

-- the place of number x of row k
number-place : (at count k x : ℕ) → at + k * count + x ≡ at + (k * count + x)
number-place at count k x = omega arith

-- elements a weighed by alpha and elements b weighed by beta
mixed_is : (C : List ℕ) (x : Strided) (weights : List ℕ) (alpha beta : ℕ) (S : List ℕ) (y : Strided) (a b : ℕ → Element)
    → ((k : ℕ) → k < x.count → strided C x k ≡ a k) → ((k : ℕ) → k < y.count → strided S y k ≡ b k)
    → mixed C x weights alpha beta S y ≡ sum x.count (λ k. element_at weights alpha k ⊗ a k) ⊕ sum y.count (λ k. element_at weights beta k ⊗ b k)
unfolding mixed Ops.dot
mixed_is C x weights alpha beta S y a b p q =
    ap₂ ◌⊕◌
    (dot_ext RqOps x.count (run weights alpha 64) (run weights alpha 64) (strided C x) a (λ k l. refl) p)
    (dot_ext RqOps y.count (run weights beta 64) (run weights beta 64) (strided S y) b (λ k l. refl) q)

-- where the words of the job's section m after the parameters start
abbrev pub job_at : List ℕ → ℕ → ℕ
job_at J m = 31 + start (job_sections (parameters J)) m

-- where the words of the randomness's section m start, by the job's parameters
abbrev pub randomness_at : List ℕ → ℕ → ℕ
randomness_at J m = start (randomness_sections (parameters J)) m

module _ (J R : List ℕ) where
  abbrev P : Parameters
  P = parameters J

  abbrev X : Public
  X = public J R

  -- cell (i, j) of the constant-term triangles weighed by row k of psi
  pub a''_is : (k i j : ℕ) → weighed J (job_at J 0) (T P) P.l R (randomness_at J 1 + k * P.l) (cell i j) ≡ a'' X k i j
  unfolding weighed a''
  a''_is k i j =
      sum_ext RqOps P.l (λ x. scale (run J (job_at J 0 + 64 * cell i j) (64 * T P) x) (get_or R (randomness_at J 1 + k * P.l + x) 0)) (λ x. scale (X.a' x i j) (X.psi k x))
      (λ x h. ap₂ (λ place aggregations. scale (element (part J place 64)) (get_or R aggregations 0)) (constraint_place (job_at J 0) (cell i j) (T P) x) (number-place (randomness_at J 1) P.l k x))

  -- element m of vector i of the constant-term vectors weighed by row k of psi
  pub psi_is : (k i m : ℕ) → weighed J (job_at J 1) (P.r * P.n) P.l R (randomness_at J 1 + k * P.l) (i * P.n + m) ≡ sum P.l (λ x. scale (X.φ' x i m) (X.psi k x))
  unfolding weighed
  psi_is k i m =
      sum_ext RqOps P.l (λ x. scale (run J (job_at J 1 + 64 * (i * P.n + m)) (64 * (P.r * P.n)) x) (get_or R (randomness_at J 1 + k * P.l + x) 0)) (λ x. scale (X.φ' x i m) (X.psi k x))
      (λ x h. ap₂ (λ place aggregations. scale (element (part J place 64)) (get_or R aggregations 0)) (vector-place (job_at J 1) i m P.r P.n x) (number-place (randomness_at J 1) P.l k x))

  -- element m of vector i of both parts of φ''
  pub φ''_is : (k i m : ℕ) → both J (job_at J 1) P.r P.n P.l R (randomness_at J 0) (randomness_at J 1 + k * P.l) (randomness_at J 2 + k * 256) i m ≡ φ'' X k i m
  unfolding both
  φ''_is k i m =
      ap (λ e. omega_element R (randomness_at J 0 + i * 256 * (64 * P.n)) (randomness_at J 2 + k * 256) P.n m ⊕ e) (psi_is k i m)
      ∙ add_comm RqOps rq_ring (omega_element R (randomness_at J 0 + i * 256 * (64 * P.n)) (randomness_at J 2 + k * 256) P.n m) (sum P.l (λ x. scale (X.φ' x i m) (X.psi k x)))
      ∙ sym (φ''-parts J R i k m)

  -- cell (i, j) of a'' and the ring constraints' triangles mixed, of a region whose triangle k is a''_k
  pub a_sum_is : (S : List ℕ) (at : ℕ) → ((k : ℕ) → k < P.L → Triangle S (at + 64 * (k * T P)) P.r (a'' X k)) → (i j : ℕ) → i < P.r → j < P.r
      → mixed J (further (rows_at (job_at J 3) (T P) P.K) (cell i j)) R (randomness_at J 3) (randomness_at J 4) S (further (rows_at at (T P) P.L) (cell i j)) ≡ a_sum X i j
  unfolding a_sum
  a_sum_is S at h i j p q =
      mixed_is J (further (rows_at (job_at J 3) (T P) P.K) (cell i j)) R (randomness_at J 3) (randomness_at J 4) S (further (rows_at at (T P) P.L) (cell i j))
      (λ k. X.a k i j) (λ k. a'' X k i j)
      (λ k l. ap (λ place. element (part J place 64)) (constraint_place (job_at J 3) (cell i j) (T P) k))
      (λ k l. ap (λ place. element (part S place 64)) (row-place at (cell i j) (T P) k) ∙ h k l i j p q)

  -- element m of vector i of φ'' and the ring constraints' vectors mixed, of a region whose vectors k are φ''_k
  pub φ_sum_is : (S : List ℕ) (at : ℕ) → ((k : ℕ) → k < P.L → Vectors S (at + 64 * (k * (P.r * P.n))) P.r P.n (φ'' X k)) → (i m : ℕ) → i < P.r → m < P.n
      → mixed J (further (rows_at (job_at J 4) (P.r * P.n) P.K) (i * P.n + m)) R (randomness_at J 3) (randomness_at J 4)
      S (further (rows_at at (P.r * P.n) P.L) (i * P.n + m)) ≡ φ_sum X i m
  unfolding φ_sum
  φ_sum_is S at h i m p q =
      mixed_is J (further (rows_at (job_at J 4) (P.r * P.n) P.K) (i * P.n + m)) R (randomness_at J 3) (randomness_at J 4) S (further (rows_at at (P.r * P.n) P.L) (i * P.n + m))
      (λ k. X.φ k i m) (λ k. φ'' X k i m)
      (λ k l. ap (λ place. element (part J place 64)) (vector-place (job_at J 4) i m P.r P.n k))
      (λ k l. ap (λ place. element (part S place 64)) (row-place at (i * P.n + m) (P.r * P.n) k) ∙ h k l i m p q)

  -- the vectors that `aggregate` fills from such a region are φ
  pub φ-stored : (S : List ℕ) (at to : ℕ) → to + 64 * (P.r * P.n) ≤ length S → ((k : ℕ) → k < P.L → Vectors S (at + 64 * (k * (P.r * P.n))) P.r P.n (φ'' X k))
      → Vectors (splice S to (mixed_words J (rows_at (job_at J 4) (P.r * P.n) P.K) R (randomness_at J 3) (randomness_at J 4) S (rows_at at (P.r * P.n) P.L) (P.r * P.n)))
      to P.r P.n (φ_sum X)
  φ-stored S at to h t = vectors_of (splice S to (flat (table (P.r * P.n) M))) to P.r P.n M (φ_sum X) (elements_stored S to (P.r * P.n) M h) (φ_sum_is S at t)
    where
      M : ℕ → Element
      M c = mixed J (further (rows_at (job_at J 4) (P.r * P.n) P.K) c) R (randomness_at J 3) (randomness_at J 4) S (further (rows_at at (P.r * P.n) P.L) c)

  -- the ring constraints' right sides and b'' mixed
  pub b_sum_is : (B : List ℕ) (at : ℕ) → mixed J (rows_at (job_at J 5) 1 P.K) R (randomness_at J 3) (randomness_at J 4) B (rows_at at 1 P.L) ≡ b_sum X (element_at B at)
  unfolding b_sum
  b_sum_is B at = mixed_is J (rows_at (job_at J 5) 1 P.K) R (randomness_at J 3) (randomness_at J 4) B (rows_at at 1 P.L) X.b (element_at B at) (λ k l. refl) (λ k l. refl)
