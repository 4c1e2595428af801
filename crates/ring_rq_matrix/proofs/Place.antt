-- Places of vectors and triangles in a slice, and the runs that start there.
use mathlib.Core.Path.{◌≡◌, ap, ap₂, ◌∙◌, fun_ext}
use mathlib.Core.Logic.{inl, inr}
use mathlib.Core.List.{List}
use Prim.Native.Nat.{ℕ, ◌+◌, ◌*◌, ◌≤◌, ◌<◌, ◌^◌}
use native.Mathlib.Nat.{mul-le-mul, max_comm, min_comm}
use native.Mathlib.Omega.{arith}
use lib.ListN.{length}
use Rattle.math.specs.lists.Part.{part, splice}
use Rattle.math.proofs.lists.Splice.{part-splice-before, part-splice-after}
pub use Rattle.math.proofs.lists.Rows.{rows-within}
use Rattle.spec_leaves.specs.Ring.{element}
use Rattle.ring_inner_product.specs.Run.{Run, run}
use Rattle.spec_protocol.specs.Parameters.{triangular}
use Rattle.spec_protocol.specs.Views.{cell}
use Rattle.spec_protocol.specs.Formulas.{dot}
use Rattle.ring_rq_matrix.specs.Region.{vector, Apart}

-- one more row of a triangle
pub triangular-suc : (i : ℕ) → triangular (i + 1) ≡ triangular i + (i + 1)
triangular-suc i = omega arith

-- row i of a triangle of r rows ends within it
pub triangle-within : (i r : ℕ) → i < r → triangular i + (i + 1) ≤ triangular r
triangle-within i r h = omega (arith, mul-le-mul h h)

-- a product of numbers up to 64
pub product_bound : (i n : ℕ) → i ≤ 64 → n ≤ 64 → i * n ≤ 4096
product_bound i n h l = mul-le-mul h l

-- a cell and its mirror image stand at one place
pub cell_mirrored : (i j : ℕ) → cell i j ≡ cell j i
cell_mirrored i j = ap₂ (λ row column. triangular row + column) (max_comm i j) (min_comm i j)

-- the run that starts k elements on
pub run-from : (ws : List ℕ) (at k place : ℕ) → place ≡ at + 64 * k → run ws place 64 ≡ (λ m. run ws at 64 (k + m))
run-from ws at k place e = fun_ext (λ m. ap (λ p. element (part ws p 64)) (there m))
  where
    there : (m : ℕ) → place + 64 * m ≡ at + 64 * (k + m)
    there m = omega arith

-- vector i of vectors of n elements
pub run-vector : (ws : List ℕ) (at n i place : ℕ) → place ≡ at + 64 * (i * n) → run ws place 64 ≡ vector ws at n i
run-vector ws at n i place e = run-from ws at (i * n) place e

-- element k of each vector
pub run-column : (ws : List ℕ) (at n k : ℕ) → run ws (at + 64 * k) (64 * n) ≡ (λ i. vector ws at n i k)
run-column ws at n k = fun_ext (λ i. ap (λ p. element (part ws p 64)) (there i))
  where
    there : (i : ℕ) → at + 64 * k + 64 * n * i ≡ at + 64 * (i * n + k)
    there i = omega arith

-- element k of each of r vectors of n elements within a slice
pub column-run : (ws : List ℕ) (at n k r : ℕ) → at + 64 * (r * n) ≤ length ws → k < n → n ≤ 64 → r ≤ 64 → at ≤ 2 ^ 61 → Run ws (at + 64 * k) (64 * n) r
column-run ws at n k r h below few many first = record {
  within = λ i l. omega (arith, rows-within i r n l);
  few = omega arith;
  near = omega arith;
  first = omega arith;
}

-- parts of two regions that are apart are apart
pub apart_part : (at count place size at' count' place' size' : ℕ) → Apart at count place size → at ≤ at' → at' + count' ≤ at + count → place ≤ place'
    → place' + size' ≤ place + size → Apart at' count' place' size'
apart_part at count place size at' count' place' size' (inl h) a b p q = inl (omega arith)
apart_part at count place size at' count' place' size' (inr h) a b p q = inr (omega arith)

-- a run is the same after a store apart from it
pub run_apart : (ws : List ℕ) (place : ℕ) (new : List ℕ) (at n : ℕ) → Apart at (64 * n) place (length new) → (m : ℕ) → m < n → run (splice ws place new) at 64 m ≡ run ws at 64 m
run_apart ws place new at n (inl h) m l = ap element (part-splice-before 0 ws place new (at + 64 * m) 64 (omega arith))
run_apart ws place new at n (inr h) m l = ap element (part-splice-after 0 ws place new (at + 64 * m) 64 (omega arith))

-- the vectors of a region are the same after a store apart from it
pub vector_apart : (now ws : List ℕ) (place : ℕ) (new : List ℕ) (at r n : ℕ) → now ≡ splice ws place new → Apart at (64 * (r * n)) place (length new) → (i m : ℕ) → i < r → m < n
    → vector now at n i m ≡ vector ws at n i m
vector_apart now ws place new at r n e apart i m h l = ap (λ w. vector w at n i m) e ∙ run_apart ws place new at (r * n) apart (i * n + m) (omega (arith, rows-within i r n h))

-- an inner product of two vectors, from the places where they stand
pub dot-vectors : (x : List ℕ) (x-at i p : ℕ) (y : List ℕ) (y-at j q n : ℕ) → p ≡ x-at + 64 * (i * n) → q ≡ y-at + 64 * (j * n)
    → dot n (run x p 64) (run y q 64) ≡ dot n (vector x x-at n i) (vector y y-at n j)
dot-vectors x x-at i p y y-at j q n e f = ap₂ (dot n) (run-vector x x-at n i p e) (run-vector y y-at n j q f)
