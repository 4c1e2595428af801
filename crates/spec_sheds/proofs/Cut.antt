-- What is worked out of a run's own slices is what the whole slices give at the run's indexes.
use mathlib.Core.Path.{◌≡◌, refl, ap, ap₂, ◌∙◌}
use mathlib.Core.List.{List, [], ◌∷◌, append-nil}
use Prim.Native.Nat.{ℕ, suc, ◌+◌, ◌*◌, ◌/◌, ◌%◌, ◌<◌, ◌≤◌}
use native.Mathlib.Nat.{mul-le-mul_right}
use native.Mathlib.Omega.{arith}
use lib.ListN.{get_or}
use Rattle.math.specs.lists.Part.{part}
use Rattle.math.specs.lists.Sum.{Σ}
use Rattle.math.proofs.lists.Sum.{Σ_ext}
use Rattle.math.proofs.lists.Part.{part_of-part}
use Rattle.math.proofs.lists.Splice.{get_d_part}
use Rattle.math.proofs.algebra.Dot.{dot_ext}
use Rattle.spec_leaves.specs.Zq.{Q}
use Rattle.spec_leaves.specs.Projection.{entry}
use Rattle.spec_leaves.specs.Rq.{coeff}
use Rattle.spec_leaves.specs.Ring.{RqOps, element, words}
use Rattle.spec_protocol.specs.Parameters.{Parameters, parameters}
use Rattle.spec_protocol.specs.Layout.{start, sections}
use Rattle.spec_protocol.specs.Views.{Public, public, witness}
use Rattle.spec_protocol.specs.Formulas as F
use Rattle.spec_protocol.specs.Formulas.{coefficient, flat, rows}
use Rattle.spec_protocol.proofs.Region.{rows_ext}
use Rattle.spec_sheds.specs.Runs.{Run, size, run_p, run_rows}
use Rattle.spec_sheds.specs.Split.{projection_of, vectors_of}

-- words of one section, after its count
pub word_of : (ws : List ℕ) (j : ℕ) → get_or (sections (ws ∷ [])) (1 + j) 0 ≡ get_or ws j 0
unfolding sections
word_of ws j = let past : 1 + j ≡ suc j = omega arith in ap (λ k. get_or (sections (ws ∷ [])) k 0) past ∙ ap (λ l. get_or l j 0) (append-nil ws)

pub part_of : (ws : List ℕ) (j n : ℕ) → part (sections (ws ∷ [])) (1 + j) n ≡ part ws j n
unfolding sections
part_of ws j n = let past : 1 + j ≡ suc j = omega arith in ap (λ k. part (sections (ws ∷ [])) k n) past ∙ ap (λ l. part l j n) (append-nil ws)

-- row j of vector i of a run's matrices lies within its words
matrix_within : (i j m n count : ℕ) → i < count → j < 256 → m < 64 * n → (i * 256 + j) * (64 * n) + m < 16384 * n * count
matrix_within i j m n count a b c =
    let row : suc (i * 256 + j) ≤ count * 256 = omega arith in
    omega (arith, mul-le-mul_right (64 * n) row)

-- element q of vector i of a run lies within its words
vector-within : (i q n count : ℕ) → i < count → q < n → 64 * (i * n + q) + 64 ≤ 64 * (count * n)
vector-within i q n count a b = omega (arith, mul-le-mul_right n a)

module _ (J R W : List ℕ) (x : Run) where
  -- the parameters, the whole's values and the run's
  P : Parameters
  P = parameters J

  abbrev X : Public
  X = public J R

  abbrev X' : Public
  X' = public J (projection_of J R x)

  -- an entry of a run's matrix
  entry_is : (i j m : ℕ) → i < size x → j < 256 → m < 64 * P.n → X'.Π i j m ≡ X.Π (x.first + i) j m
  unfolding P start
  entry_is i j m a b c =
      let k = (i * 256 + j) * (64 * P.n) + m in
      let place : 1 + 16384 * P.n * x.first + k ≡ 1 + (((x.first + i) * 256 + j) * (64 * P.n) + m) = omega arith in
      ap entry
      (word_of (part R (1 + 16384 * P.n * x.first) (16384 * P.n * size x)) k
      ∙ get_d_part 0 R (1 + 16384 * P.n * x.first) (16384 * P.n * size x) k (matrix_within i j m P.n (size x) a b c)
      ∙ ap (λ w. get_or R w 0) place)

  -- an element of a run's vector
  pub element_is : (i q : ℕ) → i < size x → q < (parameters J).n → witness (parameters J) (vectors_of J W x) i q ≡ witness (parameters J) W (x.first + i) q
  unfolding P start
  element_is i q a b =
      let k = 64 * (i * P.n + q) in
      let place : 1 + 64 * (x.first * P.n) + k ≡ 1 + 64 * ((x.first + i) * P.n + q) = omega arith in
      ap element
      (part_of (part W (1 + 64 * (x.first * P.n)) (64 * (size x * P.n))) k 64
      ∙ part_of-part W (1 + 64 * (x.first * P.n)) (64 * (size x * P.n)) k 64 (vector-within i q P.n (size x) a b)
      ∙ ap (λ w. part W w 64) place)

  -- a row of Π_i·s_i
  row_is : (i j : ℕ) → i < size x → j < 256 → F.projection X' (witness P (vectors_of J W x)) i j ≡ F.projection X (witness P W) (x.first + i) j
  unfolding P F.projection
  row_is i j a b =
      Σ_ext (64 * P.n)
      (λ m. X'.Π i j m * coefficient (witness P (vectors_of J W x) i) m)
      (λ m. X.Π (x.first + i) j m * coefficient (witness P W (x.first + i)) m)
      (λ m c. ap₂ (λ e v. e * coeff (words v) (m % 64)) (entry_is i j m a b c) (element_is i (m / 64) a (omega arith)))

  -- the run's p is the sum of the whole's terms at its indexes
  pub run_p_is : (j : ℕ) → j < 256 → run_p J x (projection_of J R x) (vectors_of J W x) j ≡ Σ (size x) (λ i. F.projection (public J R) (witness (parameters J) W) (x.first + i) j) % Q
  unfolding P run_p
  run_p_is j b =
      ap (λ n. n % Q)
      (Σ_ext (size x)
      (λ i. F.projection X' (witness P (vectors_of J W x)) i j)
      (λ i. F.projection X (witness P W) (x.first + i) j)
      (λ i a. row_is i j a b))

  -- the run's rows are the whole's at its indexes
  pub run_rows_is : run_rows J x (vectors_of J W x) ≡ flat (rows (size x) (parameters J).κ (λ i. F.t (public J R) (witness (parameters J) W) (x.first + i)))
  unfolding P run_rows F.t
  run_rows_is =
      ap flat
      (rows_ext (size x) P.κ (F.t (public J []) (witness P (vectors_of J W x))) (λ i. F.t X (witness P W) (x.first + i))
      (λ i k a b. dot_ext RqOps P.n (X.A k) (X.A k) (witness P (vectors_of J W x) i) (witness P W (x.first + i)) (λ q c. refl) (λ q c. element_is i q a c)))
