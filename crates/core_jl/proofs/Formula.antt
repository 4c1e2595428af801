-- Over slices and over the protocol's values: the projection of all vectors is p, the omega part that of φ''. Runs of vectors add up.
use mathlib.Core.Path.{◌≡◌, sym, ap, ◌∙◌}
use mathlib.Core.List.{List}
use Prim.Native.Nat.{ℕ, ◌+◌, ◌-◌, ◌*◌, ◌/◌, ◌%◌, ◌≤◌, ◌<◌}
use native.Mathlib.Nat.{mod-lt, zero-add, sub-zero, mod-add-mod, add-mod-mod}
use native.Mathlib.Omega.{arith}
use lib.ListN.{get_or}
use Rattle.math.specs.lists.Sum.{Σ}
use Rattle.math.specs.lists.Table.{table}
use Rattle.math.proofs.lists.Sum.{Σ_ext, Σ_split, Σ-mod_ext}
use Rattle.math.proofs.lists.Table.{get_or-table, table_ext}
use Rattle.math.proofs.lists.Splice.{get_d_part}
use Rattle.spec_leaves.specs.Zq.{Q, zadd}
use Rattle.spec_leaves.specs.Projection.{entry}
use Rattle.spec_leaves.specs.Rq.{coeff}
use Rattle.spec_leaves.specs.Ring.{words, element}
use Rattle.spec_leaves.proofs.Modulo.{mul_mod_second}
use Rattle.spec_protocol.specs.Parameters.{Parameters, parameters}
use Rattle.spec_protocol.specs.Layout.{part, start, randomness_sections, witness_sections}
use Rattle.spec_protocol.specs.Views.{public, witness}
use Rattle.spec_protocol.specs.Formulas.{coefficient, projection, p}
use Rattle.core_jl.specs.Rows.{row_sum}
use Rattle.core_jl.specs.Run.{vector_row, run_row, run}

-- a word of the element of a part is the list's, reduced
element-word : (l : List ℕ) (at k : ℕ) → k < 64 → coeff (words (element (part l at 64))) k ≡ get_or l (at + k) 0 % Q
unfolding element
element-word l at k h = get_or-table 64 (λ k. coeff (part l at 64) k % Q) k 0 h ∙ ap (λ x. x % Q) (get_d_part 0 l at 64 k h)

module _ (J R W : List ℕ) where
  -- the parameters, and where the projection words and s_1 start
  P : Parameters
  P = parameters J

  pi : ℕ
  pi = start (randomness_sections P) 0

  s : ℕ
  s = start (witness_sections P) 0

  -- coefficient m of vector i of the witness is its word, reduced
  witness-coefficient : (i m : ℕ) → coefficient (witness P W i) m ≡ get_or W (s + i * (64 * P.n) + m) 0 % Q
  unfolding s
  witness-coefficient i m =
      let place : s + 64 * (i * P.n + m / 64) + m % 64 ≡ s + i * (64 * P.n) + m = omega arith in
      element-word W (s + 64 * (i * P.n + m / 64)) (m % 64) (mod-lt m (omega arith)) ∙ ap (λ k. get_or W k 0 % Q) place

  -- row j of Π_i times s_i
  vector_is : (i j : ℕ) → vector_row R pi W s P.n i j % Q ≡ projection (public J R) (witness P W) i j % Q
  unfolding P pi row_sum projection
  vector_is i j =
      Σ-mod_ext (64 * P.n) Q
      (λ m. entry (get_or R (pi + (i * 256 + j) * (64 * P.n) + m) 0) * get_or W (s + i * (64 * P.n) + m) 0)
      (λ m. entry (get_or R (pi + ((i * 256 + j) * (64 * P.n) + m)) 0) * coefficient (witness P W i) m)
      (λ m h.
      let place : pi + (i * 256 + j) * (64 * P.n) + m ≡ pi + ((i * 256 + j) * (64 * P.n) + m) = omega arith in
      ap (λ k. (entry (get_or R k 0) * get_or W (s + i * (64 * P.n) + m) 0) % Q) place
      ∙ sym (mul_mod_second Q (entry (get_or R (pi + ((i * 256 + j) * (64 * P.n) + m)) 0)) (get_or W (s + i * (64 * P.n) + m) 0))
      ∙ ap (λ x. (entry (get_or R (pi + ((i * 256 + j) * (64 * P.n) + m)) 0) * x) % Q) (sym (witness-coefficient i m)))

  -- the run of the first vectors, so many, at row j
  pub run_of_first : (count j : ℕ) → run_row R (start (randomness_sections (parameters J)) 0) W (start (witness_sections (parameters J)) 0) (parameters J).n 0 count j ≡ Σ
      count (λ i. projection (public J R) (witness (parameters J) W) i j) % Q
  unfolding P pi s run_row
  run_of_first count j =
      ap (λ k. Σ k (λ i. vector_row R pi W s P.n (0 + i) j) % Q) (sub-zero count)
      ∙ Σ-mod_ext count Q
      (λ i. vector_row R pi W s P.n (0 + i) j)
      (λ i. projection (public J R) (witness P W) i j)
      (λ i h. ap (λ k. vector_row R pi W s P.n k j % Q) (zero-add i) ∙ vector_is i j)

  -- the run of all vectors at row j
  pub p-row : (j : ℕ) → run_row R (start (randomness_sections (parameters J)) 0) W (start (witness_sections (parameters J)) 0) (parameters J).n 0 (parameters J).r j ≡ p
      (public J R) (witness (parameters J) W) j
  unfolding p
  p-row j = run_of_first (parameters J).r j

  -- the run of all vectors is p
  pub run_is-p : run R (start (randomness_sections (parameters J)) 0) W (start (witness_sections (parameters J)) 0) (parameters J).n 0 (parameters J).r ≡ table 256
      (p (public J R) (witness (parameters J) W))
  run_is-p = table_ext 256 _ (p (public J R) (witness (parameters J) W)) (λ j h. p-row j)

-- two runs, one after the other, add up to the run of both
pub runs_add : (R : List ℕ) (pi : ℕ) (W : List ℕ) (s n first mid end j : ℕ) → first ≤ mid → mid ≤ end
    → run_row R pi W s n first end j ≡ zadd (run_row R pi W s n first mid j) (run_row R pi W s n mid end j)
unfolding run_row
runs_add R pi W s n first mid end j a b =
    let count : end - first ≡ (mid - first) + (end - mid) = omega arith in
    ap (λ k. Σ k rows % Q) count
    ∙ ap (λ x. x % Q) (Σ_split (mid - first) (end - mid) rows ∙ ap (λ x. Σ (mid - first) rows + x) later)
    ∙ sym (mod-add-mod (Σ (mid - first) rows) Q (Σ (end - mid) (λ i. vector_row R pi W s n (mid + i) j)))
    ∙ sym (add-mod-mod (Σ (mid - first) rows % Q) (Σ (end - mid) (λ i. vector_row R pi W s n (mid + i) j)) Q)
  where
    rows : ℕ → ℕ
    rows i = vector_row R pi W s n (first + i) j

    later : Σ (end - mid) (λ i. rows (mid - first + i)) ≡ Σ (end - mid) (λ i. vector_row R pi W s n (mid + i) j)
    later =
        Σ_ext (end - mid) (λ i. rows (mid - first + i)) (λ i. vector_row R pi W s n (mid + i) j)
        (λ i h. let place : first + (mid - first + i) ≡ mid + i = omega arith in ap (λ k. vector_row R pi W s n k j) place)
