-- The omega part of φ'': the sums of columns modulo Q, and their elements conjugated.
use Rattle.std.proofs.Common.{◌≡◌, ℕ, zero, suc, ◌+◌, ◌-◌, ◌*◌, ◌%◌, ◌<◌, ◌≤◌, cond, List, length, get_or, replicate, sym, refl, ap, ◌∙◌, ap₂, add-zero, add-one, arith}
use lib.ListN.{length-replicate, get_or-replicate}
use Rattle.math.specs.lists.Sum.{Σ}
use Rattle.math.specs.lists.Table.{table}
use Rattle.math.specs.lists.Part.{part, splice}
use Rattle.math.proofs.lists.Table.{length-table, get_or-table, table_ext, is_table}
use Rattle.math.proofs.lists.Splice.{splice_again, length_part, get_d_part, get_or-splice-within, part-splice-after, part-splice-within}
use Rattle.math.proofs.lists.Fill.{get_or-splice-table}
use Rattle.math.specs.algebra.Ops.{sum}
use Rattle.math.proofs.algebra.Sum.{sum_ext}
use Rattle.spec_leaves.specs.Zq.{Q}
use Rattle.ring_zq.specs.Words.{lowered}
use Rattle.spec_leaves.specs.Projection.{entry}
use Rattle.spec_leaves.specs.Rq.{Element, coeff, rzero, radd, rconj}
use Rattle.spec_leaves.specs.Ring.{ZqOps, residue, RqOps, words, element, scale, conj}
use Rattle.ring_zq.proofs.Words.{lowered-le, lowered-add}
use Rattle.spec_leaves.proofs.Cases.{ltb_cases}
use Rattle.spec_leaves.proofs.ZqRing.{residue-mod}
use Rattle.spec_leaves.proofs.RqRing.{coefficient, element_path, coefficient-table, coefficient-rscale, residue-products}
use Rattle.spec_leaves.proofs.Bridge.{words-conj, coefficient-sum}
use Rattle.spec_leaves.proofs.Conjugate.{conj-sum, conj-scale}
use Rattle.spec_leaves.proofs.Modulo.{add-mod}
use Rattle.spec_protocol.specs.Views.{element_at}
use Rattle.spec_protocol.specs.Formulas.{flat}
use Rattle.spec_protocol.proofs.Flat.{length-flat}
use Rattle.core_jl.specs.Rows.{term}
use Rattle.core_jl_transpose.specs.Omega.{row_element, omega_element, carried, added}
use Rattle.core_jl.proofs.Terms.{term-mod}

-- a carried sum is the sum modulo Q
pub carried-mod : (a b : ℕ) → carried a b % Q ≡ (a + b) % Q
carried-mod a b =
    ltb_cases (λ t. cond t (a + lowered b) (a + lowered b - Q) % Q ≡ (a + lowered b) % Q) (a + lowered b) 4294967296 (λ l. refl) (λ l. taken (a + lowered b) l) ∙ lowered-add a b
  where
    taken : (x : ℕ) → 4294967296 ≤ x → (x - Q) % Q ≡ x % Q
    taken x h = omega arith

-- a carried sum of words is a word
pub carried-word : (a b : ℕ) → a < 4294967296 → b < 4294967296 → carried a b < 4294967296
carried-word a b ha hb = ltb_cases (λ t. cond t (a + lowered b) (a + lowered b - Q) < 4294967296) (a + lowered b) 4294967296 (λ l. l) (λ l. omega (arith, lowered-le b (omega arith)))

-- the sum of a column modulo Q
added-mod : (R : List ℕ) (pi om width c : ℕ) → ((i : ℕ) → get_or R i 0 ≤ 4294967295) → (j : ℕ)
    → added R pi om width 0 c j % Q ≡ Σ j (λ i. entry (get_or R (pi + i * width + c) 0) * get_or R (om + i) 0) % Q
unfolding added Σ
added-mod R pi om width c h zero = refl
added-mod R pi om width c h (suc j) =
    carried-mod (added R pi om width 0 c j) (term (get_or R (pi + j * width + c) 0) (get_or R (om + j) 0))
    ∙ add-mod Q
    (added R pi om width 0 c j)
    (term (get_or R (pi + j * width + c) 0) (get_or R (om + j) 0))
    (Σ j (λ i. entry (get_or R (pi + i * width + c) 0) * get_or R (om + i) 0))
    (entry (get_or R (pi + j * width + c) 0) * get_or R (om + j) 0)
    (added-mod R pi om width c h j)
    (term-mod (get_or R (pi + j * width + c) 0) (get_or R (om + j) 0) (h (om + j)))

-- an element's words reduced
reduced : (l : List ℕ) → radd l rzero ≡ words (element l)
unfolding radd rzero element
reduced l =
    table_ext 64 (λ k. (coeff l k + coeff rzero k) % Q) (λ k. coeff l k % Q)
    (λ k h. ap (λ x. (coeff l k + x) % Q) (get_or-table 64 (λ i. 0) k 0 h) ∙ ap (λ x. x % Q) (add-zero (coeff l k)))

-- and conjugated
pub conjugated : (l : List ℕ) → rconj (radd l rzero) ≡ words (conj (element l))
conjugated l = ap rconj (reduced l) ∙ sym (words-conj (element l))

-- the elements after the first m are those that stood there
pub later : (l before : List ℕ) (at m : ℕ) (g : ℕ → Element) → before ≡ splice l at (flat (table m g)) → part before (at + 64 * m) 64 ≡ part l (at + 64 * m) 64
later l before at m g e =
    let n : length (flat (table m g)) ≡ 64 * m = length-flat (table m g) ∙ ap (λ k. 64 * k) (length-table m g) in
    ap (λ w. part w (at + 64 * m) 64) e ∙ part-splice-after 0 l at (flat (table m g)) (at + 64 * m) 64 (omega arith)

-- one more row added to the sums
module _ (R : List ℕ) (pi om width : ℕ) where
  added_next : (x c j : ℕ) → added R pi om width x c (j + 1) ≡ carried (added R pi om width x c j) (term (get_or R (pi + j * width + c) 0) (get_or R (om + j) 0))
  unfolding added
  added_next x c j = rw add-one

  pub row_added : (l before : List ℕ) (at j : ℕ) → at + width ≤ length l → before ≡ splice l at (table width (λ c. added R pi om width (get_or l (at + c) 0) c j))
      → splice before at (table width (λ c. carried (get_or before (at + c) 0) (term (get_or R (pi + j * width + c) 0) (get_or R (om + j) 0))))
      ≡ splice l at (table width (λ c. added R pi om width (get_or l (at + c) 0) c (j + 1)))
  row_added l before at j h e =
      ap₂ (λ b t. splice b at t) e
      (table_ext width (λ c. carried (get_or before (at + c) 0) (term (get_or R (pi + j * width + c) 0) (get_or R (om + j) 0))) next
      (λ c m. ap (λ x. carried x (term (get_or R (pi + j * width + c) 0) (get_or R (om + j) 0))) (ap (λ b. get_or b (at + c) 0) e ∙ get_or-splice-table l at width sums c 0 m h)
      ∙ sym (added_next (get_or l (at + c) 0) c j)))
      ∙ splice_again 0 l at (table width sums) (table width next) (length-table width sums ∙ sym (length-table width next)) (rw (length-table width sums) h)
    where
      sums : ℕ → ℕ
      sums c = added R pi om width (get_or l (at + c) 0) c j

      next : ℕ → ℕ
      next c = added R pi om width (get_or l (at + c) 0) c (j + 1)

module _ (R : List ℕ) (pi om n : ℕ) where
  -- an element of columns' sums modulo Q is the sum of the rows' elements, each times its omega
  columns : (m : ℕ) (sums : ℕ → ℕ) → ((k : ℕ) → k < 64 → sums k % Q ≡ Σ 256 (λ j. entry (get_or R (pi + j * (64 * n) + (64 * m + k)) 0) * get_or R (om + j) 0) % Q)
      → element (table 64 sums) ≡ sum RqOps 256 (λ j. scale (row_element R (pi + j * (64 * n)) m) (get_or R (om + j) 0))
  unfolding scale
  columns m sums h = element_path (element (table 64 sums)) (sum RqOps 256 (λ j. scale (row j) (weight j))) (λ k l.
      coefficient-table sums k l
      ∙ residue-mod (sums k) (Σ 256 (λ j. entry_at j k * weight j)) (h k l)
      ∙ residue-products 256 (λ j. entry_at j k) weight
      ∙ sum_ext ZqOps 256 (λ j. ZqOps.mul (residue (entry_at j k)) (residue (weight j))) (λ j. coefficient (scale (row j) (weight j)) k)
      (λ j _. sym (coefficient-rscale (words (row j)) (weight j) k l ∙ ap (λ x. ZqOps.mul x (residue (weight j))) (coefficient-table (entry_at j) k l)))
      ∙ sym (coefficient-sum 256 (λ j. scale (row j) (weight j)) k l))
    where
      row : ℕ → Element
      row j = row_element R (pi + j * (64 * n)) m

      entry_at : ℕ → ℕ → ℕ
      entry_at j k = entry (get_or R (pi + j * (64 * n) + (64 * m + k)) 0)

      weight : ℕ → ℕ
      weight j = get_or R (om + j) 0

  -- and conjugated the omega part's
  pub conjugated_columns : (m : ℕ) (sums : ℕ → ℕ) → ((k : ℕ) → k < 64 → sums k % Q ≡ Σ 256 (λ j. entry (get_or R (pi + j * (64 * n) + (64 * m + k)) 0) * get_or R (om + j) 0) % Q)
      → conj (element (table 64 sums)) ≡ omega_element R pi om n m
  unfolding omega_element
  conjugated_columns m sums h =
      ap conj (columns m sums h)
      ∙ conj-sum 256 (λ j. scale (row_element R (pi + j * (64 * n)) m) (get_or R (om + j) 0))
      ∙ sum_ext RqOps 256
      (λ j. conj (scale (row_element R (pi + j * (64 * n)) m) (get_or R (om + j) 0)))
      (λ j. scale (conj (row_element R (pi + j * (64 * n)) m)) (get_or R (om + j) 0))
      (λ j _. conj-scale (row_element R (pi + j * (64 * n)) m) (get_or R (om + j) 0))

module _ (R : List ℕ) (pi om n : ℕ) (h : (i : ℕ) → get_or R i 0 ≤ 4294967295) where
  -- a region cleared, the rows added to it and its elements conjugated
  module _ (l cleared summed : List ℕ) (at : ℕ) (w : at + 64 * n ≤ length l) (is-cleared : cleared ≡ splice l at (replicate (64 * n) 0))
      (is-summed : summed ≡ splice cleared at (table (64 * n) (λ c. added R pi om (64 * n) (get_or cleared (at + c) 0) c 256))) where
    -- the sums of the columns, and the sizes of what is stored
    abbrev sums : ℕ → ℕ
    sums c = added R pi om (64 * n) 0 c 256

    size : length (table (64 * n) sums) ≡ 64 * n
    size = length-table (64 * n) sums

    cleared_size : length {A = ℕ} (replicate (64 * n) 0) ≡ 64 * n
    cleared_size = length-replicate (64 * n) 0

    -- the sums start at zero
    none : (c : ℕ) → c < 64 * n → get_or cleared (at + c) 0 ≡ 0
    none c m =
        ap (λ b. get_or b (at + c) 0) is-cleared
        ∙ get_or-splice-within l at (replicate (64 * n) 0) c 0 (omega (arith, cleared_size)) (omega (arith, cleared_size))
        ∙ get_or-replicate (64 * n) c 0 0 m

    holds-sums : summed ≡ splice l at (table (64 * n) sums)
    holds-sums =
        is-summed
        ∙ ap₂ (λ b t. splice b at t) is-cleared (table_ext (64 * n) (λ c. added R pi om (64 * n) (get_or cleared (at + c) 0) c 256) sums (λ c m. ap (λ x. added R pi om (64 * n) x c 256) (none c m)))
        ∙ splice_again 0 l at (replicate (64 * n) 0) (table (64 * n) sums) (cleared_size ∙ sym size) (omega (arith, cleared_size))

    -- each element conjugated is the omega part's
    element_is : (m : ℕ) → m < n → conj (element_at summed at m) ≡ omega_element R pi om n m
    element_is m b =
        ap (λ p. conj (element p))
        (ap (λ x. part x (at + 64 * m) 64) holds-sums
        ∙ part-splice-within 0 l at (table (64 * n) sums) (64 * m) 64 (omega (arith, size)) (omega (arith, size))
        ∙ is_table 64 (part (table (64 * n) sums) (64 * m) 64) (λ q. sums (64 * m + q)) 0
        (length_part (table (64 * n) sums) (64 * m) 64 (omega (arith, size)))
        (λ q k. get_d_part 0 (table (64 * n) sums) (64 * m) 64 q k ∙ get_or-table (64 * n) sums (64 * m + q) 0 (omega arith)))
        ∙ conjugated_columns R pi om n m (λ q. sums (64 * m + q)) (λ k l. added-mod R pi om (64 * n) (64 * m + k) h 256)

    pub omega_region : splice summed at (flat (table n (λ m. conj (element_at summed at m)))) ≡ splice l at (flat (table n (omega_element R pi om n)))
    omega_region =
        ap₂ (λ b t. splice b at (flat t)) holds-sums (table_ext n (λ m. conj (element_at summed at m)) (omega_element R pi om n) element_is)
        ∙ splice_again 0 l at (table (64 * n) sums) (flat (table n (omega_element R pi om n)))
        (size ∙ sym (length-flat (table n (omega_element R pi om n)) ∙ ap (λ k. 64 * k) (length-table n (omega_element R pi om n))))
        (rw size w)
