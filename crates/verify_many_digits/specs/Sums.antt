-- The inner products of one row with vectors in NTT form, one in each window that takes part.
use Rattle.std.specs.Prelude.{◌≡◌, Bool, true, List, [], ℕ, ◌+◌, ◌*◌, ◌≤◌, ◌<◌, ◌^◌, get_or}
use Rattle.spec_leaves.specs.Rq.{radd}
use Rattle.spec_leaves.specs.Ring.{words}
use Rattle.ring_rq.specs.declared.rq.Rq.{Rq}
use Rattle.ring_inner_product.specs.Run.{run}
use Rattle.spec_protocol.specs.Formulas.{dot}
use Rattle.ntt_vectors.specs.NttForm.{NttForm, AllValues, ntt_dot}

-- the words of sum m
abbrev pub sum_at : List Rq → ℕ → List ℕ
sum_at sums m = (get_or sums m (record { coeffs = [] })).coeffs

-- a sum with the inner product of n elements in NTT form with those from a place on
abbrev pub added_to : (values : List ℕ) (n : ℕ) (S : List ℕ) (at : ℕ) → List ℕ → List ℕ
added_to values n S at sum = radd sum (words (ntt_dot values 0 S at n))

module _ (S : List ℕ) (count : ℕ) (passes : ℕ → Bool) (at need : ℕ) where
  -- up to eight windows at equal steps; of those that take part each has the values of n elements from a place on
  pub record Windowed (n : ℕ) : Type 0 where
    pub few : count ≤ 8
    pub short : at + count * need + 192 * n < 2 ^ 64
    pub values : (m : ℕ) → m < count → passes m ≡ true → AllValues S (at + m * need) n

-- every sum that takes part has its window's inner product added
abbrev pub BlockAdded : (values : List ℕ) (n : ℕ) (S : List ℕ) (count : ℕ) (passes : ℕ → Bool) (at need : ℕ) → (sums sums' : List Rq) → Type 0
BlockAdded values n S count passes at need sums sums' =
    (m : ℕ) → m < count → passes m ≡ true → sum_at sums' m ≡ added_to values n S (at + m * need) (sum_at sums m)

-- every sum that takes part is the inner product of the row with the elements that its window has in NTT form
abbrev pub RowSummed : (J : List ℕ) (row width : ℕ) (S : List ℕ) (count : ℕ) (passes : ℕ → Bool) (at need : ℕ) → List Rq → Type 0
RowSummed J row width S count passes at need sums =
    (m : ℕ) → m < count → passes m ≡ true → (xs : List ℕ) (from : ℕ) → NttForm S (at + m * need) xs from width → sum_at sums m ≡ words (dot width (run J row 64) (run xs from 64))
