-- The rows of B, C and D with digits in NTT form.
use Rattle.std.specs.Prelude.{◌≡◌, Bool, true, false, cond, List, ℕ, zero, suc, ◌+◌, ◌-◌, ◌*◌, ◌≤◌, ◌<◌, ltb, leb, length}
use Rattle.math.specs.lists.Part.{splice}
use Rattle.spec_protocol.specs.Parameters.{Parameters, parameters, T}
use Rattle.spec_protocol.specs.Layout.{job_sections, scratch_need}
use Rattle.spec_protocol.specs.Many.{many_need, products_at, AllRowsDone}
use Rattle.spec_protocol.specs.Laid.{Laid}
use Rattle.relation_env_params.specs.declared.env_params.EnvironmentParameters.{EnvironmentParameters}
use Rattle.relation_env_params.specs.Parameters.{parameters_of}
use Rattle.relation_env_params.specs.SectionOne.{Sound}
use Rattle.ring_rq.specs.declared.rq.Rq.{Rq}
use Rattle.ntt_vectors.specs.NttForm.{AllValues}
use Rattle.verify_many_windows.specs.Rowable.{Rowable}
use Rattle.verify_many_windows.specs.Digits.{digit_count}
use Rattle.verify_many_digits.specs.declared.rows.Row.{Row}
use Rattle.verify_many_digits.specs.NttDigits.{NttFitting, AllNttDigits}
use Rattle.verify_many_digits.specs.Sums.{sum_at}

-- whether the rows of B, C and D are taken in NTT form, which costs less from two transcripts, three rows of each matrix and 32 digits on; the digits need room
abbrev pub shares : Parameters → (count : ℕ) → Bool
shares P count =
    cond (ltb count 2) false (cond (ltb P.κ₁ 3) false (cond (ltb P.κ₂ 3) false (cond (ltb (digit_count P) 32) false (leb (192 * digit_count P) (products_at P)))))

-- row k of the matrix in section m of the job, of so many elements, taken with the digits from a place on
abbrev pub row_in : (m k width digits : ℕ) → Row
row_in m k width digits = record { section = m; k = k; width = width; digits = digits }

-- row ρ of A, B, C and D, one of those after A's
abbrev pub row_of : Parameters → ℕ → Row
row_of P ρ =
    let t = P.r * P.κ * P.t₁ in
    let g = T P * P.t₂ in
    cond (ltb ρ (P.κ + P.κ₁)) (row_in 7 (ρ - P.κ) t 0)
    (cond (ltb ρ (P.κ + P.κ₁ + P.κ₁)) (row_in 8 (ρ - (P.κ + P.κ₁)) g (192 * t))
    (row_in 9 (ρ - (P.κ + P.κ₁ + P.κ₁)) (T P * P.t₁) (192 * (t + g))))

-- the scratch after a sum is stored, where it takes part
abbrev pub sum_for : List ℕ → (pass : Bool) (place : ℕ) → List ℕ → List ℕ
sum_for sum pass place S = cond pass (splice S place sum) S

-- after those of the first n windows are
unfoldable pub stored_sums : List Rq → (passes : ℕ → Bool) (at need : ℕ) → (n : ℕ) → List ℕ → List ℕ
stored_sums sums passes at need zero S = S
stored_sums sums passes at need (suc n) S = sum_for (sum_at sums n) (passes n) (at + n * need) (stored_sums sums passes at need n S)

-- sums of 64 words
abbrev pub SumsLong : List Rq → ℕ → Type 0
SumsLong sums n = (m : ℕ) → m < n → length (sum_at sums m) ≡ 64

-- a job that is refused nothing, scratch enough for so many transcripts, and the values of digits in the windows of those that pass
pub record Valued (J : List ℕ) (count : ℕ) (passes : ℕ → Bool) (S : List ℕ) (scratch : ℕ) (params : EnvironmentParameters) : Type 0 where
  pub same : parameters_of params ≡ parameters J
  pub sound : Sound J
  pub job : Laid J 31 (job_sections (parameters J))
  pub few : count ≤ 8
  pub room : many_need (parameters J) count ≤ scratch
  pub fitting : NttFitting (parameters J)
  pub values : (m : ℕ) → m < count → passes m ≡ true → AllValues S (m * scratch_need (parameters J)) (digit_count (parameters J))

-- row ρ is made for all transcripts whose digits are in NTT form: their products are those of one row more, and the digits stay
abbrev pub RowMade : (J : List ℕ) → EnvironmentParameters → (count : ℕ) → (passes : ℕ → Bool) → (ρ : ℕ) → (S S' : List ℕ) → Type 0
RowMade J params count passes ρ S S' =
    (T : List ℕ) → Rowable J T count passes (length S) params → AllNttDigits J count passes T S → AllRowsDone J count passes T S ρ
    → AllNttDigits J count passes T S' × AllRowsDone J count passes T S' (ρ + 1)
