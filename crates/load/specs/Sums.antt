-- b0 and b worked out in a job that has everything else.
use Rattle.std.specs.Prelude.{◌≡◌, List, ℕ, ◌+◌, ◌*◌, ◌≤◌, ◌<◌, length, get_or}
use Rattle.math.specs.lists.Table.{table}
use Rattle.math.specs.lists.Part.{splice}
use Rattle.spec_leaves.specs.Rq.{coeff}
use Rattle.spec_leaves.specs.Ring.{words}
use Rattle.spec_protocol.specs.Parameters.{Parameters, T}
use Rattle.spec_protocol.specs.Layout.{span, start, job_sections}
use Rattle.spec_protocol.specs.Views.{element_at, cell, witness}
use Rattle.spec_protocol.specs.Formulas.{left, flat}

-- room for the job, and zeros where b0 and b will stand
pub record Blank (P : Parameters) (J : List ℕ) : Type 0 where
  pub room : 31 + span (job_sections P) ≤ length J
  pub b₀ : (x : ℕ) → x < P.l → get_or J (31 + start (job_sections P) 2 + x) 0 ≡ 0
  pub b : (x : ℕ) → x < 64 * P.K → get_or J (31 + start (job_sections P) 5 + x) 0 ≡ 0

-- the left side of constant-term constraint x and of ring constraint k of a job's and a witness's words
abbrev pub constant_left : Parameters → List ℕ → List ℕ → ℕ → ℕ
constant_left P J W x =
    coeff (words (left P (λ i j. element_at J (31 + start (job_sections P) 0) (x * T P + cell i j)) (λ i m. element_at J (31 + start (job_sections P) 1) ((x * P.r + i) * P.n + m)) (witness P W))) 0

-- the job with b0 and b
unfoldable pub sums_of : Parameters → List ℕ → List ℕ → List ℕ
sums_of P J W =
    splice
    (splice J (31 + start (job_sections P) 2) (table P.l (constant_left P J W)))
    (31 + start (job_sections P) 5)
    (flat (table P.K (λ k. left P (λ i j. element_at J (31 + start (job_sections P) 3) (k * T P + cell i j))
    (λ i m. element_at J (31 + start (job_sections P) 4) ((k * P.r + i) * P.n + m)) (witness P W))))
