-- A call of a run whose answer has the number 0 is refused nothing.
use mathlib.Core.Path.{◌≡◌}
use mathlib.Core.List.{List}
use Prim.Native.Nat.{ℕ, ◌+◌, ◌<◌}
use native.Mathlib.Decide.{dec_le, dec_lt}
use native.Mathlib.Omega.{arith}
use Rattle.math.specs.lists.Table.{table}
use Rattle.spec_leaves.specs.Answer.{fine, refused, number, ◌then◌}
use Rattle.spec_protocol.specs.Checks.{require}
use Rattle.spec_protocol.specs.Parameters.{Parameters, parameters}
use Rattle.spec_protocol.specs.Layout.{Section, layout, ranged}
use Rattle.spec_protocol.specs.Views.{witness}
use Rattle.spec_protocol.specs.Formulas.{norm_of}
use Rattle.spec_protocol.proofs.Refuses.{Refuses, zero_well, ◌and◌, test, each, of_layout, of_ranges, of_job, of_scratch, of_output}
use Rattle.spec_sheds.specs.Runs.{Run, size, rows_section, p_section, projection_section, vectors_section, run_refusal, projection_refusal, vectors_refusal, lent_refusal}
use Rattle.spec_sheds.specs.Runs.{project_refusal, rows_refusal, run_norm, commit_rows, p_refusal, add_refusal}

-- the sections of a slice
of_slice : (n m : ℕ) → 0 < n → 0 < m → (ws : List ℕ) (ss : List Section) → Refuses (λ n. 0 < n) (layout n ws 0 ss then ranged m ws 0 ss)
of_slice n m h k ws ss = of_layout n h ws 0 ss and of_ranges m k ws 0 ss

-- the tests of a run's slices and buffers
of_run : (P : Parameters) (x : Run) → Refuses (λ n. 0 < n) (run_refusal P x)
unfolding run_refusal
of_run P x = test (dec_lt x.first x.end) 34 x.first (omega arith) and test (dec_le x.end P.r) 34 x.first (omega arith)

of_projection : (P : Parameters) (x : Run) (Π : List ℕ) → Refuses (λ n. 0 < n) (projection_refusal P x Π)
unfolding projection_refusal
of_projection P x Π = of_slice 7 8 (omega arith) (omega arith) Π (projection_section P x)

of_lent : (P : Parameters) (x : Run) (S : List ℕ) (scratch : ℕ) (made : List Section) (output : ℕ) → Refuses (λ n. 0 < n) (lent_refusal P x S scratch made output)
unfolding lent_refusal vectors_refusal
of_lent P x S scratch made output =
    of_slice 11 12 (omega arith) (omega arith) S (vectors_section P x) and of_scratch (λ n h. h.0) P scratch and of_output (λ n h. h.0) made output

-- the three calls
pub project_zero : (J : List ℕ) (x : Run) (Π S : List ℕ) (scratch output : ℕ) → number (project_refusal J x Π S scratch output) ≡ 0 → project_refusal J x Π S scratch output ≡ fine
unfolding project_refusal
project_zero J x Π S scratch output =
    let P = parameters J in
    zero_well (of_job (λ n h. h.0) J and of_run P x and of_projection P x Π and of_lent P x S scratch p_section output)

pub rows_zero : (J : List ℕ) (x : Run) (S : List ℕ) (scratch output : ℕ) → number (commit_rows J x S scratch output) ≡ 0 → commit_rows J x S scratch output ≡ fine
unfolding rows_refusal commit_rows run_norm
rows_zero J x S scratch output =
    let P = parameters J in
    zero_well
    (of_job (λ n h. h.0) J and of_run P x and of_lent P x S scratch (rows_section P x) output
    and each (size x) (λ i. require (dec_le (norm_of (table P.n (witness P S i))) P.bound_A) (refused 13 (x.first + i)))
    (λ i. test (dec_le (norm_of (table P.n (witness P S i))) P.bound_A) 13 (x.first + i) (omega arith)))

pub add-zero : (p q : List ℕ) (output : ℕ) → number (add_refusal p q output) ≡ 0 → add_refusal p q output ≡ fine
unfolding add_refusal p_refusal
add-zero p q output =
    zero_well (of_slice 9 10 (omega arith) (omega arith) p p_section and of_slice 9 10 (omega arith) (omega arith) q p_section and of_output (λ n h. h.0) p_section output)
