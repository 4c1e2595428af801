-- What the call answers and leaves, refused before its work or not.
use mathlib.Core.Path.{◌≡◌, sym, ap, subst, ◌∙◌}
use mathlib.Core.List.{List}
use Prim.Native.Nat.{ℕ, ◌≤◌}
use lib.ListN.{length}
use Rattle.spec_leaves.specs.Answer.{Answer, fine, result_of, ◌then◌}
use Rattle.spec_protocol.specs.Parameters.{parameters}
use Rattle.spec_protocol.specs.Layout.{scratch_need}
use Rattle.spec_protocol.specs.Prover.{zeroed}
use Rattle.relation_env_params.specs.declared.env_params.EnvironmentParameters.{EnvironmentParameters}
use Rattle.relation_env_params.specs.Parameters.{parameters_of}
use Rattle.spec_sheds.specs.Runs.{Run, rows_section, run_norm, rows_made, rows_refusal, commit_rows, rows_output, rows_scratch}
use Rattle.shed_admission.specs.declared.admission.RunRefusal.{RunRefusal}
use Rattle.shed_admission.specs.Admitted.{of_run_refusal, Runnable}
use Rattle.shed_admission.proofs.Order.{run_stops, run_refusal_none}

module _ (J : List ℕ) (x : Run) (S scratch output : List ℕ) where
  abbrev answer : Answer
  answer = rows_refusal J x S (length scratch) (length output)

  abbrev cleared : List ℕ
  cleared = zeroed (scratch_need (parameters J)) scratch

  -- a refusal leaves both buffers
  module _ (r : RunRefusal) (e : of_run_refusal r ≡ answer) where
    pub refused-answer : of_run_refusal r ≡ commit_rows J x S (length scratch) (length output)
    unfolding commit_rows
    refused-answer = run_stops r (run_norm J x S) e

    pub refused-output : output ≡ rows_output J x S scratch output
    unfolding rows_output
    refused-output = run_refusal_none r (rows_made J x S output) output ∙ ap (λ a. result_of a (rows_made J x S output) output) e

    pub refused-scratch : scratch ≡ rows_scratch J x S scratch output
    unfolding rows_scratch
    refused-scratch = run_refusal_none r cleared scratch ∙ ap (λ a. result_of a cleared scratch) e

  -- a call that is not refused before its work
  module _ (e : fine ≡ answer) where
    pub worked-answer : run_norm J x S ≡ commit_rows J x S (length scratch) (length output)
    unfolding commit_rows
    worked-answer = ap (λ a. a then run_norm J x S) e

    pub worked-output : rows_made J x S output ≡ rows_output J x S scratch output
    unfolding rows_output
    worked-output = ap (λ a. result_of a (rows_made J x S output) output) e

    module _ (params : EnvironmentParameters) (h : Runnable J x S (length scratch) (rows_section (parameters J) x) (length output) params) where
      pub scratch_fits : scratch_need (parameters_of params) ≤ length scratch
      scratch_fits = subst (λ Q. scratch_need Q ≤ length scratch) (sym h.given.in_job.same) h.scratch_fits

      pub worked-scratch : (exit : List ℕ) → exit ≡ zeroed (scratch_need (parameters_of params)) scratch → exit ≡ rows_scratch J x S scratch output
      unfolding rows_scratch
      worked-scratch exit f = f ∙ ap (λ Q. zeroed (scratch_need Q) scratch) h.given.in_job.same ∙ ap (λ a. result_of a cleared scratch) e
