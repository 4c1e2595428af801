-- What the call answers and leaves, refused or not.
use mathlib.Core.Path.{◌≡◌, sym, ap, subst, ◌∙◌}
use mathlib.Core.List.{List}
use Prim.Native.Nat.{ℕ, ◌+◌, ◌*◌, ◌≤◌}
use native.Mathlib.Omega.{arith}
use lib.ListN.{length}
use Rattle.math.specs.lists.Table.{table}
use Rattle.math.proofs.lists.Table.{table_ext}
use Rattle.spec_leaves.specs.Answer.{Answer, fine, result_of}
use Rattle.spec_protocol.specs.Parameters.{parameters}
use Rattle.spec_protocol.specs.Layout.{span, start, scratch_need}
use Rattle.spec_protocol.specs.Prover.{zeroed}
use Rattle.core_jl.specs.Run as Jl
use Rattle.core_jl.specs.Run.{Within}
use Rattle.core_jl.proofs.Formula.{run_of_first}
use Rattle.relation_env_params.specs.declared.env_params.EnvironmentParameters.{EnvironmentParameters}
use Rattle.relation_env_params.specs.Parameters.{parameters_of}
use Rattle.spec_sheds.specs.Runs.{Run, size, p_section, stored, run_p, project_refusal, project_output, project_scratch}
use Rattle.api_answers.specs.declared.verdicts.LabradorAnswer.{LabradorAnswer}
use Rattle.api_answers.specs.Calls.{labrador_answer}
use Rattle.shed_admission.specs.declared.admission.RunRefusal.{RunRefusal}
use Rattle.shed_admission.specs.Admitted.{of_run_refusal, Projectable}
use Rattle.shed_admission.proofs.Order.{run_refusal_none}

module _ (J : List ℕ) (x : Run) (Π S scratch output : List ℕ) where
  abbrev answer : Answer
  answer = project_refusal J x Π S (length scratch) (length output)

  abbrev made : List ℕ
  made = stored p_section (table 256 (run_p J x Π S)) output

  abbrev cleared : List ℕ
  cleared = zeroed (scratch_need (parameters J)) scratch

  -- a refusal leaves both buffers
  module _ (r : RunRefusal) (e : of_run_refusal r ≡ answer) where
    pub refused-output : output ≡ project_output J x Π S scratch output
    unfolding project_output
    refused-output = run_refusal_none r made output ∙ ap (λ a. result_of a made output) e

    pub refused-scratch : scratch ≡ project_scratch J x Π S scratch output
    unfolding project_scratch
    refused-scratch = run_refusal_none r cleared scratch ∙ ap (λ a. result_of a cleared scratch) e

  -- what the work needs of a call that is refused nothing, and what it leaves
  module _ (params : EnvironmentParameters) (h : Projectable J x Π S (length scratch) (length output) params) where
    same : parameters_of params ≡ parameters J
    same = h.runnable.given.in_job.same

    pub within : Within Π 1 S 1 params.rank (size x)
    unfolding span
    within =
        let n : params.rank ≡ (parameters J).n = ap (λ Q. Q.n) same in
        subst (λ n. Within Π 1 S 1 n (size x)) (sym n)
        (record {
          matrices = matrices (parameters J).n (size x) (length Π) h.projection.whole;
          vectors = vectors (parameters J).n (size x) (length S) h.runnable.given.vectors.whole;
          narrow = omega (arith, h.runnable.given.in_job.sound.within.n.1);
          few = omega (arith, h.runnable.given.in_job.within, h.runnable.given.in_job.sound.within.r.1);
        })
      where
        matrices : (n count l : ℕ) → l ≡ 0 + (1 + 16384 * n * count + 0) → 1 + count * 256 * (64 * n) ≤ l
        matrices n count l e = omega arith

        vectors : (n count l : ℕ) → l ≡ 0 + (1 + 64 * (count * n) + 0) → 1 + count * (64 * n) ≤ l
        vectors n count l e = omega arith

    pub output_fits : 257 ≤ length output
    unfolding span
    output_fits = h.runnable.given.output_fits

    pub scratch_fits : scratch_need (parameters_of params) ≤ length scratch
    scratch_fits = subst (λ Q. scratch_need Q ≤ length scratch) (sym same) h.runnable.scratch_fits

    module _ (e : fine ≡ answer) where
      pub worked-output : (exit : List ℕ) → exit ≡ stored p_section (Jl.run Π 1 S 1 params.rank 0 (size x)) output → exit ≡ project_output J x Π S scratch output
      unfolding project_output run_p start
      worked-output exit f =
          let n : params.rank ≡ (parameters J).n = ap (λ Q. Q.n) same in
          f
          ∙ ap (λ n. stored p_section (Jl.run Π 1 S 1 n 0 (size x)) output) n
          ∙ ap (λ ws. stored p_section ws output) (table_ext 256 (Jl.run_row Π 1 S 1 (parameters J).n 0 (size x)) (run_p J x Π S) (λ j l. run_of_first J Π S (size x) j))
          ∙ ap (λ a. result_of a made output) e

      pub worked-scratch : (exit : List ℕ) → exit ≡ zeroed (scratch_need (parameters_of params)) scratch → exit ≡ project_scratch J x Π S scratch output
      unfolding project_scratch
      worked-scratch exit f = f ∙ ap (λ Q. zeroed (scratch_need Q) scratch) same ∙ ap (λ a. result_of a cleared scratch) e

-- an answer of no refusal
pub made-answer : (r : LabradorAnswer) → r.number ≡ 0 → r.place ≡ 0 → r ≡ labrador_answer fine
made-answer r a b i = record { number = a i; place = b i }
