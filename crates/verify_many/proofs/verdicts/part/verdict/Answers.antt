-- `verdict` meets its contract.
use mathlib.Core.Path.{sym, ap, ◌∙◌}
use Rattle.spec_leaves.specs.Answer.{is_fine, of_result}
use Rattle.api_answers.specs.Calls.{labrador_verdict}
use Rattle.core_workspace.proofs.Unchanged.{unchanged_refl}
use Rattle.verify_many_admission.proofs.Verdicts.{part-refused}
use Rattle.verify_many.proofs.verdicts.part.verdict.Goals as goal

pub judge_part-judged-requires : goal.judge_part-judged-requires
judge_part-judged-requires c =
    let e = sym c.requires.found_value ∙ ap of_result c.in-Ok.is in
    record { many_given = c.requires.many_given; m_value = e; part_ready = c.requires.ready_if_passing (ap is_fine e) }

pub returns-in-Err : goal.returns-in-Err
returns-in-Err c =
    let a = c.args in record {
      value = c.from-in-Err.ensures
          ∙ ap labrador_verdict (part-refused a.job.now a.count a.randomness.now a.transcripts.now a.m c.requires.many_given.0.fit c.in-Err.refusal
          (sym (ap of_result c.in-Err.is) ∙ c.requires.found_value));
      unchanged = unchanged_refl _ _;
    }

pub returns-in-Ok : goal.returns-in-Ok
returns-in-Ok c = let e = c.judge_part-judged.ensures in record { value = c.from-in-Ok.ensures ∙ ap labrador_verdict (c.from.ensures ∙ e.result_value); unchanged = e.unchanged }
