-- `judge_failed` meets its contract.
use mathlib.Core.Path.{sym, ap, ◌∙◌}
use Rattle.spec_leaves.specs.Answer.{of_failed}
use Rattle.mistyped.proofs.Verdicts.{failed_without}
use Rattle.mistyped.proofs.Judged.{judged_without, judged-with}
use borrow.Enum.Refused.{opened}
use Rattle.mistyped.proofs.call.judge_failed.Goals as goal

pub returns-in_default : goal.returns-in_default
returns-in_default c =
    judged_without c.args.job.now c.args.randomness.now c.args.transcript.now c.args.list.now c.requires.check_value (failed_without c.args.check (opened c.in_default.in_default-own.keys2))
    c.refused.result c.refused.ensures

pub returns : goal.returns
returns c =
    judged-with c.args.job.now c.args.randomness.now c.args.transcript.now c.args.list.now c.requires.sent.0 (sym (ap of_failed c.in-B0Mismatch.is) ∙ c.requires.check_value)
    c.enter_all-entries.ensures c.counted.result c.counted.ensures
