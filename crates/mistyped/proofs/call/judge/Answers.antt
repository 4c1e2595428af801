-- `judge` meets its contract.
use mathlib.Core.Path.{◌≡◌, sym, ap, ◌∙◌}
use borrow.Author.Rules.{rules}
use Rattle.spec_leaves.specs.Answer.{of_judged, of_refusal}
use Rattle.spec_protocol.specs.Mistyped.{verdict_of}
use Rattle.mistyped.proofs.Verdicts.{accepted_without, refused_without}
use Rattle.mistyped.proofs.Judged.{judged_without}
use Rattle.mistyped.proofs.call.judge.Goals as goal

pub returns-in-Ok : goal.returns-in-Ok
returns-in-Ok c =
    judged_without c.args.job.now c.args.randomness.now c.args.transcript.now c.args.list.now (sym (ap of_judged c.in-Ok.is) ∙ c.requires.verdict_value)
    (accepted_without _) c.refused.result c.refused.ensures

pub returns-in-Err-Refused : goal.returns-in-Err-Refused
returns-in-Err-Refused c =
    let verdict : of_refusal c.in-Err-Refused.refusal ≡ verdict_of c.args.job.now c.args.randomness.now c.args.transcript.now = search rules in
    judged_without c.args.job.now c.args.randomness.now c.args.transcript.now c.args.list.now verdict
    (refused_without c.in-Err-Refused.refusal) c.from.result c.from.ensures
