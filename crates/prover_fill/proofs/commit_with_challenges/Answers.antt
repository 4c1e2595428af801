-- `commit_with_challenges` meets its contract.
use mathlib.Core.Path.{refl, ◌∙◌}
use native.Mathlib.Omega.{arith}
use Rattle.std.proofs.lemmas.Result.{err_from_is_err_and}
use Rattle.spec_protocol.specs.Prover.{round₄, round₅}
use Rattle.layout_sections.proofs.Then.{goes_on}
use Rattle.admission_slices.proofs.Stages.{stops_at}
use Rattle.core_workspace.proofs.Ready.{drawn_fewer}
use Rattle.prover_commit.proofs.Answers.{same-work}
use Rattle.prover_fill.proofs.Scratch.{challenges_need, c_stays, aggregated_of, last_filled}
use Rattle.prover_fill.proofs.commit_with_challenges.Goals as goal

pub commit_with_h-requires : goal.commit_with_h-requires
commit_with_h-requires c = (
  c.requires.0,
  drawn_fewer 7 5 c.args.job.now
      c.args.randomness.now (omega arith) c.requires.1,
)

pub generate_challenges-requires : goal.generate_challenges-requires
generate_challenges-requires c =
    challenges_need _ c.args.randomness.now c.args.witness.now _ _ _ c.requires.0 c.requires.1 _ c.commit_with_h.ensures.unchanged
    (aggregated_of c.args.with_b _ _ _ _ _ c.in_ok-commit_with_h.ensures.made)

pub returns-in_err-commit_with_h-clause-result_value : goal.returns-in_err-commit_with_h-clause-result_value
returns-in_err-commit_with_h-clause-result_value c =
    let a = c.args in
    let f = c.from_residual in
    let p = err_from_is_err_and f.result f.ensures.1 in
    rw (p.1, p.2) (stops_at _ _ c.in_err-commit_with_h.ensures.result_value ∙ same-work a.job.now a.randomness.now a.witness.now round₄ round₅ refl)

pub returns-in_err-commit_with_h-clause-unchanged : goal.returns-in_err-commit_with_h-clause-unchanged
returns-in_err-commit_with_h-clause-unchanged c = c.commit_with_h.ensures.unchanged

pub returns : goal.returns
returns c =
    let a = c.args in
    let m = c.commit_with_h.ensures in
    let made = c.in_ok-commit_with_h.ensures in
    let e = c.generate_challenges.ensures in record {
      result_value = goes_on made.result_value refl ∙ same-work a.job.now a.randomness.now a.witness.now round₄ round₅ refl;
      unchanged = c_stays _ a.randomness.now a.witness.now _ _ _ c.requires.0 c.requires.1 _ m.unchanged (aggregated_of a.with_b _ _ _ _ _ made.made) _ e;
      made = last_filled a.with_b _ a.randomness.now a.witness.now _ _ _ c.requires.0 c.requires.1 _ m.unchanged _ e made.made;
    }
