-- `commit_with_h` meets its contract.
use mathlib.Core.Path.{refl, ◌∙◌}
use Rattle.std.proofs.lemmas.Result.{err_from_is_err_and}
use Rattle.spec_protocol.specs.Prover.{round₄}
use Rattle.layout_sections.proofs.Then.{goes_on}
use Rattle.admission_slices.proofs.Stages.{stops_at}
use Rattle.prover_commit.proofs.Answers.{with_h}
use Rattle.prover_commit.proofs.Commitments.{where_made}
use Rattle.prover_fill.proofs.WithH.{double_prime_needs, pass_needs, unchanged_φ, weighed, weighed_after}
use Rattle.prover_fill.proofs.commit_with_h.Goals as goal

pub commit-requires : goal.commit-requires
commit-requires c = c.requires.0

pub double_prime-requires : goal.double_prime-requires
double_prime-requires c =
    double_prime_needs _ c.args.randomness.now c.args.witness.now _ _ _ c.requires.0 c.requires.1 _ c.commit.ensures.unchanged

pub weigh-requires : goal.weigh-requires
weigh-requires c =
    pass_needs _ c.args.randomness.now c.args.witness.now _ _ _ c.requires.0 c.requires.1 _
    c.commit.ensures.unchanged _ c.double_prime.ensures

pub returns-in_err-commit-clause-result_value : goal.returns-in_err-commit-clause-result_value
returns-in_err-commit-clause-result_value c =
    let a = c.args in
    let f = c.from_residual in
    let p = err_from_is_err_and f.result f.ensures.1 in
    rw (p.1, p.2) (stops_at _ _ c.in_err-commit.ensures.result_value ∙ with_h a.job.now a.randomness.now a.witness.now round₄ refl)

pub returns-in_err-commit-clause-unchanged : goal.returns-in_err-commit-clause-unchanged
returns-in_err-commit-clause-unchanged c = c.commit.ensures.unchanged

pub returns : goal.returns
returns c =
    let m = c.commit.ensures in
    let d = c.double_prime.ensures in
    let R = c.args.randomness.now in
    let W = c.args.witness.now in
    let unchanged = unchanged_φ _ R W _ _ _ c.requires.0 c.requires.1 _ m.unchanged _ d _ refl in
    let k = weighed _ R W _ _ _ c.requires.0 c.requires.1 _ m.unchanged _ d _ refl c.in_ok-commit.ensures.made in
    let h = c.weigh in
    let after = weighed_after _ R W _ _ _ c.requires.0 _ unchanged k c.args.with_b _ h.ensures.unchanged in record {
      result_value = goes_on c.in_ok-commit.ensures.result_value (h.ensures.result_value ∙ after.0) ∙ with_h c.args.job.now R W round₄ refl;
      unchanged = after.1.0;
      made = where_made h.result after.1.1;
    }
