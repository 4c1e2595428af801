-- `commit_with_b_double_prime` meets its contract.
use mathlib.Core.Path.{refl, ◌∙◌}
use Rattle.std.proofs.lemmas.Result.{err_from_is_err_and}
use Rattle.spec_protocol.specs.Prover.{round₃}
use Rattle.layout_sections.proofs.Then.{goes_on}
use Rattle.admission_slices.proofs.Stages.{stops_at}
use Rattle.prover_commit.proofs.Answers.{without_h}
use Rattle.prover_commit.proofs.Commitments.{b''_fits, b''-made}
use Rattle.prover_fill.proofs.Scratch.{double_prime_needs, b''_needs, b''_there, round₃_unchanged}
use Rattle.prover_fill.proofs.commit_with_b_double_prime.Goals as goal

pub commit-requires : goal.commit-requires
commit-requires c = c.requires.0

pub double_prime-requires : goal.double_prime-requires
double_prime-requires c =
    double_prime_needs _ c.args.randomness.now c.args.witness.now _ _ _ c.requires.0 c.requires.1 _ c.commit.ensures.unchanged c.in_ok-commit.ensures.made

pub b_double_prime-requires : goal.b_double_prime-requires
b_double_prime-requires c =
    b''_fits _ _ _ _ _
    (b''_needs _ c.args.randomness.now c.args.witness.now _ _ _ c.requires.0 c.requires.1 _ c.commit.ensures.unchanged
    c.in_ok-commit.ensures.made _ c.double_prime.ensures).0

pub returns-in_err-commit-clause-result_value : goal.returns-in_err-commit-clause-result_value
returns-in_err-commit-clause-result_value c =
    let a = c.args in
    let f = c.from_residual in
    let p = err_from_is_err_and f.result f.ensures.1 in
    rw (p.1, p.2) (stops_at _ _ c.in_err-commit.ensures.result_value ∙ without_h a.job.now a.randomness.now a.witness.now round₃ refl)

pub returns-in_err-commit-clause-unchanged : goal.returns-in_err-commit-clause-unchanged
returns-in_err-commit-clause-unchanged c = c.commit.ensures.unchanged

pub returns : goal.returns
returns c =
    let a = c.args in
    let made = c.in_ok-commit.ensures in
    let n = b''_needs _ a.randomness.now a.witness.now _ _ _ c.requires.0 c.requires.1 _ c.commit.ensures.unchanged made.made _
    c.double_prime.ensures in
    let e = b''-made _ a.witness.now _ _ _ n.0 a.randomness.now _ n.1 n.2 n.3 c.b_double_prime.ensures in record {
      result_value = goes_on made.result_value refl ∙ without_h a.job.now a.randomness.now a.witness.now round₃ refl;
      unchanged = round₃_unchanged _ a.randomness.now a.witness.now _ _ _ c.requires.0 c.requires.1 _ c.commit.ensures.unchanged made.made _
          c.double_prime.ensures _ e;
      made = b''_there _ a.randomness.now a.witness.now _ _ _ c.requires.0 c.requires.1 _ c.commit.ensures.unchanged made.made _
          c.double_prime.ensures _ e;
    }
