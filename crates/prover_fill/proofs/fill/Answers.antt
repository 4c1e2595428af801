-- `fill` meets its contract.
use mathlib.Core.Path.{refl, sym, ◌∙◌}
use Rattle.spec_protocol.specs.Prover.{round₁, round₂, round₅}
use Rattle.spec_protocol.specs.Prover.{whole as whole_call}
use Rattle.spec_protocol.proofs.Checks.{then_fine}
use Rattle.admission_slices.specs.declared.calls.Call.TheVariants as C
use Rattle.prover_commit.proofs.Answers.{first-work, same-work, fills, drawn_known}
use Rattle.prover_fill.proofs.fill.Goals as goal

pub commit_with_challenges-requires : goal.commit_with_challenges-requires
commit_with_challenges-requires c = (
  c.requires.0,
  drawn_known c.args.call C.Whole
      c.args.job.now c.args.randomness.now
      c.in-Whole.is c.requires.1,
)

pub returns-in-Whole : goal.returns-in-Whole
returns-in-Whole c =
    let a = c.args in
    let e = c.commit_with_challenges.ensures in
    let answer = sym (then_fine _) ∙ same-work a.job.now a.randomness.now a.witness.now round₅ whole_call refl in
    let whole = fills a.call C.Whole a.job.now a.randomness.now a.witness.now a.regions c.commit_with_challenges.result a.scratch.now _
    c.in-Whole.is (e.result_value ∙ answer, (e.unchanged, e.made)) in
    record { result_value = whole.0; unchanged = whole.1.0; made = whole.1.1 }

pub returns-in-Round1 : goal.returns-in-Round1
returns-in-Round1 c =
    let a = c.args in
    let e = c.commit.ensures in
    let whole = fills a.call C.Round1 a.job.now a.randomness.now a.witness.now a.regions c.commit.result a.scratch.now _
    c.in-Round1.is
    (e.result_value ∙ first-work a.job.now a.randomness.now a.witness.now round₁ refl, (e.unchanged, e.made)) in
    record { result_value = whole.0; unchanged = whole.1.0; made = whole.1.1 }

pub returns-in-Round2 : goal.returns-in-Round2
returns-in-Round2 c =
    let a = c.args in
    let e = c.commit-in-Round2.ensures in
    let whole = fills a.call C.Round2 a.job.now a.randomness.now a.witness.now a.regions c.commit-in-Round2.result a.scratch.now _
    c.in-Round2.is
    (e.result_value ∙ first-work a.job.now a.randomness.now a.witness.now round₂ refl, (e.unchanged, e.made)) in
    record { result_value = whole.0; unchanged = whole.1.0; made = whole.1.1 }

pub commit_with_b_double_prime-requires : goal.commit_with_b_double_prime-requires
commit_with_b_double_prime-requires c = (
  c.requires.0,
  drawn_known c.args.call C.Round3
      c.args.job.now c.args.randomness.now
      c.in-Round3.is c.requires.1,
)

pub returns-in-Round3 : goal.returns-in-Round3
returns-in-Round3 c =
    let a = c.args in
    let whole = fills a.call C.Round3 a.job.now a.randomness.now a.witness.now a.regions c.commit_with_b_double_prime.result a.scratch.now _
    c.in-Round3.is (c.commit_with_b_double_prime.ensures.result_value, (c.commit_with_b_double_prime.ensures.unchanged, c.commit_with_b_double_prime.ensures.made)) in
    record { result_value = whole.0; unchanged = whole.1.0; made = whole.1.1 }

pub commit_with_h-requires : goal.commit_with_h-requires
commit_with_h-requires c = (
  c.requires.0,
  drawn_known c.args.call
      C.Round4 c.args.job.now c.args.randomness.now
      c.in-Round4.is c.requires.1,
)

pub returns-in-Round4 : goal.returns-in-Round4
returns-in-Round4 c =
    let a = c.args in
    let whole = fills a.call C.Round4 a.job.now a.randomness.now a.witness.now a.regions c.commit_with_h.result a.scratch.now _
    c.in-Round4.is (c.commit_with_h.ensures.result_value, (c.commit_with_h.ensures.unchanged, c.commit_with_h.ensures.made)) in
    record { result_value = whole.0; unchanged = whole.1.0; made = whole.1.1 }

pub commit_with_challenges-requires-in-Round5 : goal.commit_with_challenges-requires-in-Round5
commit_with_challenges-requires-in-Round5 c = (
  c.requires.0,
  drawn_known c.args.call C.Round5
      c.args.job.now c.args.randomness.now
      c.in-Round5.is c.requires.1,
)

pub returns-in-Round5 : goal.returns-in-Round5
returns-in-Round5 c =
    let a = c.args in
    let whole = fills a.call C.Round5 a.job.now a.randomness.now a.witness.now a.regions c.commit_with_challenges-in-Round5.result a.scratch.now _
    c.in-Round5.is (c.commit_with_challenges-in-Round5.ensures.result_value, (c.commit_with_challenges-in-Round5.ensures.unchanged, c.commit_with_challenges-in-Round5.ensures.made)) in
    record { result_value = whole.0; unchanged = whole.1.0; made = whole.1.1 }

pub commit-requires : goal.commit-requires
commit-requires c = c.requires.0

pub commit-requires-in-Round2 : goal.commit-requires-in-Round2
commit-requires-in-Round2 c = c.requires.0
