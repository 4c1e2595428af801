use mathlib.Core.Path.{◌≡◌, refl, ap, ◌∙◌}
use mathlib.Core.Bool.{cond}
use mathlib.Core.List.{[]}
use native.Mathlib.Omega.{arith}
use Rattle.spec_leaves.specs.Answer.{fine, failed}
use Rattle.spec_protocol.specs.Checks.{first}
use Rattle.spec_protocol.proofs.First.{first_next}
use Rattle.verifier_common.proofs.Sent.{reckoned}
use Rattle.verifier_relations.specs.Weighed.{challenges_in}
use Rattle.verifier_relations.proofs.Sides.{az_test, column_requires, az_tested, az_fails, az-passes}
use Rattle.verify_many_checks.proofs.Stored.{rows_few, need_within, read_a}
use Rattle.verify_many_checks.proofs.check_az.Goals.{After-same}
use Rattle.verify_many_checks.proofs.check_az.Goals as goal

-- the test of row k
tested : (c : After-same)
    → let s = c.args in
    az_test s.job.now s.transcript.now (challenges_in s.window.now s.regions) c.loop-k.k ≡ cond c.same.result fine (failed 24 [])
tested c =
    let h = c.loop-k-test.true in
    az_tested c.args.job.now c.args.transcript.now c.args.params c.args.regions c.args.window.now c.requires.posed.0 c.requires.posed.1 _ _ _ c.loop-k.k _ _ c.same.result
    refl refl c.of_transcript-t_at.ensures
    (read_a _ _ _ c.requires.posed.0 c.args.window.now c.requires.rows_done c.loop-k.k _ h c.product-left.ensures) c.column_sum-right.ensures c.same.ensures

pub of_transcript-t_at-requires : goal.of_transcript-t_at-requires
of_transcript-t_at-requires c = (reckoned c.requires.posed.0, omega arith)

pub loop-k-init : goal.loop-k-init
unfolding first
loop-k-init c = (omega arith, refl)

pub product-left-requires : goal.product-left-requires
product-left-requires c =
    let posed = c.requires.posed.0 in
    (reckoned posed, omega (arith, rows_few _ _ _ posed), need_within _ _ _ posed c.args.window.now c.requires.posed.1.room)

pub column_sum-right-requires : goal.column_sum-right-requires
column_sum-right-requires c =
    let s = c.requires.posed in
    column_requires _ _ _ _ _ s.0 s.1 _ _ c.of_transcript-t_at.ensures c.loop-k-test.true

pub loop-k-preserved : goal.loop-k-preserved
loop-k-preserved c =
    let s = c.args in (
      omega arith,
      first_next c.loop-k.k (az_test s.job.now s.transcript.now (challenges_in s.window.now s.regions)) c.loop-k.invariant.1
          (tested (goal.at.loop-k-preserved c).After-same ∙ ap (λ t. cond t fine (failed 24 [])) c.if-not-same.false),
    )

pub returns-then-not-same : goal.returns-then-not-same
returns-then-not-same c =
    az_fails c.args.job.now c.args.transcript.now c.args.params c.args.regions c.args.window.now c.requires.posed.0 c.requires.posed.1
    (challenges_in c.args.window.now c.args.regions) c.loop-k.k c.loop-k-test.true c.loop-k.invariant.1
    (tested (goal.at.returns-then-not-same c).After-same ∙ ap (λ t. cond t fine (failed 24 [])) c.if-not-same.true)

pub returns : goal.returns
returns c =
    az-passes c.args.job.now c.args.transcript.now c.args.params c.args.regions c.args.window.now c.requires.posed.0 c.requires.posed.1
    (challenges_in c.args.window.now c.args.regions) c.loop-k.k (omega arith) c.loop-k.invariant.1
