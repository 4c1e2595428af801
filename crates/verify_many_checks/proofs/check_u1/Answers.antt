use mathlib.Core.Path.{◌≡◌, refl, ap, ◌∙◌}
use mathlib.Core.Bool.{cond}
use mathlib.Core.List.{[]}
use Prim.Native.Nat.{◌+◌, ◌*◌, ◌≤◌}
use native.Mathlib.Omega.{arith}
use lib.ListN.{length}
use Rattle.spec_leaves.specs.Answer.{fine, failed}
use Rattle.spec_protocol.specs.Checks.{first}
use Rattle.spec_protocol.proofs.First.{first_next}
use Rattle.verifier_common.proofs.Sent.{reckoned}
use Rattle.verifier_commitments.proofs.OuterLaws.{u₁-within}
use Rattle.verify_many_checks.proofs.Stored.{tests_fail, tests_pass, u1_test, u1_is, rows_few, need_within, u1_tested}
use Rattle.verify_many_checks.proofs.check_u1.Goals.{After-same, In-loop-k}
use Rattle.verify_many_checks.proofs.check_u1.Goals as goal

-- u1 lies within the transcript
within : (c : In-loop-k)
    → let s = c.args in
    c.of_transcript-u_at.result + 64 * s.params.kappa_1 ≤ length s.transcript.now
within c = u₁-within _ _ _ c.requires.posed.0 _ c.of_transcript-u_at.ensures

-- the test of row k
tested : (c : After-same)
    → let s = c.args in
    u1_test s.job.now s.transcript.now c.loop-k.k ≡ cond c.same.result fine (failed 28 [])
tested c =
    u1_tested c.args.job.now c.args.transcript.now c.args.params c.requires.posed.0 c.args.window.now c.requires.rows_done _ c.loop-k.k _ _ _ _ c.same.result
    c.loop-k-test.true c.of_transcript-u_at.ensures c.load-sent.ensures
    c.product-left.ensures c.product-right.ensures c.add.ensures c.same.ensures

pub of_transcript-u_at-requires : goal.of_transcript-u_at-requires
of_transcript-u_at-requires c = (reckoned c.requires.posed.0, omega arith)

pub loop-k-init : goal.loop-k-init
unfolding first
loop-k-init c = (omega arith, refl)

pub product-left-requires : goal.product-left-requires
product-left-requires c =
    (reckoned c.requires.posed.0, omega (arith, rows_few _ _ _ c.requires.posed.0), need_within _ _ _ c.requires.posed.0 c.args.window.now c.requires.posed.1)

pub product-right-requires : goal.product-right-requires
product-right-requires c =
    (reckoned c.requires.posed.0, omega (arith, rows_few _ _ _ c.requires.posed.0), need_within _ _ _ c.requires.posed.0 c.args.window.now c.requires.posed.1)

pub loop-k-preserved : goal.loop-k-preserved
loop-k-preserved c =
    let s = c.args in (
      omega arith,
      first_next c.loop-k.k (u1_test s.job.now s.transcript.now) c.loop-k.invariant.1
          (tested (goal.at.loop-k-preserved c).After-same ∙ ap (λ t. cond t fine (failed 28 [])) c.if-not-same.false),
    )

pub returns-then-not-same : goal.returns-then-not-same
returns-then-not-same c =
    tests_fail _ c.loop-k.k (u1_test c.args.job.now c.args.transcript.now) 28 c.loop-k-test.true c.loop-k.invariant.1
    (tested (goal.at.returns-then-not-same c).After-same ∙ ap (λ t. cond t fine (failed 28 [])) c.if-not-same.true)
    ∙ u1_is c.args.job.now c.args.transcript.now c.args.params c.requires.posed.0

pub returns : goal.returns
returns c =
    tests_pass c.args.params.kappa_1 c.loop-k.k (u1_test c.args.job.now c.args.transcript.now) (omega arith) c.loop-k.invariant.1
    ∙ u1_is c.args.job.now c.args.transcript.now c.args.params c.requires.posed.0

pub overflow_add-c : goal.overflow_add-c
overflow_add-c c = omega (arith, rows_few _ _ _ c.requires.posed.0)

pub overflow_mul-k : goal.overflow_mul-k
overflow_mul-k c = omega (arith, within (goal.at.overflow_mul-k c).In-loop-k)

pub overflow_add-u_at : goal.overflow_add-u_at
overflow_add-u_at c = omega (arith, within (goal.at.overflow_add-u_at c).In-loop-k)

pub load-sent-requires : goal.load-sent-requires
load-sent-requires c = omega (arith, within (goal.at.load-sent-requires c).In-loop-k)

pub overflow_add-b : goal.overflow_add-b
overflow_add-b c = omega (arith, rows_few _ _ _ c.requires.posed.0)

pub overflow_add-c-in-loop-k : goal.overflow_add-c-in-loop-k
overflow_add-c-in-loop-k c = omega (arith, rows_few _ _ _ c.requires.posed.0)
