use mathlib.Core.Path.{◌≡◌, refl, ap, ◌∙◌}
use mathlib.Core.Bool.{cond}
use mathlib.Core.List.{[]}
use Prim.Native.Nat.{◌+◌, ◌*◌, ◌≤◌}
use native.Mathlib.Omega.{arith}
use lib.ListN.{length}
use Rattle.spec_leaves.specs.Answer.{fine, failed}
use Rattle.spec_protocol.specs.Checks.{first}
use Rattle.spec_protocol.proofs.First.{first_next}
use Rattle.verifier_common.proofs.Sent.{reckoned}
use Rattle.verifier_commitments.proofs.OuterLaws.{u₂-within}
use Rattle.verify_many_checks.proofs.Stored.{tests_fail, tests_pass, u2_test, u2_is, rows_few, need_within, u2_tested}
use Rattle.verify_many_checks.proofs.check_u2.Goals.{After-same, In-loop-k}
use Rattle.verify_many_checks.proofs.check_u2.Goals as goal

-- u2 lies within the transcript
within : (c : In-loop-k)
    → let s = c.args in
    c.of_transcript-u_at.result + 64 * s.params.kappa_2 ≤ length s.transcript.now
within c = u₂-within _ _ _ c.requires.posed.0 _ c.of_transcript-u_at.ensures

-- the test of row k
tested : (c : After-same)
    → let s = c.args in
    u2_test s.job.now s.transcript.now c.loop-k.k ≡ cond c.same.result fine (failed 29 [])
tested c =
    u2_tested c.args.job.now c.args.transcript.now c.args.params c.requires.posed.0 c.args.window.now c.requires.rows_done _ c.loop-k.k _ _ c.same.result
    c.loop-k-test.true c.of_transcript-u_at.ensures c.load-sent.ensures
    c.product.ensures c.same.ensures

pub of_transcript-u_at-requires : goal.of_transcript-u_at-requires
of_transcript-u_at-requires c = (reckoned c.requires.posed.0, omega arith)

pub loop-k-init : goal.loop-k-init
unfolding first
loop-k-init c = (omega arith, refl)

pub product-requires : goal.product-requires
product-requires c =
    (reckoned c.requires.posed.0, omega (arith, rows_few _ _ _ c.requires.posed.0), need_within _ _ _ c.requires.posed.0 c.args.window.now c.requires.posed.1)

pub loop-k-preserved : goal.loop-k-preserved
loop-k-preserved c =
    let s = c.args in (
      omega arith,
      first_next c.loop-k.k (u2_test s.job.now s.transcript.now) c.loop-k.invariant.1
          (tested (goal.at.loop-k-preserved c).After-same ∙ ap (λ t. cond t fine (failed 29 [])) c.if-not-same.false),
    )

pub returns-then-not-same : goal.returns-then-not-same
returns-then-not-same c =
    tests_fail _ c.loop-k.k (u2_test c.args.job.now c.args.transcript.now) 29 c.loop-k-test.true c.loop-k.invariant.1
    (tested (goal.at.returns-then-not-same c).After-same ∙ ap (λ t. cond t fine (failed 29 [])) c.if-not-same.true)
    ∙ u2_is c.args.job.now c.args.transcript.now c.args.params c.requires.posed.0

pub returns : goal.returns
returns c =
    tests_pass c.args.params.kappa_2 c.loop-k.k (u2_test c.args.job.now c.args.transcript.now) (omega arith) c.loop-k.invariant.1
    ∙ u2_is c.args.job.now c.args.transcript.now c.args.params c.requires.posed.0

pub overflow_add-d : goal.overflow_add-d
overflow_add-d c = omega (arith, rows_few _ _ _ c.requires.posed.0)

pub overflow_add-d-2 : goal.overflow_add-d-2
overflow_add-d-2 c = omega (arith, rows_few _ _ _ c.requires.posed.0)

pub overflow_mul-k : goal.overflow_mul-k
overflow_mul-k c = omega (arith, within (goal.at.overflow_mul-k c).In-loop-k)

pub overflow_add-u_at : goal.overflow_add-u_at
overflow_add-u_at c = omega (arith, within (goal.at.overflow_add-u_at c).In-loop-k)

pub load-sent-requires : goal.load-sent-requires
load-sent-requires c = omega (arith, within (goal.at.load-sent-requires c).In-loop-k)

pub overflow_add-d-in-loop-k : goal.overflow_add-d-in-loop-k
overflow_add-d-in-loop-k c = omega (arith, rows_few _ _ _ c.requires.posed.0)
