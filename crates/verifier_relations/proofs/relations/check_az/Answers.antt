use mathlib.Core.Path.{◌≡◌, refl, ap, ◌∙◌}
use mathlib.Core.Bool.{cond}
use mathlib.Core.List.{[]}
use Prim.Native.Nat.{◌+◌, ◌*◌, ◌≤◌, ◌^◌}
use native.Mathlib.Omega.{arith}
use Rattle.spec_leaves.specs.Answer.{fine, failed}
use Rattle.spec_protocol.specs.Checks.{first}
use Rattle.spec_protocol.proofs.First.{first_next}
use Rattle.verifier_common.proofs.Sent.{reckoned}
use Rattle.verifier_relations.specs.Weighed.{challenges_in}
use Rattle.verifier_relations.proofs.Sides.{az_test, row_bounds, row_requires, column_requires, az_tested, az_fails, az-passes}
use Rattle.verifier_relations.proofs.relations.check_az.Goals.{After-same, In-loop-k}
use Rattle.verifier_relations.proofs.relations.check_az.Goals as goal

-- the places of row k are small
bounds : (c : In-loop-k)
    → let s = c.args in
    (c.loop-k.k * s.params.rank ≤ 1024) × (c.of_job-a_at.result + 64 * (c.loop-k.k * s.params.rank) ≤ 2 ^ 62)
bounds c =
    row_bounds _ _ _ _ _ c.requires.0 c.requires.1 _ _ (omega arith) c.of_job-a_at.ensures c.loop-k-test.true

-- the test of row k
tested : (c : After-same)
    → let s = c.args in
    az_test s.job.now s.transcript.now (challenges_in s.scratch.now s.regions) c.loop-k.k ≡ cond c.same.result fine (failed 24 [])
tested c =
    az_tested c.args.job.now c.args.transcript.now c.args.params c.args.regions c.args.scratch.now c.requires.0 c.requires.1 _ _ _
    c.loop-k.k _ _ c.same.result
    c.of_job-a_at.ensures c.of_transcript-z_at.ensures c.of_transcript-t_at.ensures
    c.inner_product-left.ensures c.column_sum-right.ensures c.same.ensures

pub of_job-a_at-requires : goal.of_job-a_at-requires
of_job-a_at-requires c = (reckoned c.requires.0, omega arith)

pub of_transcript-z_at-requires : goal.of_transcript-z_at-requires
of_transcript-z_at-requires c = (reckoned c.requires.0, omega arith)

pub of_transcript-t_at-requires : goal.of_transcript-t_at-requires
of_transcript-t_at-requires c = (reckoned c.requires.0, omega arith)

pub loop-k-init : goal.loop-k-init
unfolding first
loop-k-init c = (omega arith, refl)

pub overflow_mul-row : goal.overflow_mul-row
overflow_mul-row c = omega (arith, (bounds (goal.at.overflow_mul-row c).In-loop-k).0)

pub overflow_mul-row-in-loop-k : goal.overflow_mul-row-in-loop-k
overflow_mul-row-in-loop-k c = omega (arith, (bounds (goal.at.overflow_mul-row-in-loop-k c).In-loop-k).0)

pub overflow_add-row : goal.overflow_add-row
overflow_add-row c = omega (arith, (bounds (goal.at.overflow_add-row c).In-loop-k).1)

pub inner_product-left-requires : goal.inner_product-left-requires
inner_product-left-requires c =
    row_requires _ _ _ _ _ c.requires.0 c.requires.1 _ _ _ (omega arith) (omega arith) c.of_job-a_at.ensures
    c.of_transcript-z_at.ensures c.loop-k-test.true

pub column_sum-right-requires : goal.column_sum-right-requires
column_sum-right-requires c =
    column_requires _ _ _ _ _ c.requires.0 c.requires.1 _ _ c.of_transcript-t_at.ensures c.loop-k-test.true

pub loop-k-preserved : goal.loop-k-preserved
loop-k-preserved c =
    let s = c.args in (
      omega arith,
      first_next c.loop-k.k (az_test s.job.now s.transcript.now (challenges_in s.scratch.now s.regions)) c.loop-k.invariant.1
          (tested (goal.at.loop-k-preserved c).After-same ∙ ap (λ t. cond t fine (failed 24 [])) c.if-not-same.false),
    )

pub returns-then-not-same : goal.returns-then-not-same
returns-then-not-same c =
    az_fails c.args.job.now c.args.transcript.now c.args.params c.args.regions c.args.scratch.now c.requires.0 c.requires.1
    (challenges_in c.args.scratch.now c.args.regions) c.loop-k.k c.loop-k-test.true c.loop-k.invariant.1
    (tested (goal.at.returns-then-not-same c).After-same ∙ ap (λ t. cond t fine (failed 24 [])) c.if-not-same.true)

pub returns : goal.returns
returns c =
    az-passes c.args.job.now c.args.transcript.now c.args.params c.args.regions c.args.scratch.now c.requires.0 c.requires.1
    (challenges_in c.args.scratch.now c.args.regions) c.loop-k.k (omega arith) c.loop-k.invariant.1
