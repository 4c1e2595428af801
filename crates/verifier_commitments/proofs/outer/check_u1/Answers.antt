-- `check_u1` meets its contract.
use mathlib.Core.Path.{◌≡◌, refl, sym, ap, subst, ◌∙◌}
use mathlib.Core.Bool.{cond}
use mathlib.Core.List.{[]}
use Prim.Native.Nat.{◌+◌, ◌*◌, ◌≤◌}
use native.Mathlib.Omega.{arith}
use lib.ListN.{length}
use Rattle.spec_leaves.specs.Answer.{fine, failed}
use Rattle.spec_protocol.specs.Parameters.{parameters}
use Rattle.spec_protocol.specs.Layout.{scratch_need}
use Rattle.verifier_common.specs.Answers.{u1_differs}
use Rattle.ring_rq_matrix.proofs.Fill.{length_filled}
use Rattle.core_workspace.specs.Holds.{Unchanged}
use Rattle.verifier_common.proofs.Sent.{reckoned, received}
use Rattle.verifier_commitments.proofs.OuterLaws.{base_large, few_cells, few_words, few-t, t_cells, g_cells, B-within, C-within, u-within, u₁-within, u₁-answer, u_unchanged}
use Rattle.verifier_commitments.proofs.outer.check_u1.Goals.{After-compute_u1, After-same_words}
use Rattle.verifier_commitments.proofs.outer.check_u1.Goals as goal

-- the scratch keeps its length
size : (c : After-compute_u1)
    → length c.compute_u1.new.out ≡ length c.args.scratch.now
size c = length_filled _ c.args.scratch.now _ _ c.compute_u1.ensures

-- the check by the boolean's value
answer : (c : After-same_words)
    → let s = c.args in
    cond c.same_words.result fine (failed 28 []) ≡ u1_differs s.job.now s.transcript.now
answer c =
    u₁-answer c.args.job.now c.args.transcript.now c.args.params c.requires.0 c.args.regions c.args.scratch.now c.requires.1 _ _ _ _ _ _ _
    c.same_words.result
    c.of_transcript.ensures
    c.of_transcript-2.ensures
    c.triangle.ensures.0
    c.of_job-b_at.ensures c.of_job-c_at.ensures
    c.of_transcript-3.ensures
    c.compute_u1.ensures c.same_words.ensures

-- what is beyond the length needed is as it was
unchanged : (c : After-compute_u1)
    → let s = c.args in
    Unchanged (scratch_need (parameters s.job.now)) s.scratch.now c.compute_u1.new.out
unchanged c =
    u_unchanged _ _ _ c.requires.0 _ _ c.requires.1 _ _ _ (reckoned c.requires.0).within.κ₁.1 c.compute_u1.ensures

pub of_transcript-requires : goal.of_transcript-requires
of_transcript-requires c = (reckoned c.requires.0, omega arith)

pub of_transcript-requires-2 : goal.of_transcript-requires-2
of_transcript-requires-2 c = (reckoned c.requires.0, omega arith)

pub of_job-b_at-requires : goal.of_job-b_at-requires
of_job-b_at-requires c = (reckoned c.requires.0, omega arith)

pub of_job-c_at-requires : goal.of_job-c_at-requires
of_job-c_at-requires c = (reckoned c.requires.0, omega arith)

pub of_transcript-requires-3 : goal.of_transcript-requires-3
of_transcript-requires-3 c = (reckoned c.requires.0, omega arith)

pub overflow_mul-t : goal.overflow_mul-t
overflow_mul-t c = few_cells _ (few-t _ _ (received c.requires.0))

pub triangle-requires : goal.triangle-requires
triangle-requires c = (reckoned c.requires.0).within.r.1

pub compute_u1-requires : goal.compute_u1-requires
compute_u1-requires c =
    let w = c.requires.0 in
    let t = c.triangle.ensures in (
      B-within _ _ _ w _ c.of_job-b_at.ensures,
      t_cells _ _ (received w) _ _ c.of_transcript.ensures refl,
      C-within _ _ _ w _ _ c.of_job-c_at.ensures t.0,
      g_cells _ _ (received w) _ _ c.of_transcript-2.ensures t,
      base_large _ _ (received w),
      u-within _ _ _ w _ _ c.requires.1 _ (reckoned w).within.κ₁.1,
    )

pub overflow_mul-rows : goal.overflow_mul-rows
overflow_mul-rows c = few_words _ (reckoned c.requires.0).within.κ₁.1

pub same_words-requires : goal.same_words-requires
same_words-requires c =
    let h = u-within _ _ _ c.requires.0 _ _ c.requires.1 _ (reckoned c.requires.0).within.κ₁.1 in (
      u₁-within _ _ _ c.requires.0 _ c.of_transcript-3.ensures,
      subst (λ n. c.args.regions.u + 64 * c.args.params.kappa_1 ≤ n) (sym (size (goal.at.same_words-requires c).After-compute_u1)) h,
    )

pub returns-then-same_words : goal.returns-then-same_words
returns-then-same_words c = record {
  result_value = ap (λ t. cond t fine (failed 28 [])) (sym c.if-same_words.true)
      ∙ answer (goal.at.returns-then-same_words c).After-same_words;
  unchanged = unchanged (goal.at.returns-then-same_words c).After-compute_u1;
}

pub returns-else-same_words : goal.returns-else-same_words
returns-else-same_words c = record {
  result_value = ap (λ t. cond t fine (failed 28 [])) (sym c.if-same_words.false)
      ∙ answer (goal.at.returns-else-same_words c).After-same_words;
  unchanged = unchanged (goal.at.returns-else-same_words c).After-compute_u1;
}

pub shape_of-scratch-then-same_words : goal.shape_of-scratch-then-same_words
shape_of-scratch-then-same_words c = size (goal.at.shape_of-scratch-then-same_words c).After-compute_u1

pub shape_of-scratch-else-same_words : goal.shape_of-scratch-else-same_words
shape_of-scratch-else-same_words c = size (goal.at.shape_of-scratch-else-same_words c).After-compute_u1
