-- `check_z_inner` meets its contract.
use mathlib.Core.Path.{◌≡◌, ap, sym, ◌∙◌}
use mathlib.Core.Bool.{cond}
use mathlib.Core.List.{[]}
use native.Mathlib.Omega.{arith}
use Rattle.spec_leaves.specs.Answer.{fine, failed}
use Rattle.relation_env_params.specs.Parameters.{parameters_of}
use Rattle.verifier_common.proofs.Sent.{z-run, g_within}
use Rattle.verifier_relations.specs.Weighed.{challenges_in, z_inner_of}
use Rattle.verifier_relations.proofs.Sides.{weighted_requires, z_inner-answer}
use Rattle.verifier_relations.proofs.relations.check_z_inner.Goals.{After-same}
use Rattle.verifier_relations.proofs.relations.check_z_inner.Goals as goal

-- the check by the boolean's value
answer : (c : After-same)
    → let s = c.args in
    cond c.same.result fine (failed 25 []) ≡ z_inner_of (parameters_of s.params) s.transcript.now (challenges_in s.scratch.now s.regions)
answer c =
    z_inner-answer c.args.transcript.now c.args.params c.args.regions c.args.scratch.now c.requires.0 _ _ _ _ c.same.result
    c.of_transcript-z_at.ensures c.of_transcript-g_at.ensures
    c.inner_product-left.ensures c.sum_of_weighted-right.ensures c.same.ensures

pub of_transcript-z_at-requires : goal.of_transcript-z_at-requires
of_transcript-z_at-requires c = (c.requires.0.sized, omega arith)

pub of_transcript-g_at-requires : goal.of_transcript-g_at-requires
of_transcript-g_at-requires c = (c.requires.0.sized, omega arith)

pub inner_product-left-requires : goal.inner_product-left-requires
inner_product-left-requires c =
    let z = z-run c.args.transcript.now c.args.params c.requires.0 _ c.of_transcript-z_at.ensures (omega arith) in
    (z, z)

pub sum_of_weighted-right-requires : goal.sum_of_weighted-right-requires
sum_of_weighted-right-requires c =
    weighted_requires c.args.transcript.now c.args.params c.args.regions c.args.scratch.now c.requires.0 _ c.requires.1
    (g_within _ _ c.requires.0 _ c.of_transcript-g_at.ensures)

pub returns-then-same : goal.returns-then-same
returns-then-same c = ap (λ t. cond t fine (failed 25 [])) (sym c.if-same.true) ∙ answer (goal.at.returns-then-same c).After-same

pub returns-else-same : goal.returns-else-same
returns-else-same c = ap (λ t. cond t fine (failed 25 [])) (sym c.if-same.false) ∙ answer (goal.at.returns-else-same c).After-same
