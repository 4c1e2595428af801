-- `check_phi` meets its contract.
use mathlib.Core.Path.{◌≡◌, ap, sym, ◌∙◌}
use mathlib.Core.Bool.{cond}
use mathlib.Core.List.{[]}
use native.Mathlib.Omega.{arith}
use Rattle.spec_leaves.specs.Answer.{fine, failed}
use Rattle.spec_leaves.specs.Ring.{element}
use Rattle.relation_env_params.specs.Parameters.{parameters_of}
use Rattle.verifier_common.proofs.Sent.{h-within}
use Rattle.verifier_relations.specs.Weighed.{challenges_in, phi_of}
use Rattle.verifier_relations.proofs.Sides.{weighted_requires, phi-answer}
use Rattle.verifier_relations.proofs.relations.check_phi.Goals.{After-same}
use Rattle.verifier_relations.proofs.relations.check_phi.Goals as goal

-- the check by the boolean's value
answer : (c : After-same)
    → let s = c.args in
    cond c.same.result fine (failed 26 []) ≡ phi_of (parameters_of s.params) s.transcript.now (challenges_in s.scratch.now s.regions) (element s.lines.coeffs)
answer c =
    phi-answer c.args.transcript.now c.args.params c.args.regions c.args.scratch.now c.requires.0 _ c.args.lines.coeffs _ _ c.same.result
    c.of_transcript-h_at.ensures c.sum_of_weighted-right.ensures c.add-twice.ensures c.same.ensures

pub of_transcript-h_at-requires : goal.of_transcript-h_at-requires
of_transcript-h_at-requires c = (c.requires.0.sized, omega arith)

pub sum_of_weighted-right-requires : goal.sum_of_weighted-right-requires
sum_of_weighted-right-requires c =
    weighted_requires c.args.transcript.now c.args.params c.args.regions c.args.scratch.now c.requires.0 _ c.requires.1
    (h-within _ _ c.requires.0 _ c.of_transcript-h_at.ensures)

pub returns-then-same : goal.returns-then-same
returns-then-same c = ap (λ t. cond t fine (failed 26 [])) (sym c.if-same.true) ∙ answer (goal.at.returns-then-same c).After-same

pub returns-else-same : goal.returns-else-same
returns-else-same c = ap (λ t. cond t fine (failed 26 [])) (sym c.if-same.false) ∙ answer (goal.at.returns-else-same c).After-same
