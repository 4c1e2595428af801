-- `check_relation` meets its contract.
use mathlib.Core.Path.{◌≡◌, ap, sym, ◌∙◌}
use mathlib.Core.Bool.{cond}
use mathlib.Core.List.{[]}
use native.Mathlib.Omega.{arith}
use Rattle.spec_leaves.specs.Answer.{fine, failed}
use Rattle.spec_protocol.specs.Parameters.{parameters}
use Rattle.spec_protocol.specs.Views.{public, message}
use Rattle.spec_protocol.specs.Verifier.{check_27}
use Rattle.verifier_common.proofs.Sent.{received, g_within, h-within}
use Rattle.verifier_aggregated.proofs.Sides.{products_requires, diagonal_requires, mix_requires, relation-answer}
use Rattle.verifier_aggregated.proofs.check_relation.Goals.{After-same}
use Rattle.verifier_aggregated.proofs.check_relation.Goals as goal

-- the check by the boolean's value
answer : (c : After-same)
    → let s = c.args in
    cond c.same.result fine (failed 27 []) ≡ check_27 (public s.exchange.now.job.now s.exchange.now.randomness.now) (message (parameters s.exchange.now.job.now) s.exchange.now.transcript.now)
answer c =
    relation-answer c.args.exchange.now.job.now c.args.exchange.now.randomness.now c.args.exchange.now.transcript.now c.args.exchange.now.params c.args.regions c.args.scratch.now
    c.args.exchange.now.sent
    c.requires.0 _ _ _ _ _ _ _ _ _ _ _ _ c.same.result c.requires.1
    c.transcript_at-g_at.ensures c.transcript_at-h_at.ensures
    c.job_at.ensures c.randomness_at-alpha.ensures c.randomness_at-beta.ensures c.transcript_at.ensures
    c.sum_of_products-products.ensures c.diagonal_sum-diagonal.ensures c.mix-b.ensures
    c.add-twice.ensures c.add-left.ensures c.add.ensures c.same.ensures

pub sum_of_products-products-requires : goal.sum_of_products-products-requires
sum_of_products-products-requires c =
    products_requires _ _ _ _ _ _ c.args.exchange.now.sent c.requires.0 _ (g_within _ _ (received c.args.exchange.now.sent.posed) _ c.transcript_at-g_at.ensures)

pub diagonal_sum-diagonal-requires : goal.diagonal_sum-diagonal-requires
diagonal_sum-diagonal-requires c =
    diagonal_requires _ _ _ _ _ _ c.args.exchange.now.sent c.requires.0 _ (h-within _ _ (received c.args.exchange.now.sent.posed) _ c.transcript_at-h_at.ensures)

pub mix-b-requires : goal.mix-b-requires
mix-b-requires c =
    mix_requires _ _ _ _ _ _ c.args.exchange.now.sent c.requires.0 _ _ _ _ (omega arith) (omega arith) (omega arith)
    c.job_at.ensures c.randomness_at-alpha.ensures c.randomness_at-beta.ensures c.transcript_at.ensures

pub returns-then-same : goal.returns-then-same
returns-then-same c = ap (λ t. cond t fine (failed 27 [])) (sym c.if-same.true) ∙ answer (goal.at.returns-then-same c).After-same

pub returns-else-same : goal.returns-else-same
returns-else-same c = ap (λ t. cond t fine (failed 27 [])) (sym c.if-same.false) ∙ answer (goal.at.returns-else-same c).After-same
