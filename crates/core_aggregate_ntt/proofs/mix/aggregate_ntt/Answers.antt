-- `aggregate_ntt` meets its contract.
use mathlib.Core.Path.{ap, ◌∙◌}
use Prim.Native.Nat.{ℕ}
use native.Mathlib.Omega.{arith}
use borrow.Author.Rules.{rules}
use lib.ListN.{get_or, length-replicate}
use Rattle.math.specs.lists.Part.{splice}
use Rattle.core_aggregate_ntt.proofs.Terms.{both_values}
use Rattle.core_aggregate_ntt.proofs.Mixed.{ntt_mixed-all}
use mir.Val.{Fits}
use mir.Syntax.{w32}
use Rattle.core_aggregate_ntt.proofs.mix.aggregate_ntt.Goals as goal

pub weights_to_ntt_form-requires : goal.weights_to_ntt_form-requires
weights_to_ntt_form-requires c =
    let p = c.requires in
    (p.0.1, p.0.2, p.1, omega (arith, length-replicate {A = ℕ} 18432 0))

pub mix_all-requires : goal.mix_all-requires
mix_all-requires c =
    let s = c.args in
    let p = c.requires in
    let transformed = c.weights_to_ntt_form.ensures in
    let values = both_values _ s.weights.now s.alpha s.beta s.constraints.count s.aggregated.count transformed.0 transformed.1 in
    (p.0.0, p.0.3, p.0.4, p.0.5, values, omega arith)

pub returns : goal.returns
returns c =
    let s = c.args in
    let transformed = c.weights_to_ntt_form.ensures in
    c.mix_all.ensures
    ∙ ap (splice s.scratch.now s.to)
    (ntt_mixed-all s.job.now s.constraints s.scratch.now s.aggregated s.width _ s.weights.now s.alpha s.beta (omega arith) transformed.0 transformed.1
    (λ j. omega (arith, c.type_inv.job j))
    (λ j. let f : Fits w32 (get_or s.scratch.now j 0) = search rules in omega arith))
