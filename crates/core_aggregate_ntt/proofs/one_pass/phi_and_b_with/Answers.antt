-- `phi_and_b_with` meets its contract.
use mathlib.Core.Path.{ap, ◌∙◌}
use Prim.Native.Nat.{ℕ, ◌*◌}
use native.Mathlib.Omega.{arith}
use borrow.Author.Rules.{rules}
use lib.ListN.{get_or, length-replicate}
use Rattle.math.specs.lists.Part.{splice}
use Rattle.ring_rq_matrix.proofs.Place.{product_bound}
use Rattle.ring_rq_matrix.proofs.Fill.{length_filled}
use Rattle.core_aggregate_ntt.proofs.Terms.{both_values}
use Rattle.core_aggregate_ntt.specs.Pass.{φ''_rows}
use Rattle.core_aggregate_ntt.proofs.Mixed.{ntt_mixed-all}
use Rattle.core_aggregate_ntt.proofs.Made.{chosen-first, chosen-second, pass_room, pass_made}
use mir.Val.{Fits}
use mir.Syntax.{w32}
use Rattle.core_aggregate_ntt.proofs.one_pass.phi_and_b_with.Goals as goal

pub overflow_mul-width : goal.overflow_mul-width
overflow_mul-width c =
    omega (arith, product_bound c.args.r c.args.n c.requires.0.1.5 c.requires.0.1.6)

pub overflow_mul-step : goal.overflow_mul-step
overflow_mul-step c =
    omega (arith, product_bound c.args.r c.args.n c.requires.0.1.5 c.requires.0.1.6)

pub weights_to_ntt_form-requires : goal.weights_to_ntt_form-requires
weights_to_ntt_form-requires c =
    let p = c.requires in
    (p.0.0.1, p.0.0.2, p.1, omega (arith, length-replicate {A = ℕ} 18432 0))

pub mix_runs-requires : goal.mix_runs-requires
mix_runs-requires c =
    let s = c.args in
    let transformed = c.weights_to_ntt_form.ensures in
    pass_room s.job.now s.constraints s.weights.now s.alpha s.beta s.scratch.now s.regions s.count s.r s.n s.witness.now s.s c.requires.0 _ _ c.requires.1
    c.requires.2 (omega arith) (omega arith)
    (both_values _ s.weights.now s.alpha s.beta s.constraints.count s.count transformed.0 transformed.1) (omega (arith, length-replicate {A = ℕ} 2048 0))

pub store_forms-requires : goal.store_forms-requires
store_forms-requires c =
    let made = c.mix_runs.ensures in
    let p = c.requires.0.1 in
    (p.0, p.1, omega (arith, p.3, length_filled _ _ _ _ made.scratch_after), omega (arith, made.totals_len_unchanged, length-replicate {A = ℕ} 2048 0), p.5)

pub mix_all-requires : goal.mix_all-requires
mix_all-requires c =
    let s = c.args in
    let p = c.requires.0.0 in
    let transformed = c.weights_to_ntt_form.ensures in
    let values = both_values _ s.weights.now s.alpha s.beta s.constraints.count s.count transformed.0 transformed.1 in
    (p.0, p.3, p.4, p.5, values, omega arith)

pub returns-then-with_b : goal.returns-then-with_b
returns-then-with_b c =
    let s = c.args in
    let made = c.mix_runs.ensures in
    let transformed = c.weights_to_ntt_form.ensures in
    chosen-first s.with_b _ _ _ c.if-with_b.true
    (pass_made s.job.now s.constraints s.weights.now s.alpha s.beta s.scratch.now s.regions s.count s.r s.n s.witness.now s.s c.requires.0 _ _ _ _
    c.requires.1 c.requires.2 transformed
    (λ j. omega (arith, c.type_inv.job j))
    (λ j. let f : Fits w32 (get_or s.scratch.now j 0) = search rules in omega arith)
    made.scratch_after made.has_lines c.store_forms.ensures)

pub returns-else-with_b : goal.returns-else-with_b
returns-else-with_b c =
    let s = c.args in
    let transformed = c.weights_to_ntt_form.ensures in
    chosen-second s.with_b _ _ _ c.if-with_b.false
    (c.mix_all.ensures
    ∙ ap (splice s.scratch.now s.regions.phi)
    (ntt_mixed-all s.job.now s.constraints s.scratch.now (φ''_rows s.regions s.count s.r s.n) (s.r * s.n) _ s.weights.now s.alpha s.beta (omega arith)
    transformed.0 transformed.1
    (λ j. omega (arith, c.type_inv.job j))
    (λ j. let f : Fits w32 (get_or s.scratch.now j 0) = search rules in omega arith)))
