-- `phi_and_b` meets its contract.
use mathlib.Core.Path.{sym, ap, ◌∙◌}
use Prim.Native.Nat.{◌*◌}
use native.Mathlib.Omega.{arith}
use Rattle.ring_rq_matrix.proofs.Place.{product_bound}
use Rattle.ring_rq_matrix.proofs.Fill.{length_filled}
use Rattle.core_aggregate_ntt.specs.Pass.{with_b''}
use Rattle.core_aggregate_ntt.proofs.Made.{chosen-first, chosen-second, pass_weights}
use Rattle.core_aggregate_ntt.proofs.one_pass.phi_and_b.Goals as goal

pub overflow_mul-width : goal.overflow_mul-width
overflow_mul-width c =
    omega (arith, product_bound c.args.r c.args.n c.requires.1.5 c.requires.1.6)

pub overflow_mul-step : goal.overflow_mul-step
overflow_mul-step c =
    omega (arith, product_bound c.args.r c.args.n c.requires.1.5 c.requires.1.6)

pub phi_and_b_ntt-requires : goal.phi_and_b_ntt-requires
phi_and_b_ntt-requires c =
    let chosen = pass_weights (c.args.r * c.args.n) c.args.constraints.count c.args.count (sym c.one_pass_is_faster.ensures ∙ c.if-one_pass_is_faster.true) in
    (c.requires, chosen.0, chosen.1)

pub b_double_prime-requires : goal.b_double_prime-requires
b_double_prime-requires c =
    let p = c.requires.1 in
    (p.0, p.1, p.2, omega (arith, p.3, length_filled _ _ _ _ c.aggregate.ensures), p.4, p.5, p.6)

pub returns-then-with_b : goal.returns-then-with_b
returns-then-with_b c =
    let s = c.args in
    chosen-first s.with_b _ _ _ c.if-with_b.true
    (c.b_double_prime.ensures
    ∙ ap (λ x. with_b'' x s.regions s.count s.r s.n s.witness.now s.s) c.aggregate.ensures)

pub returns-else-with_b : goal.returns-else-with_b
returns-else-with_b c =
    let s = c.args in
    chosen-second s.with_b _ _ _ c.if-with_b.false c.aggregate.ensures

pub one_pass_is_faster-requires : goal.one_pass_is_faster-requires
one_pass_is_faster-requires c = let p = c.requires.0 in (p.1.few, p.2.few)

pub aggregate-requires : goal.aggregate-requires
aggregate-requires c = c.requires.0
