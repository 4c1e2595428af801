-- `phi_double_prime` meets its contract.
use Prim.Native.Nat.{◌+◌, ◌*◌}
use Rattle.core_jl_transpose.specs.Omega.{omega_element}
use Rattle.core_aggregate_psi.specs.Grid.{weighed}
use Rattle.core_aggregate.specs.Weighed.{both}
use Rattle.core_aggregate.proofs.Sums.{lists-added}
use Rattle.core_aggregate.proofs.phi_double_prime.Goals as goal

pub returns : goal.returns
unfolding both
returns c =
    let s = c.args in
    let h = c.requires in
    lists-added s.aggregations s.r s.n _ _ _ s.to
    (λ k i. omega_element s.randomness.now (s.pi_at + i * 256 * (64 * s.n)) (s.omega_at + k * 256) s.n)
    (λ k. weighed s.job.now s.at (s.r * s.n) s.count s.randomness.now (s.psi_at + k * s.count))
    h.4
    c.omega_all.ensures
    c.add_weighed_rows.ensures
