-- `phi` meets its contract.
use native.Mathlib.Omega.{arith}
use lib.ListN.{length}
use Rattle.bench_calls.proofs.Sizes.{phi-limits, phi_lengths}
use Rattle.bench_calls.proofs.work.phi.Goals as goal

pub overflow_mul-psi : goal.overflow_mul-psi
overflow_mul-psi c =
    let a = c.args in
    let h = phi_lengths (length a.phi.now) (length a.randomness.now) (length a.out.now) a.r a.n a.count a.number c.requires in
    let m = phi-limits a.r a.n a.count a.number h.0 in
    omega (arith, m)

pub overflow_mul-psi-2 : goal.overflow_mul-psi-2
overflow_mul-psi-2 c =
    let a = c.args in
    let h = phi_lengths (length a.phi.now) (length a.randomness.now) (length a.out.now) a.r a.n a.count a.number c.requires in
    let m = phi-limits a.r a.n a.count a.number h.0 in
    omega (arith, m)

pub overflow_mul-psi-3 : goal.overflow_mul-psi-3
overflow_mul-psi-3 c =
    let a = c.args in
    let h = phi_lengths (length a.phi.now) (length a.randomness.now) (length a.out.now) a.r a.n a.count a.number c.requires in
    let m = phi-limits a.r a.n a.count a.number h.0 in
    omega (arith, m)

pub overflow_mul-omega : goal.overflow_mul-omega
overflow_mul-omega c =
    let a = c.args in
    let h = phi_lengths (length a.phi.now) (length a.randomness.now) (length a.out.now) a.r a.n a.count a.number c.requires in
    let m = phi-limits a.r a.n a.count a.number h.0 in
    omega (arith, m)

pub overflow_add-omega : goal.overflow_add-omega
overflow_add-omega c =
    let a = c.args in
    let h = phi_lengths (length a.phi.now) (length a.randomness.now) (length a.out.now) a.r a.n a.count a.number c.requires in
    let m = phi-limits a.r a.n a.count a.number h.0 in
    omega (arith, m)

pub phi_double_prime-requires : goal.phi_double_prime-requires
phi_double_prime-requires c =
    let a = c.args in
    let h = phi_lengths (length a.phi.now) (length a.randomness.now) (length a.out.now) a.r a.n a.count a.number c.requires in
    let m = phi-limits a.r a.n a.count a.number h.0 in (
      record { within = omega (arith, h.1); narrow = omega (arith, m); few = omega (arith, m) },
      omega (arith, h.2, m),
      omega (arith, h.2, m),
      omega (arith, h.2, m),
      omega (arith, h.3),
      omega (arith, m),
      omega (arith, m),
    )
