-- `u1` meets its contract.
use native.Mathlib.Omega.{arith}
use lib.ListN.{length}
use Rattle.bench_calls.proofs.Sizes.{u1_limits, u1_lengths}
use Rattle.bench_calls.proofs.work.u1.Goals as goal

pub overflow_mul-c_at : goal.overflow_mul-c_at
overflow_mul-c_at c =
    let a = c.args in
    let h = u1_lengths (length a.matrices.now) (length a.from.now) (length a.out.now) a.rows a.t_cells a.t_parts a.g_cells a.g_parts a.base
    c.requires in
    let m = u1_limits a.rows a.t_cells a.t_parts a.g_cells a.g_parts a.base h.0 in
    omega (arith, m)

pub overflow_mul-c_at-2 : goal.overflow_mul-c_at-2
overflow_mul-c_at-2 c =
    let a = c.args in
    let h = u1_lengths (length a.matrices.now) (length a.from.now) (length a.out.now) a.rows a.t_cells a.t_parts a.g_cells a.g_parts a.base
    c.requires in
    let m = u1_limits a.rows a.t_cells a.t_parts a.g_cells a.g_parts a.base h.0 in
    omega (arith, m)

pub overflow_mul-c_at-3 : goal.overflow_mul-c_at-3
overflow_mul-c_at-3 c =
    let a = c.args in
    let h = u1_lengths (length a.matrices.now) (length a.from.now) (length a.out.now) a.rows a.t_cells a.t_parts a.g_cells a.g_parts a.base
    c.requires in
    let m = u1_limits a.rows a.t_cells a.t_parts a.g_cells a.g_parts a.base h.0 in
    omega (arith, m)

pub overflow_mul-g_at : goal.overflow_mul-g_at
overflow_mul-g_at c =
    let a = c.args in
    let h = u1_lengths (length a.matrices.now) (length a.from.now) (length a.out.now) a.rows a.t_cells a.t_parts a.g_cells a.g_parts a.base
    c.requires in
    let m = u1_limits a.rows a.t_cells a.t_parts a.g_cells a.g_parts a.base h.0 in
    omega (arith, m)

pub compute_u1-requires : goal.compute_u1-requires
compute_u1-requires c =
    let a = c.args in
    let h = u1_lengths (length a.matrices.now) (length a.from.now) (length a.out.now) a.rows a.t_cells a.t_parts a.g_cells a.g_parts a.base
    c.requires in
    let m = u1_limits a.rows a.t_cells a.t_parts a.g_cells a.g_parts a.base h.0 in (
      omega (arith, h.1),
      record { within = omega (arith, h.2); few_cells = omega (arith, m); few_parts = omega (arith, m) },
      omega (arith, h.1),
      record { within = omega (arith, h.2); few_cells = omega (arith, m); few_parts = omega (arith, m) },
      omega (arith, m),
      omega (arith, h.3),
    )
