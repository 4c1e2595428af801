-- `projection` meets its contract.
use native.Mathlib.Omega.{arith}
use lib.ListN.{length}
use Rattle.bench_calls.proofs.Sizes.{projection_sizes}
use Rattle.bench_calls.proofs.work.projection.Goals as goal

pub project_run-requires : goal.project_run-requires
project_run-requires c =
    let a = c.args in
    let h = projection_sizes (length a.pi.now) (length a.s.now) (length a.out.now) a.n a.r c.requires in (
      record { matrices = omega (arith, h); vectors = omega (arith, h); narrow = omega (arith, h); few = omega (arith, h) },
      omega (arith, h),
    )
