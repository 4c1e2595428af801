-- `cells` meets its contract.
use Prim.Native.Nat.{◌*◌, ◌≤◌}
use native.Mathlib.Nat.{mul-le-mul}
use native.Mathlib.Omega.{arith}
use Rattle.ring_rq_matrix.proofs.triangles.cells.Goals as goal

pub overflow_mul-result : goal.overflow_mul-result
overflow_mul-result c = let r = c.args.r in let square : r * r ≤ 4096 = mul-le-mul c.requires c.requires in omega arith
