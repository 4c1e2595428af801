-- `triangle` meets its contract.
use Prim.Native.Nat.{◌*◌, ◌≤◌}
use native.Mathlib.Nat.{mul-le-mul}
use native.Mathlib.Omega.{arith}
use Rattle.layout_sizes.proofs.slices.triangle.Goals as goal

pub returns : goal.returns
returns c = let r = c.args.r in let square : r * r ≤ 256 = mul-le-mul c.requires c.requires in (c.cells.ensures, omega arith)
