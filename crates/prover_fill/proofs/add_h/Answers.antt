-- `add_h` meets its contract.
use Rattle.prover_fill.proofs.ComputeH.{placed_then}
use Rattle.prover_fill.proofs.add_h.Goals as goal

pub compute_h-requires : goal.compute_h-requires
compute_h-requires c = c.requires

pub check_triangle-requires : goal.check_triangle-requires
check_triangle-requires c = let p = placed_then _ _ _ _ c.requires _ c.compute_h.ensures in (p.sized, p.h, p.sized.within.t₁.1)

pub returns : goal.returns
returns c = record { result_value = c.check_triangle.ensures; unchanged = c.compute_h.ensures }
