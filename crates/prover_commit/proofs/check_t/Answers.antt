-- `check_t` meets its contract.
use Rattle.prover_commit.proofs.Room.{fits_product, base-room, t_cells}
use Rattle.prover_commit.proofs.check_t.Goals as goal

pub overflow_mul-t : goal.overflow_mul-t
overflow_mul-t c = let l = c.requires.sized.within in fits_product _ _ l.r.1 l.κ.1

pub check_digits-requires : goal.check_digits-requires
check_digits-requires c = (t_cells _ _ _ c.requires, base-room _ _ _ c.requires)
