-- `labrador_rq_left` meets its contract.
use Rattle.std.proofs.Common.{sym}
use Rattle.api_operands.proofs.Limits.{digit-limits}
use Rattle.labrador.proofs.digits.labrador_rq_left.Goals as goal

pub left_over-coeffs-requires : goal.left_over-coeffs-requires
left_over-coeffs-requires c = let a = c.args in (digit-limits a.base a.parts a.a.coeffs (sym c.in-Ok.ensures)).0
