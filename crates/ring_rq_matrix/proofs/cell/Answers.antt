-- `cell` meets its contract.
use mathlib.Core.Path.{◌∙◌, ap, sym}
use Prim.Native.Nat.{◌+◌}
use native.Mathlib.Omega.{arith}
use Rattle.spec_protocol.proofs.Flat.{cell_lower, cell-upper}
use Rattle.ring_rq_matrix.proofs.Place.{product_bound}
use Rattle.ring_rq_matrix.proofs.cell.Goals as goal

pub overflow_add-result : goal.overflow_add-result
overflow_add-result c = omega (arith, c.cells.ensures, product_bound c.args.i c.args.i (omega arith) (omega arith))

pub overflow_add-result-else-j-i : goal.overflow_add-result-else-j-i
overflow_add-result-else-j-i c = omega (arith, c.cells-else-j-i.ensures, product_bound c.args.j c.args.j (omega arith) (omega arith))

pub returns-then-j-i : goal.returns-then-j-i
returns-then-j-i c = ap (λ t. t + c.args.j) c.cells.ensures ∙ sym (cell_lower c.args.i c.args.j (omega arith))

pub returns-else-j-i : goal.returns-else-j-i
returns-else-j-i c = ap (λ t. t + c.args.i) c.cells-else-j-i.ensures ∙ sym (cell-upper c.args.i c.args.j (omega arith))
