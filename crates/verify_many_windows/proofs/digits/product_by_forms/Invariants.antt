-- `product_by_forms` meets its contract. The invariant: the total is the product with the digits of the first c cells.
use mathlib.Core.Path.{◌≡◌}
use Prim.Native.Nat.{◌+◌, ◌-◌, ◌*◌, ◌≤◌}
use lib.ListN.{length}
use Rattle.spec_leaves.specs.Ring.{words}
use Rattle.ring_inner_product.specs.Run.{run}
use Rattle.spec_protocol.specs.Formulas.{dot}
use Rattle.verify_many_windows.proofs.digits.product_by_forms.Given as goal

abbrev pub invariant-loop-c : goal.invariant-loop-c
invariant-loop-c l =
    (l.c ≤ l.cells)
    × (l.column ≡ l.row + 64 * (l.c * l.parts))
    × (l.from ≡ l.at + 64 * (l.c * l.parts))
    × (length l.forms ≡ length l.initial.forms)
    × (l.total.coeffs ≡ words (dot (l.c * l.parts) (run l.matrix l.row 64) (run l.v l.at 64)))
