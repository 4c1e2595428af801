-- `row_product` meets its contract: the forms have room in what is lent.
use native.Mathlib.Omega.{arith}
use Rattle.verify_many_windows.proofs.digits.row_product.Goals as goal

pub product_by_forms-requires : goal.product_by_forms-requires
product_by_forms-requires c = (c.requires.0, c.requires.1, c.requires.2, omega arith)

pub product_by_forms-requires-else-parts-le4 : goal.product_by_forms-requires-else-parts-le4
product_by_forms-requires-else-parts-le4 c = (c.requires.0, c.requires.1, c.requires.2, omega (arith, c.requires.2.few_parts))

pub returns-then-parts-le4 : goal.returns-then-parts-le4
returns-then-parts-le4 c = c.product_by_forms.ensures

pub returns-else-parts-le4 : goal.returns-else-parts-le4
returns-else-parts-le4 c = c.product_by_forms-else-parts-le4.ensures
