-- `slice_inner_product` meets its contract.
use mathlib.Core.Path.{refl, sym, ◌∙◌}
use Rattle.bench_calls.proofs.calls.slice_inner_product.Goals as goal

pub inner_product-requires : goal.inner_product-requires
inner_product-requires c = sym c.inner_product_fits.ensures ∙ c.if-inner_product_fits.true

pub returns-then-inner_product_fits : goal.returns-then-inner_product_fits
returns-then-inner_product_fits c = record { value = sym c.if-inner_product_fits.true ∙ c.inner_product_fits.ensures; out_after = c.inner_product.ensures }

pub returns-else-inner_product_fits : goal.returns-else-inner_product_fits
returns-else-inner_product_fits c = record { value = sym c.if-inner_product_fits.false ∙ c.inner_product_fits.ensures; out_after = refl }
