-- `slice_projection` meets its contract.
use mathlib.Core.Path.{refl, sym, ◌∙◌}
use Rattle.bench_calls.proofs.calls.slice_projection.Goals as goal

pub projection-requires : goal.projection-requires
projection-requires c = sym c.projection_fits.ensures ∙ c.if-projection_fits.true

pub returns-then-projection_fits : goal.returns-then-projection_fits
returns-then-projection_fits c = record { value = sym c.if-projection_fits.true ∙ c.projection_fits.ensures; out_after = c.projection.ensures }

pub returns-else-projection_fits : goal.returns-else-projection_fits
returns-else-projection_fits c = record { value = sym c.if-projection_fits.false ∙ c.projection_fits.ensures; out_after = refl }
