-- `slice_u1` meets its contract.
use mathlib.Core.Path.{refl, sym, ◌∙◌}
use Rattle.bench_calls.proofs.calls.slice_u1.Goals as goal

pub u1-requires : goal.u1-requires
u1-requires c = sym c.u1_fits.ensures ∙ c.if-u1_fits.true

pub returns-then-u1_fits : goal.returns-then-u1_fits
returns-then-u1_fits c = record { value = sym c.if-u1_fits.true ∙ c.u1_fits.ensures; out_after = c.u1.ensures }

pub returns-else-u1_fits : goal.returns-else-u1_fits
returns-else-u1_fits c = record { value = sym c.if-u1_fits.false ∙ c.u1_fits.ensures; out_after = refl }
