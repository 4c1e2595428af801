-- `slice_phi` meets its contract.
use mathlib.Core.Path.{refl, sym, ◌∙◌}
use Rattle.bench_calls.proofs.calls.slice_phi.Goals as goal

pub phi-requires : goal.phi-requires
phi-requires c = sym c.phi_fits.ensures ∙ c.if-phi_fits.true

pub returns-then-phi_fits : goal.returns-then-phi_fits
returns-then-phi_fits c = record { value = sym c.if-phi_fits.true ∙ c.phi_fits.ensures; out_after = c.phi.ensures }

pub returns-else-phi_fits : goal.returns-else-phi_fits
returns-else-phi_fits c = record { value = sym c.if-phi_fits.false ∙ c.phi_fits.ensures; out_after = refl }
