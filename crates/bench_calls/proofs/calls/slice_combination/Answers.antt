-- `slice_combination` meets its contract.
use mathlib.Core.Path.{refl, sym, ◌∙◌}
use Rattle.bench_calls.proofs.calls.slice_combination.Goals as goal

pub combination-requires : goal.combination-requires
combination-requires c = sym c.combination_fits.ensures ∙ c.if-combination_fits.true

pub returns-then-combination_fits : goal.returns-then-combination_fits
returns-then-combination_fits c = record { value = sym c.if-combination_fits.true ∙ c.combination_fits.ensures; out_after = c.combination.ensures }

pub returns-else-combination_fits : goal.returns-else-combination_fits
returns-else-combination_fits c = record { value = sym c.if-combination_fits.false ∙ c.combination_fits.ensures; out_after = refl }
