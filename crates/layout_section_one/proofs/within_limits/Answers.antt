-- `within_limits` meets its contract.
use mathlib.Core.Path.{sym, ◌∙◌}
use native.Mathlib.Omega.{arith}
use Rattle.spec_protocol.specs.Parameters.{parameters, enough_aggregations}
use Rattle.layout_sections.proofs.Then.{stops, goes_on}
use Rattle.layout_section_one.proofs.Limits.{limits-by}
use Rattle.layout_section_one.proofs.within_limits.Goals as goal

pub enough_aggregations-requires : goal.enough_aggregations-requires
enough_aggregations-requires c =
    (omega arith, sym (c.in-None.ensures ∙ limits-by c.args.job.now c.least_l.result c.least_l.ensures))

pub returns-in-Some : goal.returns-in-Some
returns-in-Some c =
    let J = c.args.job.now in
    record { found = stops (enough_aggregations (parameters J)) (c.in-Some.ensures ∙ limits-by J c.least_l.result c.least_l.ensures); read = tt }

pub returns-in-None : goal.returns-in-None
returns-in-None c = record {
  found = goes_on (c.in-None.ensures ∙ limits-by c.args.job.now c.least_l.result c.least_l.ensures) c.enough_aggregations.ensures.found;
  read = c.enough_aggregations.ensures.read;
}
