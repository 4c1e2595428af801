-- `read` meets its contract.
use mathlib.Core.Path.{sym, ap, ◌∙◌}
use native.Mathlib.Omega.{arith}
use Rattle.spec_leaves.specs.Answer.{◌then◌}
use Rattle.spec_protocol.specs.Parameters.{parameters, limits, enough_aggregations}
use Rattle.spec_protocol.specs.Layout.{span, counted, first_section}
use Rattle.layout_sections.proofs.Then.{stops}
use Rattle.spec_protocol.proofs.Laid.{counted-inside}
use Rattle.layout_section_one.proofs.read.Goals as goal

pub within_limits-requires : goal.within_limits-requires
unfolding span
within_limits-requires c =
    let J = c.args.job.now in
    counted-inside 3 J 0 first_section (omega arith) (ap (counted 3 J 0) (sym c.first_sections.ensures) ∙ sym (c.in-Ok.ensures.by_index 3))

pub returns-in-Err : goal.returns-in-Err
returns-in-Err c =
    let J = c.args.job.now in
    let e = c.in-Err.ensures.by_index 3 ∙ ap (counted 3 J 0) c.first_sections.ensures in
    record { found = stops (enough_aggregations (parameters J)) (stops (limits (parameters J)) e); read = tt }

pub returns-in-Ok : goal.returns-in-Ok
returns-in-Ok c =
    let J = c.args.job.now in
    let e = c.in-Ok.ensures.by_index 3 ∙ ap (counted 3 J 0) c.first_sections.ensures in
    record {
      found = c.within_limits.ensures.found ∙ ap (λ a. a then limits (parameters J) then enough_aggregations (parameters J)) e;
      read = c.within_limits.ensures.read;
    }
