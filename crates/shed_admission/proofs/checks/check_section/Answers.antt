-- `check_section` meets its contract.
use Rattle.layout_sizes.proofs.Tables.{listed_none, listed_more}
use Rattle.admission_slices.specs.Admission.{layout_number, word_number}
use Rattle.admission_slices.proofs.Found.{examined}
use Rattle.shed_admission.specs.Found.{one_refusal}
use Rattle.shed_admission.proofs.checks.check_section.Goals as goal

pub returns : goal.returns
unfolding one_refusal
returns c =
    let slice = c.args.slice in
    examined (layout_number slice) (word_number slice) _ 0 (listed_more _ _ c.canonical.ensures listed_none) c.check.ensures
