-- `first_sections` meets its contract.
use mathlib.Core.Path.{refl}
use Rattle.layout_sections.specs.Sections.{listed}
use Rattle.layout_section_one.proofs.first_sections.Goals as goal

pub returns : goal.returns
unfolding listed
returns c = refl
