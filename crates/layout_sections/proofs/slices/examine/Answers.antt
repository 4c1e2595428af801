-- `examine` meets its contract.
use mathlib.Core.Path.{sym}
use native.Mathlib.Omega.{arith}
use Rattle.layout_sections.specs.Sections.{listed}
use Rattle.spec_protocol.proofs.Laid.{layout-whole}
use Rattle.layout_sections.proofs.slices.examine.Goals as goal

pub first_wrong-requires-2 : goal.first_wrong-requires-2
first_wrong-requires-2 c =
    omega (arith, layout-whole 0 c.args.words.now c.args.place (listed c.args.sections.now) c.requires (sym (c.in_default.ensures 0)))
