-- `of_randomness` meets its contract.
use mathlib.Core.Path.{ap, ◌∙◌}
use native.Mathlib.Omega.{arith}
use Rattle.spec_protocol.specs.Layout.{start}
use Rattle.layout_sizes.proofs.Tables.{table-spans}
use Rattle.layout_sizes.proofs.offsets.of_randomness.Goals as goal

pub start-requires : goal.start-requires
start-requires c = (omega (arith, c.requires.1), table-spans c.randomness_sections.ensures)

pub returns : goal.returns
returns c = c.start.ensures ∙ ap (λ l. start l c.args.m) c.randomness_sections.ensures.lists
