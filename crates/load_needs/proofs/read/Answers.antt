-- `read` meets its contract.
use mathlib.Core.Path.{ap, ◌∙◌}
use Rattle.std.proofs.lemmas.Result.{IfOk-weaker}
use Rattle.spec_protocol.specs.Parameters.{parameters}
use Rattle.layout_section_one.specs.SectionOne.{section_one}
use Rattle.load_needs.specs.Given.{given}
use Rattle.load_needs.proofs.Refusals.{only_limits}
use Rattle.load_needs.proofs.read.Goals as goal

pub returns : goal.returns
returns c =
    let e = c.section_one_words.ensures in
    record {
      found = c.read.ensures.found ∙ ap section_one e ∙ only_limits (given c.args.g);
      read = IfOk-weaker c.read.result _ _ (λ params same. same ∙ ap parameters e) c.read.ensures.read;
    }
