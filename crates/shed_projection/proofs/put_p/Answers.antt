-- `put_p` meets its contract.
use mathlib.Core.Path.{ap, ◌∙◌}
use native.Mathlib.Omega.{arith}
use lib.ListN.{length, length-set}
use Rattle.math.proofs.lists.Splice.{length-splice}
use Rattle.math.proofs.lists.Table.{length-table}
use Rattle.spec_protocol.specs.Layout.{span}
use Rattle.spec_sheds.specs.Runs.{p_section}
use Rattle.spec_sheds.proofs.Stored.{section_put}
use Rattle.shed_projection.proofs.put_p.Goals as goal

pub shape_of-output : goal.shape_of-output
shape_of-output c = ap length c.project_run.ensures ∙ length-splice _ _ _ ∙ simp length-set

pub returns : goal.returns
unfolding span
returns c = section_put p_section c.args.output.now _ 256 _ (length-table 256 _) (omega arith)
    (omega (arith, c.requires.1)) c.project_run.ensures
