-- `work` meets its contract.
use mathlib.Core.Path.{refl, ap, ◌∙◌}
use lib.ListN.{replicate}
use Rattle.math.specs.lists.Part.{splice}
use Rattle.spec_protocol.specs.Layout.{scratch_need}
use Rattle.relation_env_params.specs.Parameters.{parameters_of}
use Rattle.spec_sheds.proofs.Stored.{zeros_put}
use Rattle.shed_projection.proofs.work.Goals as goal

pub returns : goal.returns
returns c = record {
  number_value = (refl, refl);
  output_after = c.put_p.ensures;
  scratch_after = zeros_put (scratch_need (parameters_of c.args.params)) c.args.scratch.now _ c.requires.sized.1
      (c.clear.ensures ∙ ap (λ n. splice c.args.scratch.now 0 (replicate n 0)) c.scratch_length-need.ensures);
}
