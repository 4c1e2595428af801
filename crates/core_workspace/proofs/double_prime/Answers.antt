-- `double_prime` meets its contract.
use mathlib.Core.Path.{◌∙◌, ap}
use native.Mathlib.Omega.{arith}
use lib.ListN.{length}
use Rattle.math.proofs.lists.Splice.{length-splice}
use Rattle.core_workspace.proofs.Ready.{ready-changed, drawn_fewer}
use Rattle.core_workspace.proofs.Steps.{double_prime_made}
use Rattle.core_workspace.proofs.double_prime.Goals as goal

pub a_double_prime-requires : goal.a_double_prime-requires
a_double_prime-requires c = (
  ready-changed _ _ _ _ c.requires.0 _ (ap length c.phi_double_prime.ensures ∙ length-splice _ _ _),
  drawn_fewer 3 2 c.args.job.now
      c.args.randomness.now (omega arith) c.requires.1,
)

pub returns : goal.returns
returns c =
    double_prime_made c.args.job.now c.args.randomness.now c.args.scratch.now c.args.params c.args.regions c.requires.0 _ _
    c.phi_double_prime.ensures c.a_double_prime.ensures
