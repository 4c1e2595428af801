-- `check_aggregated` meets its contract.
use native.Mathlib.Omega.{arith}
use Rattle.core_workspace.proofs.Unchanged.{unchanged_trans}
use Rattle.core_workspace.proofs.Ready.{drawn_fewer, ready-changed}
use Rattle.verifier_relations.proofs.Scratch.{double_made, φ''-made, a''-made, double_leaves_c}
use Rattle.verifier_relations.proofs.relations.check_aggregated.Goals as goal

pub double_prime-requires : goal.double_prime-requires
double_prime-requires c =
    (c.requires.0, drawn_fewer 7 3 c.args.exchange.now.job.now c.args.exchange.now.randomness.now (omega arith) c.args.exchange.now.sent.drawn)

pub sum_of_lines-lines-requires : goal.sum_of_lines-lines-requires
sum_of_lines-lines-requires c =
    let a = c.args in
    let e = c.double_prime.ensures in (
      (double_made a.exchange.now.job.now a.exchange.now.randomness.now a.exchange.now.params a.regions a.scratch.now c.requires.0 _ e).ready,
      (
        (
          double_leaves_c a.exchange.now.job.now a.exchange.now.randomness.now a.exchange.now.params a.regions a.scratch.now c.requires.0 _ e c.requires.1,
          a''-made a.exchange.now.job.now a.exchange.now.randomness.now a.exchange.now.params a.regions a.scratch.now c.requires.0 _ e,
        ),
        φ''-made a.exchange.now.job.now a.exchange.now.randomness.now a.exchange.now.params a.regions a.scratch.now c.requires.0 _ e,
      ),
    )

pub check_phi_and_relation-requires : goal.check_phi_and_relation-requires
check_phi_and_relation-requires c =
    let a = c.args in
    let double = c.double_prime.ensures in
    let d = double_made a.exchange.now.job.now a.exchange.now.randomness.now a.exchange.now.params a.regions a.scratch.now c.requires.0 _ double in
    let e = c.sum_of_lines-lines.ensures in
    record { sent = (ready-changed _ _ _ _ d.ready _ e.unchanged.size, e.prepared); coeffs_value = e.coeffs_value }

pub returns : goal.returns
returns c =
    let a = c.args in
    let double = c.double_prime.ensures in
    let d = double_made a.exchange.now.job.now a.exchange.now.randomness.now a.exchange.now.params a.regions a.scratch.now c.requires.0 _ double in
    let e = c.check_phi_and_relation.ensures in
    record { result_value = e.result_value; unchanged = unchanged_trans _ _ _ _ (unchanged_trans _ _ _ _ d.unchanged c.sum_of_lines-lines.ensures.unchanged) e.unchanged }
