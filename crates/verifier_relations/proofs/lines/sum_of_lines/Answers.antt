-- `sum_of_lines` meets its contract.
use Rattle.core_workspace.proofs.Unchanged.{unchanged_refl}
use Rattle.verifier_relations.proofs.Scratch.{φ-made, φ_leaves-a'', φ_leaves-c}
use Rattle.verifier_relations.proofs.lines.sum_of_lines.Goals as goal

pub returns-then-exchange-lt3 : goal.returns-then-exchange-lt3
returns-then-exchange-lt3 c =
    let a = c.args in
    let e = c.by_phi.ensures in record {
      coeffs_value = e.coeffs_value;
      unchanged = (φ-made a.exchange.now.job.now a.exchange.now.randomness.now a.exchange.now.params a.regions a.scratch.now c.requires.0 _ e.scratch_after).unchanged;
      prepared = (
        φ_leaves-c a.exchange.now.job.now a.exchange.now.randomness.now a.exchange.now.params a.regions a.scratch.now c.requires.0 _ e.scratch_after c.requires.1.0.0,
        φ_leaves-a'' a.exchange.now.job.now a.exchange.now.randomness.now a.exchange.now.params a.regions a.scratch.now c.requires.0 _ e.scratch_after c.requires.1.0.1,
      );
    }

pub returns-else-exchange-lt3 : goal.returns-else-exchange-lt3
returns-else-exchange-lt3 c = record { coeffs_value = c.by_constraints.ensures; unchanged = unchanged_refl _ _; prepared = c.requires.1.0 }
