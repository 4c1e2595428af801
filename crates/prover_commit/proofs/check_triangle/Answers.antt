-- `check_triangle` meets its contract.
use mathlib.Core.Path.{ap, ◌∙◌}
use native.Mathlib.Decide.{dec_le}
use native.Mathlib.Omega.{arith}
use Rattle.spec_leaves.specs.Answer.{of_refusal}
use Rattle.spec_protocol.specs.Checks.{require}
use Rattle.spec_protocol.specs.Formulas.{norm_of}
use Rattle.commitments_outer.specs.Cells.{digits_at}
use Rattle.commitments_outer.proofs.Formula.{digits}
use Rattle.prover_commit.proofs.Room.{triangle-cells}
use Rattle.prover_commit.proofs.check_triangle.Goals as goal

pub triangle-cells-requires : goal.triangle-cells-requires
triangle-cells-requires c = c.requires.0.within.r.1

pub check_digits-requires : goal.check_digits-requires
check_digits-requires c = (
  triangle-cells c.args.params c.args.at c.args.parts c.triangle-cells.result c.args.scratch.now c.requires.1 c.requires.2 c.triangle-cells.ensures,
  omega (arith, c.requires.0.within.b.0),
)

pub returns : goal.returns
returns c =
    let a = c.args in
    c.check_digits.ensures
    ∙ ap (λ k. require (dec_le (norm_of (digits_at a.scratch.now (digits a.at k a.parts) a.params.b)) a.bound) (of_refusal a.refusal)) c.triangle-cells.ensures.0
