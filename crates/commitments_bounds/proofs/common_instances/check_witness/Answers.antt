-- `check_witness` meets its contract.
use mathlib.Core.Path.{refl, sym, ap}
use native.Mathlib.Decide.{dec_le}
use native.Mathlib.Omega.{arith}
use Rattle.math.specs.lists.Table.{table}
use Rattle.spec_leaves.specs.Answer.{refused}
use Rattle.spec_protocol.specs.Checks.{first}
use Rattle.spec_protocol.specs.Formulas.{norm_of}
use Rattle.spec_protocol.proofs.Fine.{require-holds, require_fails}
use Rattle.spec_protocol.proofs.First.{first_next, first_found}
use Rattle.ring_rq_matrix.proofs.Place.{run-vector}
use Rattle.commitments_outer.specs.Cells.{vector_norm}
use Rattle.commitments_bounds.proofs.common_instances.check_witness.Goals as goal

pub loop-i-init : goal.loop-i-init
unfolding first
loop-i-init c = (omega arith, refl)

pub returns-then-elements_norm-bound : goal.returns-then-elements_norm-bound
returns-then-elements_norm-bound c =
    let s = c.args in
    let l = c.loop-i in
    let norm = ap (λ v. norm_of (table s.n v)) (run-vector s.witness.now s.at s.n l.i l.place l.invariant.0) in
    first_found s.r l.i (vector_norm s.witness.now s.at s.n s.bound) (omega arith) l.invariant.1
    (sym (require_fails (dec_le _ _) (refused 13 l.i) (λ h. omega (arith, norm, c.elements_norm.ensures))))

pub loop-i-preserved : goal.loop-i-preserved
loop-i-preserved c =
    let s = c.args in
    let l = c.loop-i in
    let norm = ap (λ v. norm_of (table s.n v)) (run-vector s.witness.now s.at s.n l.i l.place l.invariant.0) in (
      omega arith,
      first_next l.i (vector_norm s.witness.now s.at s.n s.bound) l.invariant.1
          (require-holds (dec_le _ _) (refused 13 l.i) (omega (arith, norm, c.elements_norm.ensures))),
    )
