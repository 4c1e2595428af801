-- `calculate_b_constraint` meets its contract.
use Rattle.math.specs.algebra.Ops as Ops
use Rattle.spec_protocol.specs.Formulas.{◌⊗◌, sum, dot, pairs}
use Rattle.ring_rq_matrix.specs.Region.{vector, triangle_at}
use Rattle.ring_rq_matrix.proofs.Word.{stands_for, words_of-sum}
use Rattle.relation_statement.proofs.calculate_b_constraint.Goals as goal

pub returns : goal.returns
unfolding Ops.form
returns c =
    let s = c.args in
    let vectors = vector s.s.now s.s_at s.n in
    let products = pairs s.r (λ i j. triangle_at s.a.now s.a_at i j ⊗ dot s.n (vectors i) (vectors j)) in
    let lines = sum s.r (λ i. dot s.n (vector s.phi.now s.phi_at s.n i) (vectors i)) in
    words_of-sum _ _ _ products lines c.add.ensures (stands_for _ products c.quadratic.ensures) (stands_for _ lines c.line.ensures)
