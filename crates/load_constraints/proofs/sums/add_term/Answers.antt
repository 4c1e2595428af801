-- `add_term` meets its contract.
use Rattle.load_constraints.proofs.Step.{term_added}
use Rattle.load_constraints.proofs.sums.add_term.Goals as goal

pub returns : goal.returns
returns c =
    let s = c.args in
    let h = c.requires in
    term_added s.job.now _ _ s.t s.base0 s.base s.m s.cell s.weight.coeffs _ h.0 h.1
    c.conjugate_automorphism.ensures c.constants.ensures
    c.products.ensures
