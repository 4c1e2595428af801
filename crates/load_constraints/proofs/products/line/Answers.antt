-- `line` meets its contract.
use native.Mathlib.Omega.{arith}
use Rattle.core_aggregate_ntt.proofs.Terms.{none-small}
use Rattle.load_constraints.proofs.NttProducts.{line_words}
use Rattle.load_constraints.proofs.products.line.Goals as goal

pub add_terms-requires : goal.add_terms-requires
add_terms-requires c =
    (c.requires.0, c.requires.1, none-small c.args.n (omega arith))

pub returns : goal.returns
returns c =
    let s = c.args in
    line_words s.job.now s.at s.n s.transformed.now _ _ c.add_terms.ensures c.inverse.ensures
