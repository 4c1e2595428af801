-- `line` meets its contract.
use native.Mathlib.Omega.{arith}
use Rattle.core_aggregate_ntt.proofs.Terms.{none-small, terms-length}
use Rattle.core_challenge_sums.proofs.Columns.{line_words}
use Rattle.core_challenge_sums.proofs.line.Goals as goal

pub add_columns-requires : goal.add_columns-requires
add_columns-requires c =
    (c.requires.0, c.requires.1, none-small c.args.n (omega (arith, c.requires.0.3)))

pub inverse-requires : goal.inverse-requires
inverse-requires c =
    omega (arith, terms-length _ _ _ _ _ _ _ _ c.add_columns.ensures)

pub returns : goal.returns
returns c =
    let s = c.args in
    line_words s.from.now s.at s.r s.n s.powers.now s.z.now _ _ c.add_columns.ensures c.inverse.ensures
