-- `add_column` meets its contract.
use mathlib.Core.Path.{ap, ◌∙◌}
use Prim.Native.Nat.{◌*◌}
use native.Mathlib.Omega.{arith}
use lib.ListN.{length}
use Rattle.spec_protocol.proofs.Flat.{length-words}
use Rattle.ring_rq_matrix.proofs.Place.{column-run}
use Rattle.core_aggregate_ntt.specs.Terms.{term_added}
use Rattle.core_challenge_sums.specs.Lines.{combined}
use Rattle.core_challenge_sums.proofs.Columns.{whole_words, product_words}
use Rattle.core_challenge_sums.proofs.add_column.Goals as goal

pub inner_product-requires : goal.inner_product-requires
inner_product-requires c =
    let s = c.args in
    (c.requires.0.1, column-run s.from.now s.at s.n s.m s.r c.requires.0.0 c.requires.1 c.requires.0.3 c.requires.0.2 (omega arith))

pub add_term-requires : goal.add_term-requires
add_term-requires c =
    let s = c.args in
    let e = combined s.from.now s.at s.r s.n s.powers.now s.m in
    let size = ap length (c.inner_product.ensures ∙ product_words s.powers.now s.from.now s.at s.r s.n s.m) ∙ length-words e in
    (omega (arith, size), c.requires.2, c.requires.3)

pub returns : goal.returns
returns c =
    let s = c.args in
    let made = c.inner_product.ensures ∙ product_words s.powers.now s.from.now s.at s.r s.n s.m in
    c.add_term.ensures
    ∙ ap (term_added s.sums.now s.z.now (192 * s.m)) (whole_words _ (combined s.from.now s.at s.r s.n s.powers.now s.m) made)
