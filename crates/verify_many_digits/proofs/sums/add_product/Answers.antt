-- `add_product` meets its contract.
use mathlib.Core.Path.{sym, ap, ◌∙◌}
use mathlib.Core.Bool.{true≢false}
use Rattle.spec_leaves.specs.Rq.{radd}
use Rattle.verify_many_digits.proofs.sums.add_product.Goals as goal

pub inner_product-product-requires : goal.inner_product-product-requires
inner_product-product-requires c =
    (c.requires.0, c.requires.2 c.if-pass.true, c.requires.1)

pub returns-then-pass : goal.returns-then-pass
returns-then-pass c = λ t. c.add.ensures ∙ ap (radd c.args.sum.coeffs) c.inner_product-product.ensures

pub returns : goal.returns
returns c = λ t. absurd (true≢false (sym t ∙ c.if-pass.false))
