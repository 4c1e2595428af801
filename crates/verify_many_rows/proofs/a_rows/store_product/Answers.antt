-- `store_product` meets its contract.
use mathlib.Core.Path.{sym, ap, ◌∙◌}
use Rattle.math.specs.lists.Part.{splice}
use Rattle.verify_many_rows.specs.NttForm.{product_for}
use Rattle.verify_many_rows.proofs.a_rows.store_product.Goals as goal

pub inner_product-product-requires : goal.inner_product-product-requires
inner_product-product-requires c =
    (c.requires.values.0, c.requires.all_values c.if-pass.true, c.requires.values.1)

pub returns-then-pass : goal.returns-then-pass
returns-then-pass c =
    let s = c.args in
    c.store.ensures
    ∙ ap (splice s.scratch.now s.place) c.inner_product-product.ensures
    ∙ ap (λ b. product_for s.values.now s.n s.start s.place b s.scratch.now) (sym c.if-pass.true)

pub returns-else-pass : goal.returns-else-pass
returns-else-pass c =
    let s = c.args in
    ap (λ b. product_for s.values.now s.n s.start s.place b s.scratch.now) (sym c.if-pass.false)

pub store-requires : goal.store-requires
store-requires c = c.requires.values.2
