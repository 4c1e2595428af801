-- `store_digits` meets its contract.
use mathlib.Core.Path.{refl, ap, ◌∙◌}
use native.Mathlib.Omega.{arith}
use Rattle.math.specs.lists.Part.{splice}
use Rattle.spec_leaves.specs.Ring.{words}
use Rattle.verify_many_windows.proofs.DigitLaws.{stored-small, stored_product}
use Rattle.verify_many_windows.proofs.Products.{stored_row}
use Rattle.verify_many_windows.proofs.row.store_digits.Goals as goal

pub row_product-product-requires : goal.row_product-product-requires
row_product-product-requires c =
    let h = c.requires.digits_held c.in-Some.at c.in-Some.is in (
      omega (arith, c.requires.room.0),
      h.room,
      stored-small c.args.scratch.now c.args.transcript.now c.in-Some.at c.args.base c.args.d h.held _ c.from-half.ensures c.requires.room.2
          (omega arith) c.requires.room.1.few_cells c.requires.room.1.few_parts,
    )

pub returns-in-Some : goal.returns-in-Some
returns-in-Some c =
    let h = c.requires.digits_held c.in-Some.at c.in-Some.is in
    c.store.ensures
    ∙ ap (splice c.args.scratch.now c.args.place)
    (c.row_product-product.ensures
    ∙ ap words (stored_product c.args.scratch.now c.args.transcript.now c.in-Some.at c.args.base c.args.d h.held c.args.job.now c.args.m_at _ c.args.k refl))

pub returns-in-None : goal.returns-in-None
returns-in-None c =
    let s = c.args in
    stored_row s.job.now s.transcript.now s.m_at _ s.k s.d s.base s.scratch.now _ s.place refl c.compute_u2.ensures
