use mathlib.Core.Path.{refl, sym, ap, ap₂, ◌∙◌}
use Prim.Native.Nat.{◌*◌}
use native.Mathlib.Omega.{arith}
use Rattle.math.specs.lists.Table.{table}
use Rattle.math.specs.lists.Part.{part, splice}
use Rattle.math.proofs.lists.Table.{length-table}
use Rattle.spec_leaves.specs.Ring.{element}
use Rattle.ring_inner_product.specs.Run.{run}
use Rattle.spec_protocol.specs.Formulas.{flat, digit_element}
use Rattle.spec_protocol.proofs.Region.{length-lists}
use Rattle.spec_protocol.proofs.Stored.{lists-none, lists-next, lists-all}
use Rattle.ring_rq_matrix.proofs.Place.{rows-within}
use Rattle.ring_rq_matrix.proofs.Fill.{length_filled}
use Rattle.verify_many_windows.proofs.DigitLaws.{digits-cat}
use Rattle.verify_many_windows.proofs.digits.store_cells.Invariants.{cell-digits}
use Rattle.verify_many_windows.proofs.digits.store_cells.Goals as goal

pub loop-c-init : goal.loop-c-init
loop-c-init c =
    let s = c.args in
    (omega arith, omega arith, omega arith, lists-none s.to.now s.to_at (cell-digits s.base s.d.parts s.from.now s.d.at), refl)

pub decompose_to-requires : goal.decompose_to-requires
decompose_to-requires c =
    let l = c.loop-c in
    (omega (arith, c.requires.0.within), omega (arith, rows-within l.c c.args.d.cells c.args.d.parts (omega arith), c.requires.2), c.requires.1)

pub overflow_add-place : goal.overflow_add-place
overflow_add-place c =
    let l = c.loop-c in
    omega (arith, rows-within l.c c.args.d.cells c.args.d.parts (omega arith), c.requires.2)

pub loop-c-preserved : goal.loop-c-preserved
loop-c-preserved c =
    let s = c.args in
    let l = c.loop-c in
    let e = c.decompose_to.ensures in
    let f = cell-digits s.base s.d.parts s.from.now s.d.at in (
      omega arith,
      omega arith,
      omega arith,
      e
          ∙ ap₂ (λ p a. splice l.to p (flat (table s.d.parts (digit_element s.base (element (part s.from.now a 64)))))) l.invariant.2 l.invariant.1
          ∙ lists-next s.to.now l.to s.to_at l.c (l.c * s.d.parts) f l.invariant.3
          (length-lists l.c s.d.parts f (λ k. length-table s.d.parts (digit_element s.base (run s.from.now s.d.at 64 k)))),
      length_filled _ _ _ _ e ∙ l.invariant.4,
    )

pub returns : goal.returns
returns c =
    let s = c.args in
    let l = c.loop-c in
    lists-all s.to.now l.to s.to_at l.c s.d.cells (cell-digits s.base s.d.parts s.from.now s.d.at) l.invariant.3 (omega arith)
    ∙ ap (λ ds. splice s.to.now s.to_at (flat ds)) (sym (digits-cat s.base s.d.parts s.d.cells (run s.from.now s.d.at 64)))

pub overflow_mul-block : goal.overflow_mul-block
overflow_mul-block c = omega (arith, c.requires.0.few_parts)

pub overflow_add-at : goal.overflow_add-at
overflow_add-at c = omega (arith, c.requires.0.within)

pub shape_of-to : goal.shape_of-to
shape_of-to c = c.loop-c.invariant.4
