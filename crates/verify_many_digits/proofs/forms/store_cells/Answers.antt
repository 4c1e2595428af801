use mathlib.Core.Path.{◌≡◌, refl, sym, ap, ◌∙◌}
use Prim.Native.Nat.{◌*◌}
use native.Mathlib.Omega.{arith}
use lib.ListN.{length}
use Rattle.math.specs.lists.Table.{table, cat}
use Rattle.math.specs.lists.Part.{part, splice}
use Rattle.math.proofs.lists.Table.{length-table}
use Rattle.math.proofs.lists.Splice.{length-splice}
use Rattle.spec_leaves.specs.Ring.{element}
use Rattle.ring_inner_product.specs.Run.{run}
use Rattle.spec_protocol.specs.Formulas.{flat, digit_element}
use Rattle.spec_protocol.proofs.Region.{length-lists}
use Rattle.ring_rq_matrix.proofs.Place.{rows-within}
use Rattle.ntt_vectors.specs.NttForm.{ntt_words}
use Rattle.verify_many_windows.proofs.DigitLaws.{digits-cat}
use Rattle.verify_many_digits.proofs.CellLaws.{cells_none, cells_next}
use Rattle.verify_many_digits.proofs.forms.store_cells.Invariants.{cell-digits}
use Rattle.verify_many_digits.proofs.forms.store_cells.Goals as goal

pub loop-c-init : goal.loop-c-init
loop-c-init c =
    let s = c.args in
    (omega arith, omega arith, omega arith, cells_none s.to.now s.to_at s.d.parts (cell-digits s.base s.d.parts s.from.now s.d.at), refl)

pub store_cell-requires : goal.store_cell-requires
store_cell-requires c =
    let l = c.loop-c in (
      omega (arith, c.requires.0.within),
      c.requires.1,
      c.requires.0.few_parts,
      omega (arith, rows-within l.c c.args.d.cells c.args.d.parts (omega arith), c.requires.2),
    )

pub overflow_add-place : goal.overflow_add-place
overflow_add-place c =
    let l = c.loop-c in
    omega (arith, rows-within l.c c.args.d.cells c.args.d.parts (omega arith), c.requires.2)

pub loop-c-preserved : goal.loop-c-preserved
loop-c-preserved c =
    let s = c.args in
    let l = c.loop-c in
    let e = c.store_cell.ensures in
    let f = cell-digits s.base s.d.parts s.from.now s.d.at in (
      omega arith,
      omega arith,
      omega arith,
      cells_next s.to.now l.to _ s.to_at l.place l.c s.d.parts f l.invariant.3
          (length-lists l.c s.d.parts f (λ k. length-table s.d.parts (digit_element s.base (run s.from.now s.d.at 64 k)))) l.invariant.2
          (e ∙ ap (λ a. splice l.to l.place (ntt_words (flat (table s.d.parts (digit_element s.base (element (part s.from.now a 64))))) 0 s.d.parts)) l.invariant.1),
      ap length e ∙ length-splice _ _ _ ∙ l.invariant.4,
    )

pub returns : goal.returns
returns c =
    let s = c.args in
    let l = c.loop-c in
    let n : l.c ≡ s.d.cells = omega arith in
    l.invariant.3
    ∙ ap (λ k. splice s.to.now s.to_at (ntt_words (flat (cat k (cell-digits s.base s.d.parts s.from.now s.d.at))) 0 (k * s.d.parts))) n
    ∙ ap (λ ds. splice s.to.now s.to_at (ntt_words (flat ds) 0 (s.d.cells * s.d.parts))) (sym (digits-cat s.base s.d.parts s.d.cells (run s.from.now s.d.at 64)))

pub overflow_mul-block : goal.overflow_mul-block
overflow_mul-block c = omega (arith, c.requires.0.few_parts)

pub overflow_add-at : goal.overflow_add-at
overflow_add-at c = omega (arith, c.requires.0.within)

pub shape_of-to : goal.shape_of-to
shape_of-to c = c.loop-c.invariant.4
