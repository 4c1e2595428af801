use mathlib.Core.Path.{◌≡◌, refl, ◌∙◌, ap}
use Prim.Native.Nat.{ℕ, ◌+◌, ◌*◌}
use native.Mathlib.Nat.{mul-le-mul}
use native.Mathlib.Omega.{arith}
use lib.ListN.{length-replicate}
use Rattle.math.specs.lists.Table.{table}
use Rattle.math.specs.lists.Part.{part, splice}
use Rattle.math.proofs.lists.Table.{table_ext}
use Rattle.spec_leaves.specs.Rq.{Element}
use Rattle.spec_leaves.specs.Ring.{element}
use Rattle.ring_inner_product.specs.Run.{run}
use Rattle.spec_protocol.specs.Formulas.{◌⊕◌, dot, flat, digit_element, digits_of, times}
use Rattle.ring_rq_matrix.specs.Region.{vector}
use Rattle.ring_rq_matrix.proofs.Place.{rows-within}
use Rattle.ring_rq_matrix.proofs.Fill.{length_filled}
use Rattle.commitments_outer.specs.Cells.{width}
use Rattle.commitments_outer.proofs.Added.{store_nothing, store_added}
use Rattle.commitments_outer.proofs.Products.{times_none, cell_blocks, cell-added}
use Rattle.commitments_outer.proofs.outer_commitments.add_cells.Goals as goal

pub overflow_mul-step : goal.overflow_mul-step
overflow_mul-step c = let h = c.requires.1 in omega (arith, mul-le-mul h.few_cells h.few_parts)

pub overflow_mul-step-2 : goal.overflow_mul-step-2
overflow_mul-step-2 c = let h = c.requires.1 in omega (arith, mul-le-mul h.few_cells h.few_parts)

pub loop-c-init : goal.loop-c-init
loop-c-init c =
    let s = c.args in
    let h = c.requires in
    let M = vector s.matrix.now s.m_at (width s.d) in
    let cell = run s.from.now s.d.at 64 in (
      omega arith,
      omega arith,
      omega arith,
      store_nothing s.out.now s.out_at s.rows (times M (digits_of s.base s.d.parts (table 0 cell))) h.3 h.4 (times_none s.base s.d.parts cell M),
      refl,
      length-replicate {A = ℕ} 2048 0,
      length-replicate {A = ℕ} 4096 0,
    )

pub add_cell-requires : goal.add_cell-requires
add_cell-requires c =
    let s = c.args in
    let l = c.loop-c in
    let h = c.requires in (
      cell_blocks s.matrix.now s.m_at s.d.cells s.d.parts l.c l.column l.invariant.1 s.rows h.0 h.1.few_parts h.1.few_cells (omega arith),
      omega (arith, h.1.within),
      omega arith,
      h.2,
      h.1.few_parts,
      (l.invariant.5, l.invariant.6),
    )

pub overflow_add-column : goal.overflow_add-column
overflow_add-column c =
    let d = c.args.d in
    let h = c.requires in
    omega (
      arith,
      mul-le-mul h.1.few_cells h.1.few_parts,
      rows-within c.loop-c.c d.cells
          d.parts (omega arith),
      h.0,
    )

pub loop-c-preserved : goal.loop-c-preserved
loop-c-preserved c =
    let s = c.args in
    let d = s.d in
    let l = c.loop-c in
    let e = c.add_cell.ensures.out_after in
    let M = vector s.matrix.now s.m_at (width d) in
    let out = run s.out.now s.out_at 64 in
    let cells = run s.from.now d.at 64 in
    let cell = element (part s.from.now l.place 64) in
    let before : ℕ → Element = λ k. out k ⊕ times M (digits_of s.base d.parts (table l.c cells)) k in
    let more : ℕ → Element = λ k. dot d.parts (run s.matrix.now (l.column + 64 * width d * k) 64) (digit_element s.base cell) in
    let after : ℕ → Element = λ k. out k ⊕ times M (digits_of s.base d.parts (table (l.c + 1) cells)) k in (
      omega arith,
      omega arith,
      omega arith,
      store_added s.out.now l.out c.add_cell.new.out s.out_at s.rows before more
          c.requires.3 l.invariant.3 e
          ∙ ap (λ t. splice s.out.now s.out_at (flat t))
          (table_ext s.rows (λ k. before k ⊕ more k) after
          (λ k q. cell-added s.matrix.now s.m_at d.cells d.parts l.c l.column l.invariant.1 s.base k cells cell (out k)
          (ap (λ p. element (part s.from.now p 64)) l.invariant.2))),
      length_filled _ _ _ _ e ∙ l.invariant.4,
      c.add_cell.ensures.buffers.0,
      c.add_cell.ensures.buffers.1,
    )

pub returns : goal.returns
returns c =
    let s = c.args in
    let l = c.loop-c in
    let done : l.c ≡ s.d.cells = omega arith in
    l.invariant.3
    ∙ ap (λ c. splice s.out.now s.out_at
    (flat (table s.rows (λ k. run s.out.now s.out_at 64 k ⊕ times (vector s.matrix.now s.m_at (width s.d))
    (digits_of s.base s.d.parts (table c (run s.from.now s.d.at 64))) k)))) done

pub overflow_mul-block : goal.overflow_mul-block
overflow_mul-block c = omega (arith, c.requires.1.few_parts)

pub overflow_add-place : goal.overflow_add-place
overflow_add-place c = omega (arith, c.requires.1.within)
