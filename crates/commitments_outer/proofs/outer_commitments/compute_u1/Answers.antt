-- `compute_u1` meets its contract: from zero, both products are added.
use mathlib.Core.Path.{◌≡◌}
use Prim.Native.Nat.{ℕ}
use native.Mathlib.Omega.{arith}
use Rattle.math.specs.lists.Table.{table}
use Rattle.math.specs.lists.Part.{splice}
use Rattle.spec_leaves.specs.Rq.{Element}
use Rattle.spec_leaves.specs.Ring.{RqOps}
use Rattle.spec_protocol.specs.Formulas.{flat, times}
use Rattle.ring_rq_matrix.specs.Region.{vector}
use Rattle.ring_rq_matrix.proofs.Fill.{length_filled}
use Rattle.commitments_outer.specs.Cells.{digits_at, width}
use Rattle.commitments_outer.proofs.Added.{stored-canonical, store_added, from_zero}
use Rattle.commitments_outer.proofs.outer_commitments.compute_u1.Goals.{After-add_cells}
use Rattle.commitments_outer.proofs.outer_commitments.compute_u1.Goals as goal

-- the products with the digits of t stand in their places
first : (c : After-add_cells)
    → let s = c.args in
    c.add_cells.new.out
    ≡ splice s.out.now s.out_at (flat (table s.rows (times (vector s.job.now s.b_at (width s.t)) (digits_at s.from.now s.t s.base))))
first c =
    let s = c.args in
    from_zero s.out.now c.zero.new.out c.add_cells.new.out s.out_at s.rows
    (times (vector s.job.now s.b_at (width s.t)) (digits_at s.from.now s.t s.base)) c.requires.5
    c.zero.ensures c.add_cells.ensures

pub add_cells-requires : goal.add_cells-requires
add_cells-requires c =
    let s = c.args in
    let h = c.requires in
    let e = c.zero.ensures in (
      omega (arith, h.0),
      h.1,
      h.4,
      omega (arith, h.5, length_filled _ s.out.now s.out_at (flat (table s.rows (λ k. RqOps.nil))) e),
      λ i q. stored-canonical s.out.now _ s.out_at s.rows (λ k. RqOps.nil) h.5 e i (omega arith),
    )

pub add_cells-requires-2 : goal.add_cells-requires-2
add_cells-requires-2 c =
    let s = c.args in
    let h = c.requires in
    let e = first (goal.at.add_cells-requires-2 c).After-add_cells in
    let g : ℕ → Element = times (vector s.job.now s.b_at (width s.t)) (digits_at s.from.now s.t s.base) in (
      omega (arith, h.2),
      h.3,
      h.4,
      omega (arith, h.5, length_filled _ s.out.now s.out_at (flat (table s.rows g)) e),
      λ i q. stored-canonical s.out.now _ s.out_at s.rows g h.5 e i (omega arith),
    )

pub returns : goal.returns
returns c =
    let s = c.args in
    let g : ℕ → Element = times (vector s.job.now s.b_at (width s.t)) (digits_at s.from.now s.t s.base) in
    let h : ℕ → Element = times (vector s.job.now s.c_at (width s.g)) (digits_at s.from.now s.g s.base) in
    store_added s.out.now c.add_cells.new.out c.add_cells-2.new.out
    s.out_at s.rows g h c.requires.5
    (first (goal.at.returns c).After-add_cells) c.add_cells-2.ensures
