-- `compute_u2` meets its contract: from zero, the product is added.
use native.Mathlib.Omega.{arith}
use Rattle.math.specs.lists.Table.{table}
use Rattle.spec_leaves.specs.Ring.{RqOps}
use Rattle.spec_protocol.specs.Formulas.{flat, times}
use Rattle.ring_rq_matrix.specs.Region.{vector}
use Rattle.ring_rq_matrix.proofs.Fill.{length_filled}
use Rattle.commitments_outer.specs.Cells.{digits_at, width}
use Rattle.commitments_outer.proofs.Added.{stored-canonical, from_zero}
use Rattle.commitments_outer.proofs.outer_commitments.compute_u2.Goals as goal

pub add_cells-requires : goal.add_cells-requires
add_cells-requires c =
    let s = c.args in
    let h = c.requires in
    let e = c.zero.ensures in (
      omega (arith, h.0),
      h.1,
      h.2,
      omega (arith, h.3, length_filled _ s.out.now s.out_at (flat (table s.rows (λ k. RqOps.nil))) e),
      λ i q. stored-canonical s.out.now _ s.out_at s.rows (λ k. RqOps.nil) h.3 e i (omega arith),
    )

pub returns : goal.returns
returns c =
    let s = c.args in
    from_zero s.out.now c.zero.new.out c.add_cells.new.out s.out_at s.rows
    (times (vector s.job.now s.d_at (width s.h)) (digits_at s.from.now s.h s.base))
    c.requires.3 c.zero.ensures
    c.add_cells.ensures
