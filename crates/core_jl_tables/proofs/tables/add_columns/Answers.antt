use Rattle.std.proofs.Common.{◌≡◌, ℕ, ◌+◌, ◌*◌, ◌^◌, ◌<◌, length, get_or, sym, refl, ap, ◌∙◌, arith}
use lib.ListN.{length-replicate}
use Rattle.math.specs.lists.Table.{table}
use Rattle.math.proofs.lists.Table.{length-table}
use Rattle.math.proofs.lists.Splice.{splice-nil, length-splice}
use Rattle.core_jl_tables.proofs.Blocks.{places-below, block_stored, blocks_added}
use Rattle.core_jl_tables.proofs.tables.add_columns.Goals as goal

pub loop-m-init : goal.loop-m-init
unfolding table
loop-m-init c = (omega arith, sym (splice-nil _ _), refl, length-replicate {A = ℕ} 256 0)

pub add_block-requires : goal.add_block-requires
add_block-requires c =
    let s = c.args in
    let words : (i : ℕ) → get_or s.randomness.now i 0 < 2 ^ 32 = λ i. omega (arith, c.type_inv.randomness i) in (
      c.requires.1,
      places-below s.randomness.now _ (s.row_at + 64 * c.loop-m.m) (64 * s.n) words c.row_places.ensures,
      omega arith,
      c.requires.3,
    )

pub loop-m-preserved : goal.loop-m-preserved
loop-m-preserved c =
    let l = c.loop-m in
    let s = c.args in
    let stored = c.add_block.ensures
    ∙ block_stored s.randomness.now s.row_at (64 * s.n) s.tables.now s.sums.now l.sums _ l.m l.invariant.1 c.row_places.ensures in
    (omega arith, stored, ap length stored ∙ length-splice _ _ _, ap length c.row_places.ensures ∙ length-table 256 _)

pub returns : goal.returns
returns c =
    let l = c.loop-m in
    let s = c.args in
    let n : 256 * l.m ≡ 4 * (64 * s.n) = omega arith in (
      l.invariant.2,
      blocks_added s.randomness.now s.row_at (64 * s.n) s.tables.now s.sums.now l.sums (256 * l.m)
          (λ i. omega (arith, c.type_inv.tables i))
          (omega arith) n l.invariant.1,
    )

pub slice_bounds-row_places-end : goal.slice_bounds-row_places-end
slice_bounds-row_places-end c = sym c.loop-m.invariant.3

pub row_places-requires : goal.row_places-requires
row_places-requires c = (omega arith, c.loop-m.invariant.3)

pub slice_bounds-add_block-end : goal.slice_bounds-add_block-end
slice_bounds-add_block-end c = sym (ap length c.row_places.ensures ∙ length-table 256 _)
