use Rattle.std.proofs.Common.{◌≡◌, ℕ, ◌+◌, ◌*◌, length, sym, ap, ◌∙◌, subst, arith}
use lib.ListN.{length-replicate}
use Rattle.math.proofs.lists.Table.{length-table}
use Rattle.core_jl_tables.specs.Tables.{UpToQ}
use Rattle.core_jl_tables.proofs.Groups.{tables_small, group_within, group_summed, none_summed, all_summed}
use Rattle.core_jl_tables.proofs.fours.add_rows.Goals as goal

pub loop-g-init : goal.loop-g-init
loop-g-init c =
    let s = c.args in
    let h = c.requires in (
      omega arith,
      none_summed s.randomness.now s.pi_at s.omega_at (64 * s.n) s.sums.now (omega arith) h.2,
      ap length h.2 ∙ length-replicate {A = ℕ} 16384 2147483648,
      length-replicate {A = ℕ} 4096 0,
    )

-- 16 rows end before the rows do
pub overflow_add-pi_at : goal.overflow_add-pi_at
overflow_add-pi_at c = omega (arith, group_within c.loop-g.g (64 * c.args.n) (omega arith))

pub add_columns-requires : goal.add_columns-requires
add_columns-requires c =
    let l = c.loop-g in
    let s = c.args in (
      omega (arith, group_within l.g (64 * s.n) (omega arith)),
      ap length c.fill_tables.ensures ∙ length-table 4096 _,
      omega arith,
      subst UpToQ (sym c.fill_tables.ensures)
          (tables_small s.randomness.now (λ i. omega (arith, c.type_inv.randomness i)) (s.omega_at + 16 * l.g)),
    )

pub loop-g-preserved : goal.loop-g-preserved
loop-g-preserved c =
    let l = c.loop-g in
    let s = c.args in
    let w = c.add_columns.ensures in (
      omega arith,
      group_summed s.randomness.now (λ i. omega (arith, c.type_inv.randomness i)) s.pi_at s.omega_at (64 * s.n) l.g _ l.sums
          c.add_columns.new.sums c.fill_tables.ensures l.invariant.1 w.1,
      w.0 ∙ l.invariant.2,
      ap length c.fill_tables.ensures ∙ length-table 4096 _,
    )

pub returns : goal.returns
returns c =
    let s = c.args in
    let l = c.loop-g in
    let n : 16 * l.g ≡ 256 = omega arith in
    (l.invariant.2, all_summed s.randomness.now s.pi_at s.omega_at (64 * s.n) (16 * l.g) l.sums n l.invariant.1)

pub slice_bounds-fill_tables-end : goal.slice_bounds-fill_tables-end
slice_bounds-fill_tables-end c = sym c.loop-g.invariant.3

pub fill_tables-requires : goal.fill_tables-requires
fill_tables-requires c = (omega arith, c.loop-g.invariant.3)

pub overflow_mul-g-in-loop-g-2 : goal.overflow_mul-g-in-loop-g-2
overflow_mul-g-in-loop-g-2 c = omega (arith, group_within c.loop-g.g (64 * c.args.n) (omega arith))

pub slice_bounds-add_columns-end : goal.slice_bounds-add_columns-end
slice_bounds-add_columns-end c = sym (ap length c.fill_tables.ensures ∙ length-table 4096 _)

pub shape_of-sums : goal.shape_of-sums
shape_of-sums c = omega (arith, ap length c.requires.2 ∙ length-replicate {A = ℕ} 16384 2147483648)
