use Rattle.std.proofs.Common.{◌≡◌, ℕ, ◌+◌, ◌*◌, ◌/◌, ◌%◌, List, length, sym, refl, ap, ◌∙◌, ap₂, zero-add, arith}
use Rattle.math.specs.lists.Table.{table}
use Rattle.math.specs.lists.Part.{splice}
use Rattle.math.proofs.lists.Table.{length-table}
use Rattle.math.proofs.lists.Splice.{splice-nil, length-splice}
use Rattle.math.proofs.lists.Fill.{table_more, filled}
use Rattle.core_jl_tables.specs.Pairs.{pair_table, four_entry, four_table, tables_entry}
use Rattle.core_jl_tables.proofs.pairs.fill_tables.Goals as goal

-- one more table
next-table : (R : List ℕ) (om : ℕ) (l before pairs : List ℕ) (t : ℕ) → before ≡ splice l 0 (table (1024 * t) (tables_entry R om)) → pairs ≡ pair_table R (om + 4 * t)
    → splice before (1024 * t) (four_table pairs) ≡ splice l 0 (table (1024 * (t + 1)) (tables_entry R om))
next-table R om l before pairs t e ep =
    let next : 1024 * t + 1024 ≡ 1024 * (t + 1) = omega arith in
    ap₂ (λ b p. splice b p (four_table pairs)) e (sym (zero-add (1024 * t)))
    ∙ ap (λ w. splice (splice l 0 (table (1024 * t) (tables_entry R om))) (0 + 1024 * t) (four_table w)) ep
    ∙ table_more l 0 (1024 * t) 1024 (tables_entry R om) (four_entry (pair_table R (om + 4 * t))) (λ q h.
    let which : t ≡ (1024 * t + q) / 1024 = omega arith in
    let place : q ≡ (1024 * t + q) % 1024 = omega arith in
    ap₂ (λ u v. four_entry (pair_table R (om + 4 * u)) v) which place)
    ∙ ap (λ n. splice l 0 (table n (tables_entry R om))) next

pub loop-t-init : goal.loop-t-init
unfolding table
loop-t-init c = (omega arith, sym (splice-nil _ _), refl)

pub four_sums-requires : goal.four_sums-requires
four_sums-requires c = (ap length c.pair_sums-pairs.ensures ∙ length-table 128 _, omega arith)

pub loop-t-preserved : goal.loop-t-preserved
loop-t-preserved c =
    let l = c.loop-t in
    let s = c.args in
    let stored = c.four_sums.ensures ∙ next-table s.randomness.now s.omega_at s.tables.now l.tables _ l.t l.invariant.1 c.pair_sums-pairs.ensures in
    (omega arith, stored, ap length stored ∙ length-splice _ _ _)

pub returns : goal.returns
returns c =
    let l = c.loop-t in
    let s = c.args in
    let n : 1024 * l.t ≡ 4096 = omega arith in
    filled 4096 (1024 * l.t) s.tables.now l.tables (tables_entry s.randomness.now s.omega_at) 0 l.invariant.1 n (omega arith)

pub slice_bounds-four_sums-end : goal.slice_bounds-four_sums-end
slice_bounds-four_sums-end c = sym (ap length c.pair_sums-pairs.ensures ∙ length-table 128 _)
