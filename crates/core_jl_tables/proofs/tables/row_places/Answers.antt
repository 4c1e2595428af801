use Rattle.std.proofs.Common.{◌≡◌, ℕ, ◌*◌, ◌<◌, ◌≤◌, length, sym, refl, ap, ◌∙◌, mul-le-mul_right, arith}
use Rattle.math.specs.lists.Table.{table}
use Rattle.math.proofs.lists.Splice.{splice-nil, length-splice}
use Rattle.math.proofs.lists.Fill.{filled}
use Rattle.core_jl_tables.specs.Tables.{place_entry}
use Rattle.core_jl_tables.proofs.Blocks.{places-next}
use Rattle.core_jl_tables.proofs.tables.row_places.Goals as goal

-- the rows before row 4·t
rows_before : (t step : ℕ) → t < 4 → 4 * t * step ≤ 12 * step
rows_before t step h = let few : 4 * t ≤ 12 = omega arith in mul-le-mul_right step few

pub loop-t-init : goal.loop-t-init
unfolding table
loop-t-init c = (omega arith, sym (splice-nil _ _), refl)

pub loop-t-preserved : goal.loop-t-preserved
loop-t-preserved c =
    let l = c.loop-t in
    let s = c.args in
    let stored = c.four_places.ensures ∙ places-next s.randomness.now s.at s.step s.places.now l.places l.t l.invariant.1 in
    (omega arith, stored, ap length stored ∙ length-splice _ _ _)

pub returns : goal.returns
returns c =
    let l = c.loop-t in
    let s = c.args in
    let n : 64 * l.t ≡ 256 = omega arith in
    filled 256 (64 * l.t) s.places.now l.places (place_entry s.randomness.now s.at s.step) 0 l.invariant.1 n (omega arith)

pub overflow_mul-t-in-loop-t : goal.overflow_mul-t-in-loop-t
overflow_mul-t-in-loop-t c = omega (arith, rows_before c.loop-t.t c.args.step (omega arith))

pub overflow_add-at : goal.overflow_add-at
overflow_add-at c = omega (arith, rows_before c.loop-t.t c.args.step (omega arith))

pub four_places-requires : goal.four_places-requires
four_places-requires c = (omega (arith, rows_before c.loop-t.t c.args.step (omega arith)), omega arith)
