use Rattle.std.proofs.Common.{◌≡◌, ℕ, ◌+◌, ◌*◌, ◌/◌, ◌%◌, List, length, get_or, sym, refl, ap, ◌∙◌, ap₂, arith}
use Rattle.math.specs.lists.Table.{table}
use Rattle.math.specs.lists.Part.{splice}
use Rattle.math.proofs.lists.Splice.{splice-nil, length-splice}
use Rattle.math.proofs.lists.Fill.{table_more}
use Rattle.core_jl_tables.specs.Pairs.{lowered_sum, joined_row, four_entry}
use Rattle.core_jl_tables.proofs.pairs.four_sums.Goals as goal

-- the entries for one more number of the last two rows' entries
joined : (pairs l before : List ℕ) (at y : ℕ) → before ≡ splice l at (table (64 * y) (four_entry pairs))
    → splice before (at + 64 * y) (joined_row pairs (64 + 4 * y)) ≡ splice l at (table (64 * (y + 1)) (four_entry pairs))
joined pairs l before at y e =
    let g : ℕ → ℕ = λ q. lowered_sum (get_or pairs q 0) (get_or pairs (64 + 4 * y + q % 4) 0) in
    let next : 64 * y + 64 ≡ 64 * (y + 1) = omega arith in
    ap (λ b. splice b (at + 64 * y) (table 64 g)) e
    ∙ table_more l at (64 * y) 64 (four_entry pairs) g (λ q h.
    let low : q ≡ (64 * y + q) % 64 = omega arith in
    let high : 64 + 4 * y + q % 4 ≡ 64 + 4 * ((64 * y + q) / 64) + (64 * y + q) % 4 = omega arith in
    ap₂ (λ p r. lowered_sum (get_or pairs p 0) (get_or pairs r 0)) low high)
    ∙ ap (λ n. splice l at (table n (four_entry pairs))) next

pub loop-y-init : goal.loop-y-init
unfolding table
loop-y-init c = (omega arith, sym (splice-nil _ _), refl)

pub loop-y-preserved : goal.loop-y-preserved
loop-y-preserved c =
    let l = c.loop-y in
    let s = c.args in
    let stored = c.join_row.ensures ∙ joined s.pairs.now s.tables.now l.tables s.at l.y l.invariant.1 in
    (omega arith, stored, ap length stored ∙ length-splice _ _ _)

pub returns : goal.returns
returns c =
    let l = c.loop-y in
    let s = c.args in
    let n : 64 * l.y ≡ 1024 = omega arith in
    l.invariant.1 ∙ ap (λ k. splice s.tables.now s.at (table k (four_entry s.pairs.now))) n

pub join_row-requires : goal.join_row-requires
join_row-requires c = (omega arith, omega arith, omega arith)
