use Rattle.std.proofs.Common.{◌≡◌, ℕ, ◌+◌, ◌*◌, ◌%◌, List, length, get_or, sym, refl, ap, ◌∙◌, arith}
use Rattle.math.specs.lists.Table.{table}
use Rattle.math.specs.lists.Part.{splice}
use Rattle.math.proofs.lists.Splice.{splice-nil, length-splice}
use Rattle.math.proofs.lists.Fill.{table_more}
use Rattle.core_jl_tables.specs.Pairs.{lowered_sum, joined_sums}
use Rattle.core_jl_tables.proofs.pairs.join_row.Goals as goal

-- the entries for one more number
joined : (pairs l before : List ℕ) (y at x : ℕ) → before ≡ splice l at (table (4 * x) (λ q. lowered_sum (get_or pairs q 0) (get_or pairs (y + q % 4) 0)))
    → splice before (at + 4 * x) (joined_sums pairs (4 * x) y) ≡ splice l at (table (4 * (x + 1)) (λ q. lowered_sum (get_or pairs q 0) (get_or pairs (y + q % 4) 0)))
joined pairs l before y at x e =
    let f : ℕ → ℕ = λ q. lowered_sum (get_or pairs q 0) (get_or pairs (y + q % 4) 0) in
    let g : ℕ → ℕ = λ k. lowered_sum (get_or pairs (4 * x + k) 0) (get_or pairs (y + k) 0) in
    let next : 4 * x + 4 ≡ 4 * (x + 1) = omega arith in
    ap (λ b. splice b (at + 4 * x) (table 4 g)) e
    ∙ table_more l at (4 * x) 4 f g (λ k h.
    let rest : k ≡ (4 * x + k) % 4 = omega arith in
    ap (λ q. lowered_sum (get_or pairs (4 * x + k) 0) (get_or pairs (y + q) 0)) rest)
    ∙ ap (λ n. splice l at (table n f)) next

pub loop-x-init : goal.loop-x-init
unfolding table
loop-x-init c = (omega arith, sym (splice-nil _ _), refl)

pub loop-x-preserved : goal.loop-x-preserved
loop-x-preserved c =
    let l = c.loop-x in
    let s = c.args in
    let stored = c.join_four.ensures ∙ joined s.pairs.now s.tables.now l.tables s.y s.at l.x l.invariant.1 in
    (omega arith, stored, ap length stored ∙ length-splice _ _ _)

pub returns : goal.returns
returns c =
    let l = c.loop-x in
    let s = c.args in
    let n : 4 * l.x ≡ 64 = omega arith in
    l.invariant.1 ∙ ap (λ n. splice s.tables.now s.at (table n (λ q. lowered_sum (get_or s.pairs.now q 0) (get_or s.pairs.now (s.y + q % 4) 0)))) n

pub join_four-requires : goal.join_four-requires
join_four-requires c = (omega arith, omega arith, omega arith)
