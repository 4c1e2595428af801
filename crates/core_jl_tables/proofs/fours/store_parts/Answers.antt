use Rattle.std.proofs.Common.{◌≡◌, ℕ, ◌≤◌, List, length, refl, ap, ◌∙◌, mul-le-mul_right, arith}
use Rattle.math.specs.lists.Table.{table}
use Rattle.math.proofs.lists.Splice.{length-splice}
use Rattle.spec_protocol.specs.Formulas.{flat}
use Rattle.core_jl_tables.specs.Fours.{summed_element, spread}
use Rattle.core_jl_tables.proofs.Spread.{spread_none, spread-next}
use Rattle.core_jl_tables.proofs.fours.store_parts.Goals as goal

-- the run of k starts before the last one's, or there
pub overflow_add-at : goal.overflow_add-at
overflow_add-at c =
    let few : c.loop-k.k ≤ 3 = omega arith in
    omega (arith, mul-le-mul_right c.args.step few)

pub store_part-requires : goal.store_part-requires
store_part-requires c =
    let s = c.args in
    let few : c.loop-k.k ≤ 3 = omega arith in
    (c.requires.0, omega arith, omega (arith, mul-le-mul_right s.step few), omega arith)

pub loop-k-preserved : goal.loop-k-preserved
loop-k-preserved c =
    let s = c.args in
    let l = c.loop-k in
    let f : ℕ → List ℕ = λ k. flat (table s.n (summed_element s.sums.now k)) in
    let w = c.store_part.ensures in
    (omega arith, w ∙ spread-next s.at s.step s.out.now l.out l.k f l.invariant.1, ap length w ∙ length-splice _ _ _ ∙ l.invariant.2)

pub returns : goal.returns
returns c =
    let s = c.args in
    let l = c.loop-k in
    let n : l.k ≡ 4 = omega arith in
    l.invariant.1 ∙ ap (λ q. spread s.out.now s.at s.step q (λ k. flat (table s.n (summed_element s.sums.now k)))) n

pub loop-k-init : goal.loop-k-init
loop-k-init c = (omega arith, spread_none _ _ _ _, refl)

pub overflow_mul-k : goal.overflow_mul-k
overflow_mul-k c = let few : c.loop-k.k ≤ 3 = omega arith in
    omega (arith, mul-le-mul_right c.args.step few)
