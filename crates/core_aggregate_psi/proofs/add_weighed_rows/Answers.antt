use mathlib.Core.Path.{refl, ◌∙◌, ap, ap₂}
use Prim.Native.Nat.{ℕ, ◌+◌, ◌*◌, ◌<◌}
use native.Mathlib.Nat.{mul-le-mul_right}
use native.Mathlib.Omega.{arith}
use lib.ListN.{length}
use Rattle.math.specs.lists.Table.{table}
use Rattle.math.specs.lists.Part.{splice}
use Rattle.math.proofs.lists.Table.{table_ext}
use Rattle.math.proofs.lists.Splice.{length-splice}
use Rattle.spec_leaves.specs.Rq.{Element}
use Rattle.spec_leaves.specs.Ring.{element}
use Rattle.ring_inner_product.specs.Run.{run}
use Rattle.spec_protocol.specs.Formulas.{flat, ◌⊕◌}
use Rattle.spec_protocol.proofs.Stored.{rows_none, rows_next, rows_all}
use Rattle.core_aggregate_psi.specs.Grid.{weighed}
use Rattle.core_aggregate_psi.proofs.Sums.{rows-rest}
use Rattle.core_aggregate_psi.proofs.add_weighed_rows.Goals as goal

pub add_weighed-requires : goal.add_weighed-requires
add_weighed-requires c =
    let s = c.args in
    let h = c.requires in
    let more : c.loop-k.k < s.aggregations = omega arith in
    (h.0, omega (arith, mul-le-mul_right s.count more), omega (arith, mul-le-mul_right s.width more))

pub overflow_add-first : goal.overflow_add-first
overflow_add-first c =
    let s = c.args in
    let more : c.loop-k.k < s.aggregations = omega arith in
    omega (arith, mul-le-mul_right s.count more)

pub overflow_add-place : goal.overflow_add-place
overflow_add-place c =
    let s = c.args in
    let more : c.loop-k.k < s.aggregations = omega arith in
    omega (arith, mul-le-mul_right s.width more)

pub loop-k-preserved : goal.loop-k-preserved
loop-k-preserved c =
    let s = c.args in
    let l = c.loop-k in
    let f : ℕ → ℕ → Element = λ k c. run s.out.now (s.to + 64 * (k * s.width)) 64 c ⊕ weighed s.job.now s.at s.width s.count s.numbers.now (s.row + k * s.count) c in
    let w = c.add_weighed.ensures
    ∙ ap₂ (λ place first. splice l.out place (flat (table s.width (λ c. run l.out place 64 c ⊕ weighed s.job.now s.at s.width s.count s.numbers.now first c))))
    l.invariant.2 l.invariant.1
    ∙ ap (λ t. splice l.out (s.to + 64 * (l.k * s.width)) (flat t))
    (table_ext s.width (λ c. run l.out (s.to + 64 * (l.k * s.width)) 64 c ⊕ weighed s.job.now s.at s.width s.count s.numbers.now (s.row + l.k * s.count) c) (f l.k)
    (λ c h. ap (λ p. element p ⊕ weighed s.job.now s.at s.width s.count s.numbers.now (s.row + l.k * s.count) c)
    (rows-rest s.out.now l.out s.to l.k s.width f (s.to + 64 * (l.k * s.width) + 64 * c) 64 l.invariant.3 (omega arith))))
    ∙ rows_next s.out.now l.out s.to l.k s.width f l.invariant.3 in
    (omega arith, omega arith, omega arith, w, ap length w ∙ length-splice _ _ _)

pub loop-k-init : goal.loop-k-init
loop-k-init c = (omega arith, omega arith, omega arith, rows_none _ _ _ _, refl)

pub returns : goal.returns
returns c = rows_all _ _ _ _ _ _ _ c.loop-k.invariant.3 (omega arith)
