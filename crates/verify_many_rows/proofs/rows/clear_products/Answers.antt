use mathlib.Core.Path.{◌≡◌, sym, ap, subst, ◌∙◌}
use Prim.Native.Nat.{ℕ, ◌+◌, ◌-◌, ◌*◌, ◌≤◌}
use native.Mathlib.Omega.{arith}
use lib.ListN.{length, replicate, length-replicate}
use Rattle.math.specs.lists.Part.{part, splice}
use Rattle.spec_protocol.specs.Unchanged.{Unchanged}
use Rattle.spec_protocol.specs.Layout.{scratch_need}
use Rattle.relation_env_params.specs.Parameters.{parameters_of}
use Rattle.ring_rq_matrix.proofs.Place.{rows-within}
use Rattle.core_workspace.proofs.Unchanged.{unchanged_refl, unchanged_stored}
use Rattle.verify_many_rows.proofs.Windows.{zero_next}
use Rattle.verify_many_rows.proofs.rows.clear_products.Goals.{In-loop-m}
use Rattle.verify_many_rows.proofs.rows.clear_products.Goals as goal

-- the windows lie within the scratch, and each has room for the products
bounds : (c : In-loop-m)
    → let s = c.args in
    let need = c.scratch_length-need.result in
    (4096 ≤ need) × (s.count * need ≤ length s.scratch.now) × (c.loop-m.m * need + need ≤ s.count * need)
bounds c =
    let e = c.scratch_length-need.ensures in
    let large : 4096 ≤ scratch_need (parameters_of c.args.params) = omega arith in (
      subst (λ n. 4096 ≤ n) (sym e) large,
      subst (λ n. c.args.count * n ≤ length c.args.scratch.now) (sym e) c.requires.1,
      rows-within c.loop-m.m c.args.count c.scratch_length-need.result c.loop-m-test.true,
    )

pub loop-m-init : goal.loop-m-init
loop-m-init c = (omega arith, omega arith, λ k h. absurd (omega arith), unchanged_refl _ _)

pub loop-m-preserved : goal.loop-m-preserved
loop-m-preserved c =
    let i = (goal.at.loop-m-preserved c).In-loop-m in
    let l = c.loop-m in
    let s = c.args in
    let need = c.scratch_length-need.result in
    let b = bounds i in
    let size = length-replicate {A = ℕ} 4096 0 in
    let at : l.start + need - 4096 ≡ l.m * need + (need - 4096) = omega (arith, l.invariant.1, b) in
    let stored = c.clear_run.ensures ∙ ap (λ a. splice l.scratch a (replicate 4096 0)) at in (
      omega arith,
      omega (arith, l.invariant.1),
      zero_next l.scratch _ need l.m s.count b.0 c.loop-m-test.true (omega (arith, b.1, l.invariant.3.size)) stored l.invariant.2,
      unchanged_stored (s.count * need) s.scratch.now l.scratch _ (l.m * need + (need - 4096)) (replicate 4096 0) l.invariant.3 stored (omega (arith, size, b)),
    )

pub returns : goal.returns
returns c =
    let s = c.args in
    let l = c.loop-m in
    let e = c.scratch_length-need.ensures in record {
      products_zero = λ m h. subst (λ n. part l.scratch (m * n + (n - 4096)) 4096 ≡ replicate 4096 0) e (l.invariant.2 m (omega arith));
      unchanged = subst (λ n. Unchanged (s.count * n) s.scratch.now l.scratch) e l.invariant.3;
    }

pub scratch_length-need-requires : goal.scratch_length-need-requires
scratch_length-need-requires c = c.requires.0

pub overflow_add-start : goal.overflow_add-start
overflow_add-start c = omega (arith, bounds (goal.at.overflow_add-start c).In-loop-m, c.loop-m.invariant.1, c.loop-m.invariant.3.size)

pub overflow_sub-start : goal.overflow_sub-start
overflow_sub-start c = omega (arith, bounds (goal.at.overflow_sub-start c).In-loop-m)

pub clear_run-requires : goal.clear_run-requires
clear_run-requires c = omega (arith, bounds (goal.at.clear_run-requires c).In-loop-m, c.loop-m.invariant.1, c.loop-m.invariant.3.size)

pub overflow_add-start-in-loop-m : goal.overflow_add-start-in-loop-m
overflow_add-start-in-loop-m c = omega (arith, bounds (goal.at.overflow_add-start-in-loop-m c).In-loop-m, c.loop-m.invariant.1, c.loop-m.invariant.3.size)

pub shape_of-scratch : goal.shape_of-scratch
shape_of-scratch c = c.loop-m.invariant.3.size
