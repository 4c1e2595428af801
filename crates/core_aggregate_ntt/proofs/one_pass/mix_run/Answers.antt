use mathlib.Core.Path.{◌≡◌, refl, sym, ap, subst, ◌∙◌}
use Prim.Native.Nat.{ℕ, ◌<◌}
use native.Mathlib.Omega.{arith}
use borrow.Author.Rules.{rules}
use lib.ListN.{get_or, length, length-replicate}
use Rattle.math.specs.lists.Table.{table}
use Rattle.math.proofs.lists.Splice.{length-splice}
use Rattle.spec_leaves.specs.Ring.{words}
use Rattle.spec_protocol.specs.Formulas.{flat}
use Rattle.spec_protocol.proofs.Stored.{stored-none, stored_next, stored-all}
use Rattle.ring_rq_matrix.proofs.Fill.{length_filled}
use Rattle.ring_inner_product.specs.Run.{Within, further}
use Rattle.core_aggregate_ntt.proofs.Mixed.{ntt_mixed-before}
use Rattle.core_aggregate_ntt.specs.Pass.{column_mixed}
use Rattle.core_aggregate_ntt.proofs.OnePassForms.{run-same, lines_none, lines_next, lines-small, lines-total}
use mir.Val.{Fits}
use mir.Syntax.{w32}
use Rattle.core_aggregate_ntt.proofs.one_pass.mix_run.Goals as goal

pub loop-m-init : goal.loop-m-init
loop-m-init c =
    let s = c.args in
    (omega arith, stored-none _ _ _, refl, length-replicate {A = ℕ} 6144 0, lines_none s.scratch.now s.aggregated s.witness.now s.s_at c.requires.0.forms)

pub mix_and_form-e-requires : goal.mix_and_form-e-requires
mix_and_form-e-requires c =
    let s = c.args in
    let p = c.requires.0 in
    let l = c.loop-m in
    let more : l.m < s.n = omega arith in (
      (
        subst (Within s.job.now) (sym c.further-constraint.ensures) (p.in_job l.m more),
        subst (Within l.scratch) (sym c.further-one.ensures) (run-same s.scratch.now l.scratch (further s.aggregated l.m) l.invariant.2 (p.in_scratch l.m more)),
        (rw (c.further-constraint.ensures, c.further-one.ensures) p.values),
        (rw (c.further-constraint.ensures, c.further-one.ensures) p.few),
      ),
      (
        omega (arith, p.vectors),
        (rw c.further-one.ensures (lines-small s.scratch.now s.aggregated s.witness.now s.s_at
            (λ j. let f : Fits w32 (get_or s.scratch.now j 0) = search rules in omega arith)
            (λ j. omega (arith, c.type_inv.witness j)) l.forms l.m (omega arith) (omega (arith, p.forms))
            l.invariant.4)),
      ),
    )

pub loop-m-preserved : goal.loop-m-preserved
loop-m-preserved c =
    let s = c.args in
    let p = c.requires.0 in
    let l = c.loop-m in
    let more = c.loop-m-test.true in
    let made = rw (c.further-constraint.ensures, c.further-one.ensures) at c.mix_and_form-e.ensures in
    let new = flat (table l.m (column_mixed s.job.now s.constraints s.scratch.now s.aggregated s.weights.now)) in
    let e = made.coeffs_value ∙ ap words (ntt_mixed-before _ _ _ _ (further s.aggregated l.m) _ s.to _ l.invariant.1 (λ k i. p.before l.m k more i)) in
    let w = c.store.ensures ∙ stored_next _ _ _ l.m _ _ l.invariant.1 e in (
      omega (arith, more),
      w,
      ap length w ∙ length-splice _ _ _,
      length_filled _ _ _ _ made.forms_after ∙ l.invariant.3,
      lines_next s.scratch.now s.aggregated s.witness.now s.s_at l.scratch l.forms _ s.to new l.m l.invariant.1 (λ k i. p.before l.m k more i)
          (omega (arith, p.forms, l.invariant.3)) made.forms_after l.invariant.4,
    )

pub add_totals-requires : goal.add_totals-requires
add_totals-requires c =
    (omega (arith, c.requires.0.forms, c.loop-m.invariant.3), c.requires.0.sums)

pub returns : goal.returns
returns c =
    let s = c.args in
    let l = c.loop-m in
    let n : l.m ≡ s.n = omega arith in record {
      scratch_after = stored-all _ _ _ _ _ _ l.invariant.1 n;
      totals_after = lines-total s.scratch.now s.aggregated s.witness.now s.s_at
          (λ j. let f : Fits w32 (get_or s.scratch.now j 0) = search rules in omega arith)
          (λ j. omega (arith, c.type_inv.witness j)) s.totals.now _ l.forms s.n
          (omega arith) (omega (arith, c.requires.0.forms, l.invariant.3)) (rw n at l.invariant.4) c.add_totals.ensures;
    }

pub further-constraint-requires : goal.further-constraint-requires
further-constraint-requires c = omega (arith, c.requires.0.near.0)

pub further-one-requires : goal.further-one-requires
further-one-requires c = omega (arith, c.requires.0.near.1)

pub overflow_mul-m : goal.overflow_mul-m
overflow_mul-m c = omega (arith, c.requires.0.vectors)

pub overflow_add-s_at : goal.overflow_add-s_at
overflow_add-s_at c = omega (arith, c.requires.0.vectors)

pub overflow_mul-m-in-loop-m : goal.overflow_mul-m-in-loop-m
overflow_mul-m-in-loop-m c = omega (arith, c.requires.0.room)

pub overflow_add-to : goal.overflow_add-to
overflow_add-to c = omega (arith, c.requires.0.room)

pub store-requires : goal.store-requires
store-requires c = omega (arith, c.requires.0.room)

pub loop-m-smaller : goal.loop-m-smaller
loop-m-smaller c = omega (arith, c.loop-m-test.true)
