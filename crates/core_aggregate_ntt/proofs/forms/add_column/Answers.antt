use mathlib.Core.Path.{◌≡◌, refl, ap, ◌∙◌}
use Prim.Native.Nat.{◌+◌, ◌<◌}
use native.Mathlib.Omega.{arith}
use Rattle.math.specs.lists.Part.{splice}
use Rattle.ring_rq_matrix.proofs.Fill.{length_filled}
use Rattle.core_aggregate_ntt.specs.Terms.{terms_added}
use Rattle.core_aggregate_ntt.proofs.Terms.{terms-length, terms-none, terms-next, terms-small, one_value}
use Rattle.core_aggregate_ntt.specs.Forms.{forms_added}
use Rattle.core_aggregate_ntt.proofs.FormLaws.{forms-none, forms-next, form_small}
use Rattle.core_aggregate_ntt.proofs.forms.add_column.Goals as goal

pub loop-k-init : goal.loop-k-init
loop-k-init c =
    (omega arith, omega arith, omega arith, terms-none _ _ _ _ _ _ c.requires.1.whole, refl, forms-none _ _ _ _ _, refl)

pub add_both-requires : goal.add_both-requires
add_both-requires c =
    let s = c.args in
    let l = c.loop-k in
    let more : l.k < s.run.count = omega arith in (
      (
        omega (arith, c.requires.0.0.within l.k more),
        one_value s.weights.now s.weights_at s.run.count l.k l.weight c.requires.0.1 more l.invariant.2,
        c.requires.0.2,
      ),
      terms-small s.sums.now s.weights.now s.weights_at s.from.now s.run.at s.run.step l.sums s.run.count l.k l.invariant.3 more c.requires.0.1
          (λ j. omega (arith, c.type_inv.from j)) c.requires.1,
      form_small s.forms.now s.from.now s.run.at s.run.step s.s.now l.forms s.run.count l.k l.invariant.5 more c.requires.2,
    )

pub overflow_add-i : goal.overflow_add-i
overflow_add-i c =
    omega (arith, c.requires.0.0.within c.loop-k.k (omega arith), c.requires.0.0.near)

pub overflow_add-weight : goal.overflow_add-weight
overflow_add-weight c =
    omega (arith, c.requires.0.1.within)

pub loop-k-preserved : goal.loop-k-preserved
loop-k-preserved c =
    let s = c.args in
    let l = c.loop-k in
    let made = c.add_both.ensures in
    let e = terms-next s.sums.now s.weights.now s.weights_at s.from.now s.run.at s.run.step l.sums _ l.k l.weight l.i l.invariant.3 l.invariant.2 l.invariant.1
    made.sums_after in (
      omega arith,
      omega arith,
      omega arith,
      e,
      omega (arith, terms-length s.sums.now s.weights.now s.weights_at s.from.now s.run.at s.run.step _ (l.k + 1) e, c.requires.1.whole),
      forms-next s.forms.now s.from.now s.run.at s.run.step s.s.now l.forms _ l.k l.i l.invariant.5 l.invariant.1 made.forms_after,
      length_filled _ _ _ _ made.forms_after ∙ l.invariant.6,
    )

pub returns : goal.returns
returns c =
    let s = c.args in
    let l = c.loop-k in
    let n : l.k ≡ s.run.count = omega arith in record {
      sums_after = l.invariant.3 ∙ ap (terms_added s.sums.now s.weights.now s.weights_at s.from.now s.run.at s.run.step) n;
      forms_after = l.invariant.5 ∙ ap (λ k. splice s.forms.now 0 (forms_added s.forms.now s.from.now s.run.at s.run.step k s.s.now)) n;
    }
