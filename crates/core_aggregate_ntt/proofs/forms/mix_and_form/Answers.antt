-- `mix_and_form` meets its contract.
use Prim.Native.Nat.{ℕ, ◌+◌}
use native.Mathlib.Omega.{arith}
use lib.ListN.{length-replicate}
use Rattle.math.specs.lists.Part.{part}
use Rattle.ntt_vectors.proofs.Laws.{values-first}
use Rattle.ntt_vectors.proofs.SumsLaws.{part-words}
use Rattle.core_aggregate_ntt.proofs.Terms.{none-small, values-last, terms-after, terms-length}
use Rattle.core_aggregate_ntt.proofs.Mixed.{mixed_words_are}
use Rattle.core_aggregate_ntt.proofs.FormLaws.{buffer_values, forms-stored}
use Rattle.core_aggregate_ntt.proofs.forms.mix_and_form.Goals as goal

pub store_ntt_form-requires : goal.store_ntt_form-requires
store_ntt_form-requires c = omega (arith, length-replicate {A = ℕ} 192 0)

pub add_terms-requires : goal.add_terms-requires
add_terms-requires c =
    let s = c.args in
    let p = c.requires in
    (p.0.0, values-first s.weights.now 0 (s.constraints.count + s.aggregated.count) s.constraints.count (omega arith) p.0.2, none-small s.constraints.count (omega arith))

pub add_column-requires : goal.add_column-requires
add_column-requires c =
    let s = c.args in
    let p = c.requires in
    let stored = c.store_ntt_form.ensures in
    let loaded = c.load.ensures in (
      (
        p.0.1,
        values-last s.weights.now s.constraints.count s.aggregated.count p.0.2,
        buffer_values (part s.witness.now s.s 64) _ _ loaded stored
            (part-words s.witness.now
            (λ j. omega (arith, c.type_inv.witness j)) s.s),
      ),
      terms-after s.weights.now s.job.now s.constraints.at s.constraints.step _ s.constraints.count s.aggregated.count
          c.add_terms.ensures p.0.2 (omega arith)
          (λ j. omega (arith, c.type_inv.job j)),
      p.1.1,
    )

pub inverse-requires : goal.inverse-requires
inverse-requires c =
    let size = terms-length _ _ _ _ _ _ _ _ c.add_column.ensures.sums_after in
    omega (arith, size)

pub returns : goal.returns
returns c =
    let s = c.args in
    let column = c.add_column.ensures in record {
      coeffs_value = mixed_words_are s.job.now s.constraints s.scratch.now s.aggregated s.weights.now _ _ _
          c.add_terms.ensures column.sums_after c.inverse.ensures;
      forms_after = forms-stored (part s.witness.now s.s 64) _ _
          c.load.ensures
          c.store_ntt_form.ensures s.forms.now _ s.scratch.now
          s.aggregated.at s.aggregated.step s.aggregated.count column.forms_after;
    }
