-- `add_both` meets its contract.
use Prim.Native.Nat.{ℕ}
use native.Mathlib.Omega.{arith}
use lib.ListN.{length-replicate}
use Rattle.math.specs.lists.Part.{part}
use Rattle.ring_rq_matrix.proofs.Fill.{length_filled}
use Rattle.ntt_vectors.proofs.SumsLaws.{part-words}
use Rattle.core_aggregate_ntt.proofs.Terms.{term_made, term-room}
use Rattle.core_aggregate_ntt.proofs.FormLaws.{form-made, form-room}
use Rattle.core_aggregate_ntt.proofs.forms.add_both.Goals as goal

pub store_ntt_form-requires : goal.store_ntt_form-requires
store_ntt_form-requires c = omega (arith, length-replicate {A = ℕ} 192 0)

pub add_product-requires : goal.add_product-requires
add_product-requires c =
    let s = c.args in
    let stored = c.store_ntt_form.ensures in
    let loaded = c.load.ensures in (
      omega (arith, c.requires.1.whole),
      omega (arith, c.requires.0.1.within),
      omega (arith, length_filled _ _ _ _ stored, length-replicate {A = ℕ} 192 0),
      term-room (part s.from.now s.at 64) _ _ loaded stored s.sums.now s.weights.now s.weight
          (part-words s.from.now (λ j. omega (arith, c.type_inv.from j))
          s.at) c.requires.0.1 c.requires.1,
    )

pub add_product-requires-2 : goal.add_product-requires-2
add_product-requires-2 c =
    let s = c.args in
    let stored = c.store_ntt_form.ensures in
    let loaded = c.load.ensures in (
      c.requires.2.0,
      omega (arith, length_filled _ _ _ _ stored, length-replicate {A = ℕ} 192 0),
      omega (arith, c.requires.0.2.within),
      form-room (part s.from.now s.at 64) _ _ loaded stored s.forms.now s.form s.s.now
          (part-words s.from.now (λ j. omega
          (arith, c.type_inv.from j))
          s.at) c.requires.0.2 c.requires.2,
    )

pub returns : goal.returns
returns c =
    let s = c.args in
    let stored = c.store_ntt_form.ensures in
    let loaded = c.load.ensures in record {
      sums_after = term_made (part s.from.now s.at 64) _ _ loaded stored s.sums.now _ s.weights.now s.weight c.requires.1.whole
          c.add_product.ensures;
      forms_after = form-made (part s.from.now s.at 64) _ _ loaded stored s.forms.now _ s.form s.s.now c.add_product-2.ensures;
    }
