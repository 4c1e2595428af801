-- `mix` meets its contract.
use Prim.Native.Nat.{◌+◌}
use native.Mathlib.Omega.{arith}
use Rattle.ntt_vectors.proofs.Laws.{values-first}
use Rattle.core_aggregate_ntt.proofs.Terms.{none-small, values-last, terms-after, terms-length}
use Rattle.core_aggregate_ntt.proofs.Mixed.{mixed_words_are}
use Rattle.core_aggregate_ntt.proofs.mix.mix.Goals as goal

pub add_terms-requires : goal.add_terms-requires
add_terms-requires c =
    let s = c.args in
    let p = c.requires in
    (p.0, values-first s.weights.now 0 (s.constraints.count + s.aggregated.count) s.constraints.count (omega arith) p.2, none-small s.constraints.count (omega arith))

pub add_terms-requires-2 : goal.add_terms-requires-2
add_terms-requires-2 c =
    let s = c.args in
    let p = c.requires in (
      p.1,
      values-last s.weights.now s.constraints.count s.aggregated.count p.2,
      terms-after s.weights.now s.job.now s.constraints.at s.constraints.step _ s.constraints.count s.aggregated.count c.add_terms.ensures
          p.2 (omega arith)
          (λ j. omega (arith, c.type_inv.job j)),
    )

pub inverse-requires : goal.inverse-requires
inverse-requires c =
    let size = terms-length _ _ _ _ _ _ _ _ c.add_terms-2.ensures in
    omega (arith, size)

pub returns : goal.returns
returns c =
    let s = c.args in
    mixed_words_are s.job.now s.constraints s.scratch.now s.aggregated s.weights.now _ _ _ c.add_terms.ensures
    c.add_terms-2.ensures c.inverse.ensures
