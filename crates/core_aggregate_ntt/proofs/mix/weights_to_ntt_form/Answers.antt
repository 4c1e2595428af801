-- `weights_to_ntt_form` meets its contract.
use Prim.Native.Nat.{ℕ, ◌*◌, ◌≤◌}
use native.Mathlib.Omega.{arith}
use lib.ListN.{get_or}
use Rattle.ring_rq_matrix.proofs.Fill.{length_filled}
use Rattle.ntt_vectors.proofs.Laws.{ntt_form-before}
use Rattle.core_aggregate_ntt.proofs.Terms.{first-end, form-from}
use Rattle.core_aggregate_ntt.proofs.mix.weights_to_ntt_form.Goals as goal

pub to_ntt_form-requires : goal.to_ntt_form-requires
to_ntt_form-requires c =
    let s = c.args in
    let first = c.first_of-first.ensures in
    (first-end s.weights.now s.alpha s.alphas _ c.requires.0 first.0 first.1, omega arith)

pub to_ntt_form-requires-2 : goal.to_ntt_form-requires-2
to_ntt_form-requires-2 c =
    let s = c.args in
    let second = c.first_of-second.ensures in (
      first-end s.weights.now s.beta s.betas _ c.requires.1 second.0 second.1,
      omega (arith, length_filled _ _ _ _ c.to_ntt_form.ensures.out_after),
    )

pub returns : goal.returns
returns c =
    let s = c.args in
    let given = c.type_inv.weights in
    let words : (j : ℕ) → get_or s.weights.now j 0 ≤ 4294967295 = λ j. omega (arith, given j) in
    let place = c.first_of-first.ensures.0 in
    let first = form-from _ 0 s.weights.now s.alpha s.alphas _ words place c.to_ntt_form.ensures.ntt_form in
    let second = c.to_ntt_form-2.ensures in (
      ntt_form-before _ 0 s.weights.now s.alpha _ (192 * s.alphas) _ s.alphas second.out_after (omega arith) first,
      form-from _ (192 * s.alphas) s.weights.now s.beta s.betas _ words c.first_of-second.ensures.0 second.ntt_form,
    )
