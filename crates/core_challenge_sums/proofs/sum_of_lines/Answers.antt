-- `sum_of_lines` meets its contract.
use mathlib.Core.Path.{ap, ◌∙◌}
use native.Mathlib.Omega.{arith}
use Rattle.spec_leaves.specs.Ring.{words}
use Rattle.ring_rq_matrix.proofs.Word.{stands_for, words_of-sum}
use Rattle.ntt_vectors.proofs.Laws.{ntt_form-values}
use Rattle.core_challenge_sums.specs.Lines.{weighed_lines}
use Rattle.core_challenge_sums.proofs.Lines.{lines_are}
use Rattle.core_challenge_sums.proofs.sum_of_lines.Goals as goal

pub weigh-first-requires : goal.weigh-first-requires
weigh-first-requires c =
    let p = c.requires in
    let z = ntt_form-values _ _ _ _ _ c.to_ntt_form.ensures.ntt_form in
    let places = c.store.ensures.0.places in
    ((p.in_job.0, places, omega (arith, p.few), p.narrow, p.in_job.1), z)

pub weigh-second-requires : goal.weigh-second-requires
weigh-second-requires c =
    let p = c.requires in
    let z = ntt_form-values _ _ _ _ _ c.to_ntt_form.ensures.ntt_form in
    let places = c.store.ensures.0.places in
    ((p.in_scratch.0, places, omega (arith, p.few), p.narrow, p.in_scratch.1), z)

pub returns : goal.returns
returns c =
    let s = c.args in
    let z = c.to_ntt_form.ensures.ntt_form in
    let made = c.store.ensures.0 in
    let first = weighed_lines s.job.now s.constraints s.r s.n _ _ s.randomness.now s.alpha in
    let second = weighed_lines s.scratch.now s.aggregated s.r s.n _ _ s.randomness.now s.beta in
    words_of-sum _ _ _ first second c.add.ensures (stands_for _ first c.weigh-first.ensures) (stands_for _ second c.weigh-second.ensures)
    ∙ ap words
    (lines_are s.job.now s.constraints s.randomness.now s.alpha s.beta s.scratch.now s.aggregated s.r s.n s.c_at _ _ s.transcript.now s.z_at made
    c.requires.narrow z)
