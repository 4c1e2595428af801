use mathlib.Core.Path.{◌≡◌, refl, ap, subst, ◌∙◌}
use Prim.Native.Nat.{◌+◌, ◌*◌, ◌≤◌}
use native.Mathlib.Omega.{arith}
use Rattle.math.specs.lists.Part.{splice}
use Rattle.spec_protocol.proofs.Stored.{stored-none}
use Rattle.ring_rq_matrix.proofs.Fill.{length_filled}
use Rattle.core_aggregate_ntt.specs.Pass.{column_mixed, φ_mixed, HasLines}
use Rattle.core_aggregate_ntt.proofs.Vectors.{run_room, run-stored, run-lines, lines_start}
use Rattle.core_aggregate_ntt.proofs.one_pass.mix_runs.Invariants.{taken}
use Rattle.core_aggregate_ntt.proofs.one_pass.mix_runs.Goals as goal

pub loop-b-init : goal.loop-b-init
loop-b-init c =
    let s = c.args in
    let none : 0 ≡ taken s.width 0 = omega arith in (
      stored-none s.scratch.now s.to (column_mixed s.job.now s.constraints s.scratch.now s.aggregated s.weights.now)
          ∙ ap (λ k. splice s.scratch.now s.to (φ_mixed s.job.now s.constraints s.scratch.now s.aggregated s.weights.now k)) none,
      refl,
      subst (λ k. HasLines s.totals.now s.totals.now s.scratch.now s.aggregated s.witness.now s.s_at k) none
          (lines_start s.job.now s.constraints s.scratch.now s.aggregated s.to s.weights.now s.witness.now s.s_at s.width s.totals.now c.requires),
      refl,
    )

pub mix_run-requires : goal.mix_run-requires
mix_run-requires c =
    let s = c.args in
    let l = c.loop-b in
    let within : 512 * l.b + c.min-n.result ≤ s.width = omega (arith, c.min-n.ensures) in (
      (rw (c.further-constraint.ensures, c.further-one.ensures)
          (run_room s.job.now s.constraints s.scratch.now s.aggregated s.to s.weights.now s.witness.now s.s_at s.width s.totals.now c.requires
          l.scratch l.totals (512 * l.b) _ within l.invariant.1 l.invariant.3)),
      omega (arith, c.min-n.ensures),
    )

pub loop-b-preserved : goal.loop-b-preserved
loop-b-preserved c =
    let s = c.args in
    let l = c.loop-b in
    let made = rw (c.further-constraint.ensures, c.further-one.ensures) at c.mix_run.ensures in
    let within : 512 * l.b + c.min-n.result ≤ s.width = omega (arith, c.min-n.ensures) in
    let here : taken s.width l.b ≡ 512 * l.b = omega arith in
    let next : 512 * l.b + c.min-n.result ≡ taken s.width (l.b + 1) = omega (arith, c.min-n.ensures) in
    let stored = l.invariant.0 ∙ ap (λ k. splice s.scratch.now s.to (φ_mixed s.job.now s.constraints s.scratch.now s.aggregated s.weights.now k)) here in
    let lines = subst (λ k. HasLines l.totals s.totals.now s.scratch.now s.aggregated s.witness.now s.s_at k) here l.invariant.2 in (
      run-stored s.job.now s.constraints s.scratch.now s.aggregated s.to s.weights.now s.witness.now s.s_at s.width s.totals.now c.requires
          l.scratch (512 * l.b) _ within stored _ made.scratch_after
          ∙ ap (λ k. splice s.scratch.now s.to (φ_mixed s.job.now s.constraints s.scratch.now s.aggregated s.weights.now k)) next,
      length_filled _ _ _ _ made.scratch_after ∙ l.invariant.1,
      subst (λ k. HasLines c.mix_run.new.totals s.totals.now s.scratch.now s.aggregated s.witness.now s.s_at k) next
          (run-lines s.job.now s.constraints s.scratch.now s.aggregated s.to s.weights.now s.witness.now s.s_at s.width s.totals.now c.requires
          l.scratch (512 * l.b) _ within stored l.totals _ l.invariant.3 lines made.totals_after),
      length_filled _ _ _ _ made.totals_after ∙ l.invariant.3,
    )

pub returns : goal.returns
returns c =
    let s = c.args in
    let l = c.loop-b in
    let all : taken s.width l.b ≡ s.width = omega arith in record {
      scratch_after = l.invariant.0 ∙ ap (λ c. splice s.scratch.now s.to (φ_mixed s.job.now s.constraints s.scratch.now s.aggregated s.weights.now c)) all;
      has_lines = subst (λ c. HasLines l.totals s.totals.now s.scratch.now s.aggregated s.witness.now s.s_at c) all l.invariant.2;
      totals_len_unchanged = l.invariant.3;
    }

pub further-constraint-requires : goal.further-constraint-requires
further-constraint-requires c = omega (arith, c.requires.near.0)

pub further-one-requires : goal.further-one-requires
further-one-requires c = omega (arith, c.requires.near.1)
