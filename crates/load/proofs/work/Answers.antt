-- `work` meets its contract.
use mathlib.Core.Path.{sym, subst}
use Prim.Native.Nat.{◌≤◌, ◌<◌, ◌^◌}
use native.Mathlib.Omega.{arith}
use lib.ListN.{length}
use Rattle.spec_protocol.specs.Layout.{span, witness_sections, randomness_sections}
use Rattle.relation_env_params.specs.Parameters.{parameters_of}
use Rattle.load_needs.specs.Given.{given}
use Rattle.load.proofs.Finish.{is_blank}
use Rattle.load.proofs.Whole.{room_unchanged, blank_unchanged, witness_is, randomness_is, job_is}
use Rattle.load.proofs.work.Goals as goal

pub draw_witness-after_witness-requires : goal.draw_witness-after_witness-requires
draw_witness-after_witness-requires c =
    let s = c.args in
    let h = c.requires in
    (h.0.sized, subst (λ P. span (witness_sections P) ≤ length s.witness.now) (sym h.0.same) h.2)

pub draw_randomness-requires : goal.draw_randomness-requires
draw_randomness-requires c =
    let s = c.args in
    let h = c.requires in
    (h.0.sized, subst (λ P. span (randomness_sections P) ≤ length s.randomness.now) (sym h.0.same) h.3)

pub work_out-requires : goal.work_out-requires
work_out-requires c =
    let s = c.args in
    let h = c.requires in
    let fits : s.seed < 2 ^ 32 = omega
    (arith, c.ranges.seed) in (
      h.0.sized,
      blank_unchanged _ _ _ _ h.0.same c.draw_job-after_job.ensures.0
          (is_blank (given s.g) s.seed fits s.job.now s.witness.now h.1 h.2),
      room_unchanged _ _ _ _ _ 0 h.0.same c.draw_witness-after_witness.ensures.0 h.2,
    )

pub returns : goal.returns
returns c =
    let s = c.args in
    let h = c.requires in
    let G = given s.g in
    let fits : s.seed < 2 ^ 32 = omega
    (arith, c.ranges.seed) in
    let j = c.draw_job-after_job.ensures in
    let v = c.draw_witness-after_witness.ensures in
    let wit = witness_is G s.seed (parameters_of s.params) _ s.witness.now _ h.0.same j.1 v.0 in record {
      job_after = job_is G s.seed fits s.job.now s.witness.now h.1 h.2 (parameters_of s.params) _ _ _ h.0.same j.0 wit c.work_out.ensures;
      witness_after = wit;
      randomness_after = randomness_is G s.seed (parameters_of s.params) _ _ s.randomness.now _ h.0.same j.1 v.1
          c.draw_randomness.ensures;
    }
