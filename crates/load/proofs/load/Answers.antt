-- `load` meets its contract.
use mathlib.Core.Path.{sym}
use Prim.Native.Nat.{◌<◌, ◌^◌}
use native.Mathlib.Omega.{arith}
use lib.ListN.{length}
use Rattle.std.proofs.lemmas.Result.{err_from_is_err_and}
use Rattle.spec_protocol.specs.Load.{load_refusal, load_job, load_witness, load_randomness}
use Rattle.load_needs.specs.Given.{given}
use Rattle.load_needs.proofs.Refusals.{room}
use Rattle.load.specs.Exit.{job_exit, witness_exit, randomness_exit}
use Rattle.load.proofs.Calls.{untouched, written}
use Rattle.load.proofs.Whole.{job-length, witness-length, randomness-length}
use Rattle.load.proofs.load.Goals as goal

pub work-requires : goal.work-requires
work-requires c =
    let s = c.args in
    let a = c.in_ok-params.ensures in
    let r = room (given s.g) (length s.job.now) (length s.witness.now) (length s.randomness.now) (sym a.result_value) in
    (a.at, r.job_fits, r.witness_fits, r.randomness_fits)

pub returns-in_err-params : goal.returns-in_err-params
unfolding job_exit witness_exit randomness_exit
returns-in_err-params c =
    let s = c.args in
    let G = given s.g in
    let a = load_refusal G (length s.job.now) (length s.witness.now) (length s.randomness.now) in
    let e = c.in_err-params.ensures.result_value in
    let f = c.from_residual in
    let p = err_from_is_err_and f.result f.ensures.1 in
    record {
      result_value = rw (p.1, p.2) e;
      job_after = untouched _ a (load_job G s.seed) s.job.now e;
      witness_after = untouched _ a (load_witness G s.seed) s.witness.now e;
      randomness_after = untouched _ a (load_randomness G s.seed) s.randomness.now e;
    }

pub returns : goal.returns
unfolding job_exit witness_exit randomness_exit
returns c =
    let s = c.args in
    let G = given s.g in
    let fits : s.seed < 2 ^ 32 = omega (arith, c.ranges.seed) in
    let a = load_refusal G (length s.job.now) (length s.witness.now) (length s.randomness.now) in
    let e = c.in_ok-params.ensures.result_value in
    let w = c.work.ensures in
    let r = room G (length s.job.now) (length s.witness.now) (length s.randomness.now) (sym e) in
    record {
      result_value = e;
      job_after = written a (load_job G s.seed) s.job.now _ e (omega (arith, job-length G s.seed fits, r.job_fits)) w.job_after;
      witness_after = written a (load_witness G s.seed) s.witness.now _ e (omega (arith, witness-length G s.seed fits, r.witness_fits)) w.witness_after;
      randomness_after = written a (load_randomness G s.seed) s.randomness.now _ e (omega (arith, randomness-length G s.seed fits, r.randomness_fits)) w.randomness_after;
    }
