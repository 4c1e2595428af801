-- `commit` meets its contract.
use mathlib.Core.Path.{refl, sym, ap, ◌∙◌}
use Prim.Native.Nat.{◌+◌}
use native.Mathlib.Omega.{arith}
use Rattle.api_answers.specs.Calls.{labrador_answer}
use Rattle.spec_sheds.specs.Runs.{run}
use Rattle.shed_admission.proofs.Order.{few-rows}
use Rattle.shed_rows.proofs.Committed.{rows-room, vectors-room, made-answer, made-output, few-places, norm-refused, refused-output}
use Rattle.shed_rows.proofs.commit.Goals as goal

pub check_witness-requires : goal.check_witness-requires
check_witness-requires c =
    vectors-room c.args.job.now (run c.args.first c.args.end) c.args.vectors.now c.args.output.now c.args.params c.requires

pub clear-requires : goal.clear-requires
clear-requires c =
    rows-room c.args.job.now (run c.args.first c.args.end) c.args.vectors.now c.args.output.now c.args.params c.requires

pub returns-in-Ok : goal.returns-in-Ok
returns-in-Ok c =
    let e = c.in-Ok.ensures in record {
      value = made-answer c.args.job.now (run c.args.first c.args.end) c.args.vectors.now c.args.output.now c.args.params c.requires e _ refl refl;
      output_after = made-output c.args.job.now (run c.args.first c.args.end) c.args.vectors.now c.args.output.now c.args.params c.requires e _ c.put_rows.ensures;
    }

pub overflow_add-result : goal.overflow_add-result
overflow_add-result c =
    let r = c.in-Err.refusal in
    let e = c.in-Err.ensures in
    omega (
      arith,
      few-places c.args.job.now (run c.args.first c.args.end) c.args.vectors.now c.args.output.now c.args.params c.requires r e,
      c.from-found.ensures.1,
      c.requires.in_job.some,
      c.requires.in_job.within,
      c.requires.in_job.sound.within.r.1,
    )

pub returns-in-Err : goal.returns-in-Err
returns-in-Err c =
    let r = c.in-Err.refusal in
    let e = c.in-Err.ensures in
    let n = c.from-found.ensures in record {
      value = (λ i. record { number = n.0 i; place = ap (λ k. c.args.first + k) n.1 i })
          ∙ ap labrador_answer (sym (norm-refused c.args.job.now (run c.args.first c.args.end) c.args.vectors.now c.args.output.now c.args.params c.requires r e));
      output_after = refused-output c.args.job.now (run c.args.first c.args.end) c.args.vectors.now c.args.output.now c.args.params c.requires r e _
          c.clear.ensures;
    }

pub overflow_mul-count : goal.overflow_mul-count
overflow_mul-count c = omega (arith, few-rows c.requires.in_job)

pub overflow_mul-count-in-Err : goal.overflow_mul-count-in-Err
overflow_mul-count-in-Err c = omega (arith, few-rows c.requires.in_job)

pub overflow_add-count : goal.overflow_add-count
overflow_add-count c = omega (arith, few-rows c.requires.in_job)
