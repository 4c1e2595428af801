-- `work_and_clear` meets its contract.
use mathlib.Core.Path.{refl, ◌∙◌}
use native.Mathlib.Omega.{arith}
use Rattle.ring_rq_matrix.proofs.Fill.{length_filled}
use Rattle.verifier.proofs.Whole.{sent_of, ready_of, call_sized, few_regions, need_within, cleared}
use Rattle.verifier.proofs.verify.work_and_clear.Goals as goal

pub lay_out-regions-requires : goal.lay_out-regions-requires
lay_out-regions-requires c = few_regions _ _ _ _ _ c.requires

pub check_all-answer-requires : goal.check_all-answer-requires
check_all-answer-requires c = ready_of _ _ _ _ _ c.requires _ c.args.scratch.now refl c.lay_out-regions.ensures

pub invariant_of-exchange : goal.invariant_of-exchange
invariant_of-exchange c = record { sent = sent_of _ _ _ _ _ c.requires }

pub scratch_length-need-requires : goal.scratch_length-need-requires
scratch_length-need-requires c = call_sized _ _ _ _ _ c.requires

pub clear-requires : goal.clear-requires
clear-requires c =
    omega (
      arith,
      need_within _ _ _ _ _ c.requires _ c.check_all-answer.new.scratch c.scratch_length-need.ensures
          c.check_all-answer.ensures.unchanged.size,
    )

pub returns : goal.returns
returns c =
    let e = c.check_all-answer.ensures in
    record { result_value = e.result_value; scratch_after = cleared _ _ _ _ _ c.requires _ c.args.scratch.now _ _ c.scratch_length-need.ensures refl e.unchanged c.clear.ensures }

pub shape_of-scratch : goal.shape_of-scratch
shape_of-scratch c = length_filled _ _ _ _ c.clear.ensures ∙ c.check_all-answer.ensures.unchanged.size
