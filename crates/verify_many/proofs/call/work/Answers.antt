-- `work` meets its contract.
use mathlib.Core.Path.{◌≡◌, refl, sym, ap, ◌∙◌}
use native.Mathlib.Omega.{arith}
use lib.ListN.{length}
use Rattle.spec_protocol.specs.Parameters.{parameters}
use Rattle.spec_protocol.specs.Many.{many_need}
use Rattle.relation_env_params.specs.Parameters.{parameters_of}
use Rattle.layout_sizes.specs.Sizes.{Sized}
use Rattle.admission_slices.proofs.Ready.{job-sized}
use Rattle.verify_many.proofs.Rows.{of_job, rowable, still_given, rows-ready, cleared, length_cleared}
use Rattle.verify_many.proofs.call.work.Goals.{After-need-need, Start}
use Rattle.verify_many.proofs.call.work.Goals as goal

-- the parameters can be reckoned with
sized : (s : Start) → Sized (parameters_of s.args.params)
sized s = job-sized s.args.job.now (parameters_of s.args.params) (sym s.requires.fit) s.requires.same

-- the length that is cleared
need_is : (c : After-need-need)
    → c.need-need.result ≡ many_need (parameters c.args.job.now) c.args.count
need_is c =
    c.need-need.ensures ∙ ap (λ P. many_need P c.args.count) c.requires.same

pub row_products-requires : goal.row_products-requires
row_products-requires c =
    let a = c.args in
    rowable a.job.now a.randomness.now a.transcripts.now a.count (length a.scratch.now) a.params c.requires c.check_transcripts-found.result
    c.passing_parts-passes.result c.passing_parts-passes.ensures c.check_transcripts-found.ensures

pub verdicts-out-requires : goal.verdicts-out-requires
verdicts-out-requires c =
    let a = c.args in
    let d = c.row_products.ensures in record {
      many_given = (
        still_given a.job.now a.randomness.now a.transcripts.now a.count (length a.scratch.now) a.params c.requires c.check_transcripts-found.result
            c.passing_parts-passes.result c.passing_parts-passes.ensures d.unchanged refl,
        of_job a.job.now a.randomness.now a.transcripts.now a.count
            (length a.scratch.now) a.params c.requires c.check_transcripts-found.result c.passing_parts-passes.result c.passing_parts-passes.ensures c.check_transcripts-found.ensures,
      );
      rows_ready = rows-ready a.job.now a.randomness.now a.transcripts.now a.count (length a.scratch.now) a.params c.requires c.check_transcripts-found.result
          c.passing_parts-passes.result c.passing_parts-passes.ensures d.unchanged refl c.check_transcripts-found.ensures d.all_rows_done;
    }

pub clear-requires : goal.clear-requires
clear-requires c =
    let size = c.verdicts-out.ensures.unchanged.size ∙ c.row_products.ensures.unchanged.size in
    omega (arith, need_is (goal.at.clear-requires c).After-need-need, c.requires.room, size)

pub returns : goal.returns
returns c =
    let n = (goal.at.returns c).After-need-need in
    let v = c.verdicts-out.ensures in record {
      value = v.value;
      scratch_after = cleared c.need-need.result c.row_products.ensures.unchanged v.unchanged c.clear.ensures (need_is n)
          c.requires.room;
    }

pub check_transcripts-found-requires : goal.check_transcripts-found-requires
check_transcripts-found-requires c =
    let s = (goal.at.check_transcripts-found-requires c).Start in (sized s, c.requires.few)

pub need-need-requires : goal.need-need-requires
need-need-requires c =
    let s = (goal.at.need-need-requires c).Start in (sized s, c.requires.few)

pub shape_of-scratch : goal.shape_of-scratch
shape_of-scratch c = length_cleared c.need-need.result
    c.row_products.ensures.unchanged
    c.verdicts-out.ensures.unchanged c.clear.ensures
