-- `judge_part` meets its contract.
use mathlib.Core.Path.{◌≡◌, sym, ap, subst, ◌∙◌}
use Prim.Native.Nat.{◌+◌, ◌-◌, ◌*◌, ◌≤◌}
use native.Mathlib.Nat.{mul-le-mul_right}
use native.Mathlib.Omega.{arith}
use lib.ListN.{length}
use Rattle.math.specs.lists.Part.{part}
use Rattle.spec_protocol.specs.Parameters.{parameters}
use Rattle.spec_protocol.specs.Layout.{span, randomness_sections, transcript_sections, scratch_need}
use Rattle.spec_protocol.specs.Many.{randomness_part, transcript_part, RowsDone, window, row_count}
use Rattle.relation_env_params.specs.Parameters.{parameters_of}
use Rattle.layout_sizes.specs.Sizes.{Sized}
use Rattle.admission_slices.proofs.Ready.{job-sized}
use Rattle.verify_many_admission.proofs.Cut.{in_order, between}
use Rattle.verify_many_admission.proofs.Verdicts.{part_verifiable, part-judged}
use Rattle.verify_many.proofs.verdicts.part.judge_part.Goals.{After-randomness_bounds-r, After-transcript_bounds-t, Start}
use Rattle.verify_many.proofs.verdicts.part.judge_part.Goals as goal

-- the parameters can be reckoned with
sized : (s : Start) → Sized (parameters_of s.args.params)
sized s = job-sized s.args.job.now (parameters_of s.args.params) (sym s.requires.many_given.0.fit) s.requires.many_given.0.same

-- the bounds of the parts
module _ (c : After-randomness_bounds-r) where
  abbrev s : Start
  s = c.before.before.before.before.before.before

  randomness_order : (c.randomness_bounds-r.result.from ≤ c.randomness_bounds-r.result.to) × (c.randomness_bounds-r.result.to ≤ length s.args.randomness.now)
  randomness_order = in_order s.args.randomness.now (span (randomness_sections (parameters_of s.args.params))) s.args.count s.args.m c.randomness_bounds-r.result
      c.randomness_bounds-r.ensures

  randomness_is : part s.args.randomness.now c.randomness_bounds-r.result.from (c.randomness_bounds-r.result.to - c.randomness_bounds-r.result.from)
      ≡ randomness_part (parameters s.args.job.now) s.args.count s.args.randomness.now s.args.m
  randomness_is =
      between s.args.randomness.now (span (randomness_sections (parameters_of s.args.params))) s.args.count s.args.m c.randomness_bounds-r.result c.randomness_bounds-r.ensures
      ∙ ap (λ P. randomness_part P s.args.count s.args.randomness.now s.args.m) s.requires.many_given.0.same

module _ (c : After-transcript_bounds-t) where
  abbrev s' : Start
  s' = c.before.before.before.before.before.before.before

  transcript_order : (c.transcript_bounds-t.result.from ≤ c.transcript_bounds-t.result.to) × (c.transcript_bounds-t.result.to ≤ length s'.args.transcripts.now)
  transcript_order = in_order s'.args.transcripts.now (span (transcript_sections (parameters_of s'.args.params))) s'.args.count s'.args.m
      c.transcript_bounds-t.result c.transcript_bounds-t.ensures

  transcript_is : part s'.args.transcripts.now c.transcript_bounds-t.result.from (c.transcript_bounds-t.result.to - c.transcript_bounds-t.result.from)
      ≡ transcript_part (parameters s'.args.job.now) s'.args.count s'.args.transcripts.now s'.args.m
  transcript_is =
      between s'.args.transcripts.now (span (transcript_sections (parameters_of s'.args.params))) s'.args.count s'.args.m c.transcript_bounds-t.result c.transcript_bounds-t.ensures
      ∙ ap (λ P. transcript_part P s'.args.count s'.args.transcripts.now s'.args.m) s'.requires.many_given.0.same

pub judge_window-requires : goal.judge_window-requires
judge_window-requires c =
    let r = (goal.at.judge_window-requires c).After-randomness_bounds-r in
    let t = (goal.at.judge_window-requires c).After-transcript_bounds-t in
    let a = c.args in
    let need = scratch_need (parameters a.job.now) in
    let g = c.requires.many_given.0 in
    let more : (a.m + 1) * need ≤ a.count * need = mul-le-mul_right need (omega arith) in record {
      verifiable = part_verifiable a.job.now a.count a.randomness.now a.transcripts.now a.m g.fit _ _ (randomness_is r) (transcript_is t) c.requires.m_value a.params g.same;
      m_bound = (omega (arith, g.few), omega (arith, more, g.room));
      rows_done = subst (λ T. RowsDone a.job.now T (window (parameters a.job.now) a.scratch.now a.m) (row_count (parameters a.job.now))) (sym (transcript_is t)) c.requires.part_ready;
    }

pub returns : goal.returns
returns c =
    let r = (goal.at.returns c).After-randomness_bounds-r in
    let t = (goal.at.returns c).After-transcript_bounds-t in
    let a = c.args in
    let e = c.judge_window.ensures in
    record {
      result_value = e.result_value ∙ part-judged a.job.now a.count a.randomness.now a.transcripts.now a.m c.requires.many_given.0.fit _ _ (randomness_is r) (transcript_is t) c.requires.m_value;
      unchanged = e.unchanged;
    }

pub randomness_bounds-r-requires : goal.randomness_bounds-r-requires
randomness_bounds-r-requires c =
    let s = (goal.at.randomness_bounds-r-requires c).Start in (c.requires.many_given.1, c.requires.many_given.0.few, sized s)

pub transcript_bounds-t-requires : goal.transcript_bounds-t-requires
transcript_bounds-t-requires c =
    let s = (goal.at.transcript_bounds-t-requires c).Start in (c.requires.many_given.1, c.requires.many_given.0.few, sized s)

pub offset_bounds-randomness-r_from : goal.offset_bounds-randomness-r_from
offset_bounds-randomness-r_from c = omega (arith, randomness_order (goal.at.offset_bounds-randomness-r_from c).After-randomness_bounds-r)

pub slice_bounds-judge_window-count : goal.slice_bounds-judge_window-count
slice_bounds-judge_window-count c = (randomness_order (goal.at.slice_bounds-judge_window-count c).After-randomness_bounds-r).0

pub slice_bounds-judge_window-start : goal.slice_bounds-judge_window-start
slice_bounds-judge_window-start c = (randomness_order (goal.at.slice_bounds-judge_window-start c).After-randomness_bounds-r).0

pub slice_bounds-judge_window-end : goal.slice_bounds-judge_window-end
slice_bounds-judge_window-end c = (randomness_order (goal.at.slice_bounds-judge_window-end c).After-randomness_bounds-r).1

pub offset_bounds-transcripts-t_from : goal.offset_bounds-transcripts-t_from
offset_bounds-transcripts-t_from c = omega (arith, transcript_order (goal.at.offset_bounds-transcripts-t_from c).After-transcript_bounds-t)

pub slice_bounds-judge_window-count-2 : goal.slice_bounds-judge_window-count-2
slice_bounds-judge_window-count-2 c = (transcript_order (goal.at.slice_bounds-judge_window-count-2 c).After-transcript_bounds-t).0

pub slice_bounds-judge_window-start-2 : goal.slice_bounds-judge_window-start-2
slice_bounds-judge_window-start-2 c = (transcript_order (goal.at.slice_bounds-judge_window-start-2 c).After-transcript_bounds-t).0

pub slice_bounds-judge_window-end-2 : goal.slice_bounds-judge_window-end-2
slice_bounds-judge_window-end-2 c = (transcript_order (goal.at.slice_bounds-judge_window-end-2 c).After-transcript_bounds-t).1
