-- `row_of_one` meets its contract: the words between the part's bounds are the transcript.
use mathlib.Core.Path.{◌≡◌, sym, ap, subst, ◌∙◌}
use Prim.Native.Nat.{◌-◌, ◌≤◌}
use native.Mathlib.Omega.{arith}
use lib.ListN.{length}
use Rattle.math.specs.lists.Part.{part, splice}
use Rattle.spec_leaves.specs.Ring.{words}
use Rattle.spec_protocol.specs.Parameters.{parameters}
use Rattle.spec_protocol.specs.Layout.{span, transcript_sections}
use Rattle.spec_protocol.specs.Many.{transcript_part, row_product}
use Rattle.verify_many_admission.proofs.Cut.{in_order, between}
use Rattle.relation_env_params.specs.Parameters.{parameters_of}
use Rattle.verifier_common.specs.Work.{Posed}
use Rattle.verifier_common.proofs.Sent.{reckoned}
use Rattle.verify_many_windows.specs.Held.{AllHeld}
use Rattle.verify_many_rows.specs.Rows.{stored_for}
use Rattle.verify_many_rows.proofs.rows.row_of_one.Goals.{After-transcript_bounds-b, Then-pass}
use Rattle.verify_many_rows.proofs.rows.row_of_one.Goals as goal

-- the transcript is posed
posed : (c : Then-pass)
    → let s = c.args in
    Posed s.job.now (transcript_part (parameters s.job.now) s.count s.transcripts.now s.m) s.params
posed c = c.requires.posed c.if-pass.true

-- the part's bounds
order : (c : After-transcript_bounds-b) → (c.transcript_bounds-b.result.from ≤ c.transcript_bounds-b.result.to)
    × (c.transcript_bounds-b.result.to ≤ length c.args.transcripts.now)
order c =
    let s = c.args in
    in_order s.transcripts.now (span (transcript_sections (parameters_of s.params))) s.count s.m c.transcript_bounds-b.result c.transcript_bounds-b.ensures

-- what lies between them
lent : (c : After-transcript_bounds-b)
    → let s = c.args in
    part s.transcripts.now c.transcript_bounds-b.result.from (c.transcript_bounds-b.result.to - c.transcript_bounds-b.result.from)
    ≡ transcript_part (parameters s.job.now) s.count s.transcripts.now s.m
lent c =
    let s = c.args in
    between s.transcripts.now (span (transcript_sections (parameters_of s.params))) s.count s.m c.transcript_bounds-b.result c.transcript_bounds-b.ensures
    ∙ ap (λ P. transcript_part P s.count s.transcripts.now s.m) (c.requires.posed c.if-pass.true).same

pub transcript_bounds-b-requires : goal.transcript_bounds-b-requires
transcript_bounds-b-requires c =
    (c.requires.m_lt_count.0, c.requires.m_lt_count.1, reckoned (posed (goal.at.transcript_bounds-b-requires c).Then-pass))

pub store_row-requires : goal.store_row-requires
store_row-requires c =
    let b = (goal.at.store_row-requires c).After-transcript_bounds-b in record {
      posed = (subst (λ X. Posed c.args.job.now X c.args.params) (sym (lent b)) (posed (goal.at.store_row-requires c).Then-pass), c.requires.m_lt_count.2, c.requires.m_lt_count.3);
      all_held = λ at e. subst (λ X. AllHeld c.args.job.now X c.args.scratch.now at) (sym (lent b)) (c.requires.all_held c.if-pass.true at e);
    }

pub returns-then-pass : goal.returns-then-pass
returns-then-pass c =
    let b = (goal.at.returns-then-pass c).After-transcript_bounds-b in
    let s = c.args in
    c.store_row.ensures
    ∙ ap (λ X. splice s.scratch.now s.place (words (row_product s.job.now X s.row))) (lent b)
    ∙ ap (λ t. stored_for s.job.now s.transcripts.now s.count s.row s.m s.place t s.scratch.now) (sym c.if-pass.true)

pub returns-else-pass : goal.returns-else-pass
returns-else-pass c =
    let s = c.args in
    ap (λ t. stored_for s.job.now s.transcripts.now s.count s.row s.m s.place t s.scratch.now) (sym c.if-pass.false)

pub offset_bounds-transcripts-from : goal.offset_bounds-transcripts-from
offset_bounds-transcripts-from c = omega (arith, order (goal.at.offset_bounds-transcripts-from c).After-transcript_bounds-b)

pub slice_bounds-store_row-count : goal.slice_bounds-store_row-count
slice_bounds-store_row-count c = (order (goal.at.slice_bounds-store_row-count c).After-transcript_bounds-b).0

pub slice_bounds-store_row-start : goal.slice_bounds-store_row-start
slice_bounds-store_row-start c = (order (goal.at.slice_bounds-store_row-start c).After-transcript_bounds-b).0

pub slice_bounds-store_row-end : goal.slice_bounds-store_row-end
slice_bounds-store_row-end c = (order (goal.at.slice_bounds-store_row-end c).After-transcript_bounds-b).1
