-- `one_to_ntt_form` meets its contract: the words between the part's bounds are the transcript.
use mathlib.Core.Path.{◌≡◌, sym, ap, subst, ◌∙◌}
use mathlib.Core.Bool.{true≢false}
use Prim.Native.Nat.{◌-◌, ◌≤◌}
use native.Mathlib.Omega.{arith}
use lib.ListN.{length}
use Rattle.math.specs.lists.Part.{part}
use Rattle.spec_protocol.specs.Layout.{span, transcript_sections}
use Rattle.spec_protocol.specs.Many.{transcript_part}
use Rattle.verify_many_admission.proofs.Cut.{in_order, between}
use Rattle.relation_env_params.specs.Parameters.{parameters_of}
use Rattle.verifier_common.specs.Work.{Received}
use Rattle.verifier_common.proofs.Sent.{z-within}
use Rattle.verify_many_rows.specs.NttForm.{z_for}
use Rattle.verify_many_rows.proofs.ARowLaws.{z-stored}
use Rattle.verify_many_rows.proofs.a_rows.one_to_ntt_form.Goals.{After-transcript_bounds-b, Then-pass}
use Rattle.verify_many_rows.proofs.a_rows.one_to_ntt_form.Goals as goal

-- the transcript is received
received : (c : Then-pass)
    → let s = c.args in
    Received (transcript_part (parameters_of s.params) s.count s.transcripts.now s.m) s.params
received c = c.requires.received c.if-pass.true

-- the part's bounds
order : (c : After-transcript_bounds-b)
    → (c.transcript_bounds-b.result.from ≤ c.transcript_bounds-b.result.to)
    × (c.transcript_bounds-b.result.to ≤ length c.args.transcripts.now)
order c =
    let s = c.args in
    in_order s.transcripts.now (span (transcript_sections (parameters_of s.params))) s.count s.m c.transcript_bounds-b.result c.transcript_bounds-b.ensures

-- what lies between them
lent : (c : After-transcript_bounds-b)
    → let s = c.args in
    part s.transcripts.now c.transcript_bounds-b.result.from (c.transcript_bounds-b.result.to - c.transcript_bounds-b.result.from)
    ≡ transcript_part (parameters_of s.params) s.count s.transcripts.now s.m
lent c =
    let s = c.args in
    between s.transcripts.now (span (transcript_sections (parameters_of s.params))) s.count s.m c.transcript_bounds-b.result c.transcript_bounds-b.ensures

pub transcript_bounds-b-requires : goal.transcript_bounds-b-requires
transcript_bounds-b-requires c =
    (c.requires.in_range.0, c.requires.in_range.1, (received (goal.at.transcript_bounds-b-requires c).Then-pass).sized)

pub to_ntt_form-requires : goal.to_ntt_form-requires
to_ntt_form-requires c =
    let b = (goal.at.to_ntt_form-requires c).After-transcript_bounds-b in (
      z-within _ _ (subst (λ X. Received X c.args.params) (sym (lent b)) (received (goal.at.to_ntt_form-requires c).Then-pass)) _
          c.of_transcript-z_at.ensures,
      c.requires.in_range.2,
    )

pub returns-then-pass : goal.returns-then-pass
returns-then-pass c =
    let b = (goal.at.returns-then-pass c).After-transcript_bounds-b in
    let s = c.args in
    let e = c.to_ntt_form.ensures in
    let r = z-stored (parameters_of s.params) _ _ s.scratch.now _ _ s.start (lent b) c.of_transcript-z_at.ensures e.out_after e.ntt_form in
    record { scratch_after = r.0 ∙ ap (λ t. z_for (parameters_of s.params) s.transcripts.now s.count s.m s.start t s.scratch.now) (sym c.if-pass.true); ntt_form_z = λ t. r.1 }

pub returns-else-pass : goal.returns-else-pass
returns-else-pass c =
    let s = c.args in
    record {
      scratch_after = ap (λ t. z_for (parameters_of s.params) s.transcripts.now s.count s.m s.start t s.scratch.now) (sym c.if-pass.false);
      ntt_form_z = λ t. absurd (true≢false (sym t ∙ c.if-pass.false));
    }

pub of_transcript-z_at-requires : goal.of_transcript-z_at-requires
of_transcript-z_at-requires c = ((received (goal.at.of_transcript-z_at-requires c).Then-pass).sized, omega arith)

pub offset_bounds-transcripts-from : goal.offset_bounds-transcripts-from
offset_bounds-transcripts-from c = omega (arith, order (goal.at.offset_bounds-transcripts-from c).After-transcript_bounds-b)

pub slice_bounds-to_ntt_form-count : goal.slice_bounds-to_ntt_form-count
slice_bounds-to_ntt_form-count c = (order (goal.at.slice_bounds-to_ntt_form-count c).After-transcript_bounds-b).0

pub slice_bounds-to_ntt_form-start : goal.slice_bounds-to_ntt_form-start
slice_bounds-to_ntt_form-start c = (order (goal.at.slice_bounds-to_ntt_form-start c).After-transcript_bounds-b).0

pub slice_bounds-to_ntt_form-end : goal.slice_bounds-to_ntt_form-end
slice_bounds-to_ntt_form-end c = (order (goal.at.slice_bounds-to_ntt_form-end c).After-transcript_bounds-b).1
