-- `digits_of_one` meets its contract: the words between the part's bounds are the transcript.
use mathlib.Core.Path.{◌≡◌, sym, ap, subst, ◌∙◌}
use Prim.Native.Nat.{◌-◌, ◌≤◌}
use native.Mathlib.Omega.{arith}
use lib.ListN.{length}
use Rattle.math.specs.lists.Part.{part, splice}
use Rattle.spec_protocol.specs.Layout.{span, transcript_sections}
use Rattle.spec_protocol.specs.Many.{transcript_part}
use Rattle.verify_many_admission.proofs.Cut.{in_order, between}
use Rattle.relation_env_params.specs.Parameters.{parameters_of}
use Rattle.verifier_common.specs.Work.{Received}
use Rattle.verify_many_windows.specs.Digits.{window_digits, digits_for}
use Rattle.verify_many_windows.proofs.windows.digits_of_one.Goals.{After-transcript_bounds-from, Then-pass}
use Rattle.verify_many_windows.proofs.windows.digits_of_one.Goals as goal

-- the transcript is received
received : (c : Then-pass)
    → let s = c.args in
    Received (transcript_part (parameters_of s.params) s.count s.transcripts.now s.m) s.params
received c = c.requires.received c.if-pass.true

-- the part's bounds
order : (c : After-transcript_bounds-from)
    → (c.transcript_bounds-from.result.from ≤ c.transcript_bounds-from.result.to)
    × (c.transcript_bounds-from.result.to ≤ length c.args.transcripts.now)
order c =
    let s = c.args in
    in_order s.transcripts.now (span (transcript_sections (parameters_of s.params))) s.count s.m c.transcript_bounds-from.result c.transcript_bounds-from.ensures

-- what lies between them
lent : (c : After-transcript_bounds-from)
    → let s = c.args in
    part s.transcripts.now c.transcript_bounds-from.result.from (c.transcript_bounds-from.result.to - c.transcript_bounds-from.result.from)
    ≡ transcript_part (parameters_of s.params) s.count s.transcripts.now s.m
lent c =
    let s = c.args in
    between s.transcripts.now (span (transcript_sections (parameters_of s.params))) s.count s.m c.transcript_bounds-from.result c.transcript_bounds-from.ensures

pub transcript_bounds-from-requires : goal.transcript_bounds-from-requires
transcript_bounds-from-requires c =
    (c.requires.m_lt_count.0, c.requires.m_lt_count.1, (received (goal.at.transcript_bounds-from-requires c).Then-pass).sized)

pub store_window-requires : goal.store_window-requires
store_window-requires c =
    let b = (goal.at.store_window-requires c).After-transcript_bounds-from in
    (subst (λ X. Received X c.args.params) (sym (lent b)) (received (goal.at.store_window-requires c).Then-pass), c.requires.m_lt_count.2)

pub returns-then-pass : goal.returns-then-pass
returns-then-pass c =
    let b = (goal.at.returns-then-pass c).After-transcript_bounds-from in
    let s = c.args in
    c.store_window.ensures
    ∙ ap (λ X. splice s.scratch.now s.start (window_digits (parameters_of s.params) X)) (lent b)
    ∙ ap (λ t. digits_for (parameters_of s.params) s.transcripts.now s.count s.m s.start t s.scratch.now) (sym c.if-pass.true)

pub returns-else-pass : goal.returns-else-pass
returns-else-pass c =
    let s = c.args in
    ap (λ t. digits_for (parameters_of s.params) s.transcripts.now s.count s.m s.start t s.scratch.now) (sym c.if-pass.false)

pub offset_bounds-transcripts-from : goal.offset_bounds-transcripts-from
offset_bounds-transcripts-from c = omega (arith, order (goal.at.offset_bounds-transcripts-from c).After-transcript_bounds-from)

pub slice_bounds-store_window-count : goal.slice_bounds-store_window-count
slice_bounds-store_window-count c = (order (goal.at.slice_bounds-store_window-count c).After-transcript_bounds-from).0

pub slice_bounds-store_window-start : goal.slice_bounds-store_window-start
slice_bounds-store_window-start c = (order (goal.at.slice_bounds-store_window-start c).After-transcript_bounds-from).0

pub slice_bounds-store_window-end : goal.slice_bounds-store_window-end
slice_bounds-store_window-end c = (order (goal.at.slice_bounds-store_window-end c).After-transcript_bounds-from).1
