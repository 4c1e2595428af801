-- `check_transcript` meets its contract.
use mathlib.Core.Path.{ap, ◌∙◌}
use Prim.Native.Nat.{◌≤◌}
use native.Mathlib.Omega.{arith}
use lib.ListN.{length}
use Rattle.spec_protocol.specs.Layout.{span, transcript_sections, transcript_refusal}
use Rattle.relation_env_params.specs.Parameters.{parameters_of}
use Rattle.verify_many_admission.proofs.Cut.{in_order, between}
use Rattle.verify_many_admission.proofs.bounds.check_transcript.Goals.{After-transcript_bounds-from}
use Rattle.verify_many_admission.proofs.bounds.check_transcript.Goals as goal

-- the part's bounds
order : (c : After-transcript_bounds-from) → (c.transcript_bounds-from.result.from ≤ c.transcript_bounds-from.result.to) × (c.transcript_bounds-from.result.to ≤ length c.args.words.now)
order c =
    let s = c.args in
    in_order s.words.now (span (transcript_sections (parameters_of s.params))) s.count s.m c.transcript_bounds-from.result c.transcript_bounds-from.ensures

pub offset_bounds-words-from : goal.offset_bounds-words-from
offset_bounds-words-from c = omega (arith, order (goal.at.offset_bounds-words-from c).After-transcript_bounds-from)

pub slice_bounds-check-count : goal.slice_bounds-check-count
slice_bounds-check-count c = (order (goal.at.slice_bounds-check-count c).After-transcript_bounds-from).0

pub slice_bounds-check-start : goal.slice_bounds-check-start
slice_bounds-check-start c = (order (goal.at.slice_bounds-check-start c).After-transcript_bounds-from).0

pub slice_bounds-check-end : goal.slice_bounds-check-end
slice_bounds-check-end c = (order (goal.at.slice_bounds-check-end c).After-transcript_bounds-from).1

pub returns : goal.returns
returns c =
    let s = c.args in
    let P = parameters_of s.params in
    c.check.ensures ∙ ap (transcript_refusal P) (between s.words.now (span (transcript_sections P)) s.count s.m c.transcript_bounds-from.result c.transcript_bounds-from.ensures)
