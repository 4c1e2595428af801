-- `row_lacking` meets its contract.
use mathlib.Core.Path.{◌∙◌}
use Prim.Native.Nat.{◌+◌, ◌*◌, ◌≤◌, ◌<◌}
use native.Mathlib.Omega.{arith}
use lib.ListN.{length}
use Rattle.verifier_common.proofs.Sent.{reckoned}
use Rattle.verifier_constant_terms.proofs.Terms.{Terms}
use Rattle.mistyped_entries.proofs.Row.{row-terms, lacking_is}
use Rattle.mistyped_entries.proofs.row_lacking.Goals.{After-of_transcript-at}
use Rattle.mistyped_entries.proofs.row_lacking.Goals as goal

-- the rows at the places found
found : (c : After-of_transcript-at)
    → let s = c.args in
    Terms s.job.now s.randomness.now s.transcript.now s.params.const_agg_length s.params.constraint_l
    c.of_job-b0.result c.of_randomness-psi.result c.of_randomness-omega.result
    c.of_transcript-projection.result c.of_transcript-at.result
found c =
    row-terms c.requires.0 _ _ _ _ _
    c.of_job-b0.ensures
    c.of_randomness-psi.ensures
    c.of_randomness-omega.ensures
    c.of_transcript-projection.ensures
    c.of_transcript-at.ensures

-- its words lie within the slices
at_room : (c : After-of_transcript-at)
    → let s = c.args in
    c.of_transcript-at.result + 64 * s.k < length s.transcript.now
at_room c = (found c).at_room c.args.k c.requires.1

psi-room : (c : After-of_transcript-at)
    → let s = c.args in
    c.of_randomness-psi.result + s.k * s.params.constraint_l + s.params.constraint_l ≤ length s.randomness.now
psi-room c = (found c).psi-room c.args.k c.requires.1

om_room : (c : After-of_transcript-at)
    → let s = c.args in
    c.of_randomness-omega.result + s.k * 256 + 256 ≤ length s.randomness.now
om_room c = (found c).om_room c.args.k c.requires.1

pub constant_term-computed-requires : goal.constant_term-computed-requires
constant_term-computed-requires c = let m = found (goal.at.constant_term-computed-requires c).After-of_transcript-at in record {
  l_in_bounds = (
    m.b0_room,
    psi-room (goal.at.constant_term-computed-requires c).After-of_transcript-at,
    om_room (goal.at.constant_term-computed-requires c).After-of_transcript-at,
  );
  projection_in_bounds = (m.projection-room, m.short);
}

pub returns : goal.returns
returns c =
    c.sub.ensures ∙ lacking_is (found (goal.at.returns c).After-of_transcript-at) c.args.k c.constant_term-computed.result c.requires.1 c.constant_term-computed.ensures

pub of_job-b0-requires : goal.of_job-b0-requires
of_job-b0-requires c = (reckoned c.requires.0.posed, omega arith)

pub of_randomness-psi-requires : goal.of_randomness-psi-requires
of_randomness-psi-requires c = (reckoned c.requires.0.posed, omega arith)

pub of_randomness-omega-requires : goal.of_randomness-omega-requires
of_randomness-omega-requires c = (reckoned c.requires.0.posed, omega arith)

pub of_transcript-projection-requires : goal.of_transcript-projection-requires
of_transcript-projection-requires c = (reckoned c.requires.0.posed, omega arith)

pub of_transcript-at-requires : goal.of_transcript-at-requires
of_transcript-at-requires c = (reckoned c.requires.0.posed, omega arith)

pub overflow_mul-sent : goal.overflow_mul-sent
overflow_mul-sent c = omega (arith, at_room (goal.at.overflow_mul-sent c).After-of_transcript-at)

pub overflow_add-sent : goal.overflow_add-sent
overflow_add-sent c = omega (arith, at_room (goal.at.overflow_add-sent c).After-of_transcript-at)

pub offset_bounds-transcript-at : goal.offset_bounds-transcript-at
offset_bounds-transcript-at c = omega (arith, at_room (goal.at.offset_bounds-transcript-at c).After-of_transcript-at)

pub bounds-transcript-at : goal.bounds-transcript-at
bounds-transcript-at c = at_room (goal.at.bounds-transcript-at c).After-of_transcript-at

pub overflow_mul-k : goal.overflow_mul-k
overflow_mul-k c = omega (arith, psi-room (goal.at.overflow_mul-k c).After-of_transcript-at)

pub overflow_add-psi : goal.overflow_add-psi
overflow_add-psi c = omega (arith, psi-room (goal.at.overflow_add-psi c).After-of_transcript-at)

pub overflow_mul-k-2 : goal.overflow_mul-k-2
overflow_mul-k-2 c = omega (arith, om_room (goal.at.overflow_mul-k-2 c).After-of_transcript-at)

pub overflow_add-omega : goal.overflow_add-omega
overflow_add-omega c = omega (arith, om_room (goal.at.overflow_add-omega c).After-of_transcript-at)
