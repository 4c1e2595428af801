-- The p that an accepted transcript sends is canonical.
use mathlib.Core.Path.{subst}
use mathlib.Core.List.{List}
use Prim.Native.Nat.{ℕ, ◌+◌, ◌<◌}
use native.Mathlib.Nat.{zero-add}
use native.Mathlib.Omega.{arith}
use lib.ListN.{get_or}
use Rattle.spec_leaves.specs.Zq.{Canonical}
use Rattle.spec_protocol.specs.Parameters.{parameters}
use Rattle.spec_protocol.specs.Layout.{start, layout, ranged, transcript_sections, transcript_refusal}
use Rattle.spec_protocol.proofs.Fine.{then_fine_left, then_fine_right}
use Rattle.spec_protocol.proofs.Acceptance.{accepted-transcript}
use Rattle.spec_protocol.proofs.Laid.{laid}
use Rattle.theorem_extraction.specs.Fork.{Branch, message_of}

pub sent-p : {J : List ℕ} (X : Branch J) (j : ℕ) → j < 256 → Canonical ((message_of X).p j)
unfolding transcript_refusal
sent-p {J} X j h =
    let ss = transcript_sections (parameters J) in
    let fine = accepted-transcript J X.accepted.randomness X.transcript X.accepted.scratch 0 X.accepted.verdict in
    let sizes = layout 9 X.transcript 0 ss in
    let range = ranged 10 X.transcript 0 ss in
    let words = laid 9 10 X.transcript 0 ss (omega arith) (then_fine_left sizes range fine) (then_fine_right sizes range fine) in
    subst (λ k. Canonical (get_or X.transcript (k + j) 0)) (zero-add (start ss 1)) (words.ranges 1 j (omega arith) h)
