-- The buffers of a load that is refused and of one that is made.
use mathlib.Core.Path.{◌≡◌, ap, ◌∙◌}
use mathlib.Core.List.{List, ◌++◌}
use Prim.Native.Nat.{ℕ, ◌≤◌}
use lib.ListN.{length, drop}
use Rattle.math.specs.lists.Part.{splice}
use Rattle.spec_leaves.specs.declared.answers.Refusal.{Refusal}
use Rattle.spec_leaves.specs.Answer.{Answer, fine, of_refusal}
use Rattle.spec_protocol.specs.Load.{loaded}
use Rattle.admission_slices.proofs.Fit.{refusal_none}
use Rattle.load.proofs.Replace.{splice_front}

pub untouched : (r : Refusal) (a : Answer) (made buffer : List ℕ) → of_refusal r ≡ a → buffer ≡ loaded a made buffer
untouched r a made buffer e = refusal_none r (made ++ drop (length made) buffer) buffer ∙ ap (λ a. loaded a made buffer) e

pub written : (a : Answer) (made buffer now : List ℕ) → fine ≡ a → length made ≤ length buffer → now ≡ splice buffer 0 made → now ≡ loaded a made buffer
written a made buffer now e room stored = stored ∙ splice_front buffer made room ∙ ap (λ a. loaded a made buffer) e
