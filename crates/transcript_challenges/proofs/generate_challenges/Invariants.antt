-- `generate_challenges` meets its contract. The invariant: the first i challenges are stored, and the places stand at the next words and element.
use mathlib.Core.Path.{◌≡◌}
use mathlib.Core.List.{List}
use Prim.Native.Nat.{ℕ, ◌+◌, ◌-◌, ◌*◌, ◌≤◌}
use lib.ListN.{length}
use Rattle.math.specs.lists.Table.{table}
use Rattle.math.specs.lists.Part.{part, splice}
use Rattle.spec_leaves.specs.Rq.{Element}
use Rattle.spec_leaves.specs.Ring.{element}
use Rattle.spec_leaves.specs.Challenge.{challenge}
use Rattle.spec_protocol.specs.Formulas.{flat}
use Rattle.transcript_challenges.proofs.generate_challenges.Given as goal

-- challenge i
abbrev pub challenge_of : List ℕ → ℕ → ℕ → ℕ → Element
challenge_of words signs-at shuffle-at i = element (challenge (part words (signs-at + 41 * i) 41) (part words (shuffle-at + 63 * i) 63))

abbrev pub invariant-loop-i : goal.invariant-loop-i
invariant-loop-i l =
    (l.i ≤ l.r) × (l.signs ≡ l.signs_at + 41 * l.i) × (l.shuffle ≡ l.shuffle_at + 63 * l.i) × (l.place ≡ l.out_at + 64 * l.i) ×
    (l.out ≡ splice l.initial.out l.out_at (flat (table l.i (challenge_of l.words l.signs_at l.shuffle_at))))
    × (length l.out ≡ length l.initial.out)
