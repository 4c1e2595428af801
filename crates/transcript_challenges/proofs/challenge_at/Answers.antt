-- `challenge_at` meets its contract.
use mathlib.Core.Path.{◌≡◌, ap, ap₂, ◌∙◌}
use Prim.Native.Nat.{ℕ, ◌+◌, ◌-◌}
use native.Mathlib.Omega.{arith}
use Rattle.math.specs.lists.Part.{part}
use Rattle.spec_leaves.specs.Challenge.{challenge}
use Rattle.transcript_challenges.proofs.challenge_at.Goals as goal

-- the length of a part from a place to n words on
size_of-part : (at n : ℕ) → at + n - at ≡ n
size_of-part at n = omega arith

pub returns : goal.returns
returns c =
    let s = c.args in
    c.sample_challenge.ensures ∙ ap₂ challenge (ap (part s.words.now s.signs) (size_of-part s.signs 41)) (ap (part s.words.now s.shuffle) (size_of-part s.shuffle 63))
