-- What the end of the input writes.
use mathlib.Core.Path.{◌≡◌}
use mathlib.Core.Bool.{true, false}
use mathlib.Core.List.{List}
use Prim.Native.Nat.{ℕ}
use Rattle.zq_lines_text.specs.Reading.{is_fresh, answer_of, last}
use Rattle.zq_lines_text.specs.Written.{Written}
use Rattle.zq_lines_text.specs.declared.reading.State.{State}
use Rattle.zq_lines_text.proofs.Runs.{written_none}

-- a line of which no byte is read has no answer
pub ended_fresh : (l : List ℕ) (s : State) (at : ℕ) → is_fresh s ≡ true → Written l at (last s) l at
ended_fresh l s at h = rw h (written_none l at)

-- one that has begun is answered
pub ended_begun : (s : State) {l m : List ℕ} {at p : ℕ} → is_fresh s ≡ false → Written l at (answer_of s) m p → Written l at (last s) m p
ended_begun s h w = rw h w
