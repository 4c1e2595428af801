-- `within` meets its contract. The invariant: as long as no word was above, those passed are at most the greatest.
use Prim.Native.Nat.{ℕ, ◌+◌, ◌≤◌, ◌<◌}
use mathlib.Core.Path.{◌≡◌}
use mathlib.Core.Bool.{true}
use lib.ListN.{get_or}
use Rattle.layout_sections.proofs.ranges.within.Given as goal

abbrev pub invariant-loop-word : goal.invariant-loop-word
invariant-loop-word l = l.fit ≡ true → (j : ℕ) → j < l.word-index → get_or l.words (l.at + j) 0 ≤ l.greatest
