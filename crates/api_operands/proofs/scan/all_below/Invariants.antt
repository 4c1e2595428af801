-- As long as no word was bad, those looked at are below the limit.
use Rattle.std.proofs.Common.{◌≡◌, ℕ, ◌<◌, true, get_or}
use Rattle.api_operands.proofs.scan.all_below.Given as goal

abbrev pub invariant-loop-word : goal.invariant-loop-word
invariant-loop-word l = l.fit ≡ true → (k d : ℕ) → k < l.word-index → get_or l.words k d < l.limit
