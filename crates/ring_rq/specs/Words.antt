-- Words of an element that need not be reduced.
use Rattle.std.specs.Prelude.{List, ℕ, ◌≤◌, ◌<◌, get_or}
use Rattle.spec_leaves.specs.Zq.{Q}

-- each of 64 words is at most Q
abbrev pub AtMostQ : List ℕ → Type 0
AtMostQ a = (k : ℕ) → k < 64 → get_or a k 0 ≤ Q
