-- What a slice holds at a place, and what of it is as it was (`Unchanged`).
use Rattle.std.specs.Prelude.{◌≡◌, List, ℕ, length}
use Rattle.math.specs.lists.Part.{part}
pub use Rattle.spec_protocol.specs.Unchanged.{Unchanged}

-- the words from a place on are these
abbrev pub Holds : List ℕ → ℕ → List ℕ → Type 0
Holds slice at words = part slice at (length words) ≡ words
