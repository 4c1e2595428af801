-- What check 27 finds in its region of the scratch.
use Rattle.std.specs.Prelude.{List, ℕ}
use Rattle.layout_regions.specs.declared.Regions.{Regions}
use Rattle.core_workspace.specs.Holds.{Holds}
use Rattle.core_workspace.specs.Aggregated.{a_words}

-- the triangle a_ij
abbrev pub Multiplied : (J R : List ℕ) → Regions → List ℕ → Type 0
Multiplied J R regions S = Holds S regions.a_or_h (a_words J R)
