-- What the checks 24 to 27 find in regions of the scratch.
use Rattle.std.specs.Prelude.{List, ℕ}
use Rattle.layout_regions.specs.declared.Regions.{Regions}
use Rattle.core_workspace.specs.Holds.{Holds}
use Rattle.core_workspace.specs.Aggregated.{a''_words, φ''_words, c_words}

-- the challenges c_i
abbrev pub Challenged : (J R : List ℕ) → Regions → List ℕ → Type 0
Challenged J R regions S = Holds S regions.challenges (c_words J R)

-- the challenges and a''
abbrev pub Prepared : (J R : List ℕ) → Regions → List ℕ → Type 0
Prepared J R regions S = Challenged J R regions S × Holds S regions.a2 (a''_words J R)

-- with φ''
abbrev pub Aggregable : (J R : List ℕ) → Regions → List ℕ → Type 0
Aggregable J R regions S = Prepared J R regions S × Holds S regions.phi2 (φ''_words J R)
