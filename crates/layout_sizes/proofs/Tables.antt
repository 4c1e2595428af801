-- A table by what it lists.
use mathlib.Core.Path.{◌≡◌, refl, ap, ap₂}
use mathlib.Core.List.{List, [], ◌∷◌}
use Prim.Native.Nat.{◌<◌, ◌^◌}
use native.Mathlib.Omega.{arith}
use Rattle.spec_protocol.specs.Layout.{span}
use Rattle.spec_protocol.specs.Layout as L
use Rattle.layout_sections.specs.declared.sections.Section.{Section}
use Rattle.layout_sections.specs.Sections.{section_of, listed}
use Rattle.layout_sizes.specs.Sizes.{IsTable}

-- a table's own words are few
pub table-spans : {ss : List L.Section} {table : List Section} → IsTable ss table → span (listed table) < 2 ^ 64
table-spans t = omega (arith, ap span t.lists, t.spans)

-- a table section by section
pub listed_none : listed [] ≡ []
unfolding listed
listed_none = refl

pub listed_more : (s : Section) (table : List Section) {t : L.Section} {ss : List L.Section} → section_of s ≡ t → listed table ≡ ss → listed (s ∷ table) ≡ t ∷ ss
unfolding listed
listed_more s table e es = ap₂ (λ s ss. s ∷ ss) e es
