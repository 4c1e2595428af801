-- What the sizes are reckoned of, and what a table of sections is.
use Rattle.std.specs.Prelude.{◌≡◌, List, ◌<◌, ◌^◌}
use Rattle.spec_protocol.specs.Parameters.{Parameters}
use Rattle.spec_protocol.specs.Layout.{span}
use Rattle.spec_protocol.specs.Layout as L
use Rattle.layout_sections.specs.declared.sections.Section.{Section}
use Rattle.layout_sections.specs.Sections.{listed}
use Rattle.relation_env_params.specs.SectionOne.{Within}

-- parameters within their limits; L need not be the least that 5 allows
pub record Sized (P : Parameters) : Type 0 where
  pub within : Within P

-- a table lists the sections, which take few words
pub record IsTable (ss : List L.Section) (table : List Section) : Type 0 where
  pub lists : listed table ≡ ss
  pub spans : span ss < 2 ^ 32
