-- The parameters that sizes can be reckoned of.
use mathlib.Core.Path.{◌≡◌, sym, subst}
use mathlib.Core.List.{List}
use Prim.Native.Nat.{ℕ}
use Rattle.spec_protocol.specs.Parameters.{Parameters, parameters}
use Rattle.relation_env_params.specs.SectionOne.{Sound}
use Rattle.layout_sizes.specs.Sizes.{Sized}

-- parameters that are those of a sound section one
pub sized : (J : List ℕ) (Q : Parameters) → Sound J → Q ≡ parameters J → Sized Q
sized J Q s e = subst Sized (sym e) (record { within = s.within })
