-- The regions fit the scratch that document 01 asks for.
use Prim.Native.Nat.{◌+◌, ◌*◌, ◌≤◌}
use native.Mathlib.Nat.{mul-le-mul_left}
use native.Mathlib.Omega.{arith}
use Rattle.spec_protocol.specs.Parameters.{Parameters}
use Rattle.spec_protocol.specs.Layout.{scratch_need}
use Rattle.layout_regions.specs.declared.Regions.{Regions}
use Rattle.layout_regions.specs.Laid.{Laid}

-- the last region ends within the need: the challenges take no more than the second of the two r·n, as vectors have at least one element, and u and b'' take 48 of the 64 elements
pub regions_fit : (P : Parameters) (s : Regions) → 1 ≤ P.n → Laid P.n P.r P.κ P.L s → s.b2 + 64 * 32 ≤ scratch_need P
regions_fit P s h laid = omega (arith, laid.first, laid.a2, laid.phi, laid.a_or_h, laid.g, laid.challenges, laid.t, laid.u, laid.b2, mul-le-mul_left P.r h)
