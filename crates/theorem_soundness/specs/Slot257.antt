-- The slots that Q = 3·5·17·257·65537 gives: 257 and 65537 are 1 modulo 128, so X^64 + 1 has roots modulo both.
use Rattle.std.specs.Prelude.{◌≡◌, refl, ◌*◌}
use Rattle.spec_leaves.specs.Zq.{Q}
use Rattle.theorem_soundness.specs.Slot.{Slot}

-- 257 divides Q
pub divided_by_257 : Q ≡ 257 * 16711935
divided_by_257 = refl

-- 65537 divides Q
pub divided_by_65537 : Q ≡ 65537 * 65535
divided_by_65537 = refl

-- ζ = 9 modulo 257
abbrev pub slot_257 : Slot
slot_257 = record { p = 257; ζ = 9; ζ⁻¹ = 200; divides = refl; root = refl; inverse = refl }

-- ζ = 13987 modulo 65537
abbrev pub slot_65537 : Slot
slot_65537 = record { p = 65537; ζ = 13987; ζ⁻¹ = 39504; divides = refl; root = refl; inverse = refl }
