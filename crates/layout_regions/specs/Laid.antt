-- Where the regions of the scratch stand.
use Rattle.std.specs.Prelude.{◌≡◌, ℕ, ◌+◌, ◌*◌}
use Rattle.spec_protocol.specs.Parameters.{triangular}
use Rattle.layout_regions.specs.declared.Regions.{Regions}

-- each region starts where the one before it ends
pub record Laid (n r κ L : ℕ) (s : Regions) : Type 0 where
  pub first : s.phi2 ≡ 0
  pub a2 : s.a2 ≡ s.phi2 + 64 * (L * (r * n))
  pub phi : s.phi ≡ s.a2 + 64 * (L * triangular r)
  pub a_or_h : s.a_or_h ≡ s.phi + 64 * (r * n)
  pub g : s.g ≡ s.a_or_h + 64 * triangular r
  pub challenges : s.challenges ≡ s.g + 64 * triangular r
  pub t : s.t ≡ s.challenges + 64 * r
  pub u : s.u ≡ s.t + 64 * (r * κ)
  pub b2 : s.b2 ≡ s.u + 64 * 16
