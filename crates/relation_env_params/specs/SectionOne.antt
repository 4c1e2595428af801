-- What a section one that is refused nothing says.
use Rattle.std.specs.Prelude.{List, ℕ, ◌≤◌, length}
use Rattle.spec_leaves.specs.Zq.{top_Q}
use Rattle.spec_protocol.specs.Parameters.{Parameters, parameters, rounded_up}

-- parameters within their limits
pub record Within (P : Parameters) : Type 0 where
  pub n : (1 ≤ P.n) × (P.n ≤ 64)
  pub r : (1 ≤ P.r) × (P.r ≤ 16)
  pub κ : (1 ≤ P.κ) × (P.κ ≤ 16)
  pub κ₁ : (1 ≤ P.κ₁) × (P.κ₁ ≤ 16)
  pub κ₂ : (1 ≤ P.κ₂) × (P.κ₂ ≤ 16)
  pub K : (0 ≤ P.K) × (P.K ≤ 64)
  pub l : (0 ≤ P.l) × (P.l ≤ 64)
  pub log_q : (16 ≤ P.log_q) × (P.log_q ≤ 32)
  pub b : (2 ≤ P.b) × (P.b ≤ top_Q)
  pub t₁ : (1 ≤ P.t₁) × (P.t₁ ≤ 32)
  pub t₂ : (1 ≤ P.t₂) × (P.t₂ ≤ 32)
  pub L : (1 ≤ P.L) × (P.L ≤ 32)

-- a section one that is refused nothing
pub record Sound (J : List ℕ) : Type 0 where
  pub room : 31 ≤ length J
  pub within : Within (parameters J)
  pub aggregated : rounded_up (parameters J).log_q ≤ (parameters J).L
