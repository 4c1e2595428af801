-- Congruences factor·x = value modulo Q in one unknown.
use Rattle.std.specs.Prelude.{◌≡◌, ◌↔◌, ℕ, ◌*◌, ◌%◌, ◌≤◌, Option, Some, None}
use Rattle.std.specs.Int.{◌∣◌}
use Rattle.spec_leaves.specs.Zq.{Q, Canonical, size}
use Rattle.mistyped_solve.specs.declared.congruence.Congruence.{Congruence}

-- factor·x is the value modulo Q
abbrev pub Solves : Congruence → ℕ → Type 0
Solves c x = (c.factor * x) % Q ≡ c.value

-- a congruence whose factor divides Q, so that it fixes x modulo Q / factor
pub record Reduced (c : Congruence) : Type 0 where
  pub divides : c.factor ∣ Q
  pub canonical : Canonical c.value

-- two congruences as one: with the same solutions, or without any
abbrev pub Combines : (a b : Congruence) → Option Congruence → Type 0
Combines a b (Some c) = Reduced c × ((x : ℕ) → (Solves a x × Solves b x) ↔ Solves c x)
Combines a b None = (x : ℕ) → Solves a x → Solves b x → ⊥

-- the word of smallest centred size of which a fact holds, or that it holds of none
abbrev pub Found : (holds : ℕ → Type 0) → Option ℕ → Type 0
Found holds (Some x) = Canonical x × (holds x × ((y : ℕ) → Canonical y → holds y → size x ≤ size y))
Found holds None = (y : ℕ) → holds y → ⊥
