-- A slot: a root ζ of X^64 + 1 modulo a divisor p of Q, and the element e of it, whose product with α depends on α(ζ) modulo p alone.
use Rattle.std.specs.Prelude.{◌≡◌, [], ◌∷◌, ℕ, ◌+◌, ◌*◌, ◌/◌, ◌%◌, ◌^◌, ◌<◌}
use Rattle.math.specs.lists.Table.{table}
use Rattle.math.specs.lists.Sum.{Σ}
use Rattle.spec_leaves.specs.Zq.{Q}
use Rattle.spec_leaves.specs.Rq.{Element, coeff}
use Rattle.spec_leaves.specs.Ring.{RqOps, words, element, scale}
use Rattle.spec_protocol.specs.Views.{Public}
use Rattle.spec_protocol.specs.Conditions.{constant_error}
use Rattle.theorem_soundness.specs.Rows.{weighed}

-- p divides Q, ζ^64 ≡ −1 modulo p, and ζ⁻¹ is the inverse of ζ
pub record Slot : Type 0 where
  pub p : ℕ
  pub ζ : ℕ
  pub ζ⁻¹ : ℕ
  pub divides : Q ≡ p * (Q / p)
  pub root : (ζ ^ 64 + 1) % p ≡ 0
  pub inverse : ζ * ζ⁻¹ % p ≡ 1

-- X
abbrev pub X¹ : Element
X¹ = element (0 ∷ 1 ∷ [])

module _ (S : Slot) where
  open S use {p, ζ, ζ⁻¹}

  -- Q/p
  abbrev pub Q/p : ℕ
  Q/p = Q / p

  -- e_i = (Q/p)·ζ^(−i)
  unfoldable pub e_at : ℕ → ℕ
  e_at i = Q/p * ζ⁻¹ ^ i

  unfoldable pub e : Element
  e = element (table 64 e_at)

  -- α(ζ) = Σ α_i·ζ^i
  unfoldable pub at_ζ : Element → ℕ
  at_ζ α = Σ 64 (λ i. coeff (words α) i * ζ ^ i)

  module _ (X : Public) (m : ℕ → ℕ) where
    -- the error of each constant-term constraint x is m_x·Q/p
    abbrev pub Multiples : (ℕ → ℕ → Element) → Type 0
    Multiples s = (x : ℕ) → x < X.P.l → constant_error X s x ≡ Q/p * m x

    -- v_k = Σ psi[k][x]·m_x
    unfoldable pub v : ℕ → ℕ
    v k = Σ X.P.l (λ x. X.psi k x * m x)

    -- ε_k = −v_k·e
    unfoldable pub ε : ℕ → Element
    ε k = RqOps.neg (scale e (v k))

    -- Σ v_k·β_k(ζ) modulo p
    unfoldable pub weighed_at_ζ : (ℕ → Element) → ℕ
    weighed_at_ζ β = weighed p X.P.L v (λ k. at_ζ (β k))
