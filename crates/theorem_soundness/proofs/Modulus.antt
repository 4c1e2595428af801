-- All that is used of Q: it is positive and odd.
use mathlib.Core.Path.{◌≡◌, ap, ◌∙◌}
use Prim.Native.Nat.{ℕ, ◌+◌, ◌*◌, ◌/◌, ◌%◌, ◌<◌}
use native.Mathlib.Nat.{add-mod_left}
use native.Mathlib.Omega.{arith}
use Rattle.spec_leaves.specs.Zq.{Q, lack_Q}
use Rattle.spec_leaves.proofs.Suited.{suited, odd_modulus}

-- 0 < Q
pub Q_positive : 0 < Q
Q_positive = omega arith

-- Q is odd
pub Q_odd : Q % 2 ≡ 1
Q_odd = odd_modulus lack_Q suited

-- so (Q + 1) / 2 is the inverse of 2 modulo Q
pub half_Q_lem : (2 * ((Q + 1) / 2)) % Q ≡ 1 % Q
half_Q_lem = ap (λ x. x % Q) (twice Q Q_odd) ∙ add-mod_left Q 1
  where
    twice : (q : ℕ) → q % 2 ≡ 1 → 2 * ((q + 1) / 2) ≡ q + 1
    twice q odd = omega arith
