-- Primes by trial division, as a computed test.
use mathlib.Core.Path.{◌≡◌, sym, ap, subst, ◌∙◌}
use mathlib.Core.Bool.{Bool}
use Prim.Native.Nat.{ℕ, zero, suc, ◌+◌, ◌-◌, ◌*◌, ◌/◌, ◌%◌, ◌≤◌, ◌<◌}
use native.Mathlib.Nat as Nat
use native.Mathlib.Decide.{dec_lt, ℕ_discrete}
use native.Mathlib.Omega.{arith}
use lib.Dec.{T, ltb, ltb→lt}
use Rattle.math.proofs.transform.Computed.{below, below_at}

-- no number from 2 to p − 1 divides p
abbrev pub Prime : ℕ → Type 0
Prime p = (d : ℕ) → 2 ≤ d → d < p → 0 < p % d

-- whether d does not divide p
abbrev leaves : ℕ → ℕ → Bool
leaves p d = ltb 0 (p % d)

-- whether no number from 2 to 256·rows + 1 divides p
abbrev pub tried : (p rows : ℕ) → Bool
tried p rows = below rows (λ m. below 256 (λ n. leaves p (256 * m + n + 2)))

module _ (p rows : ℕ) (passed : T (tried p rows)) (enough : p < (256 * rows + 2) * (256 * rows + 2)) where
  -- the same of one such number
  small_leaves : (d : ℕ) → 2 ≤ d → d < 256 * rows + 2 → 0 < p % d
  small_leaves d l h = subst (λ x. 0 < p % x) here (ltb→lt 0 (p % (256 * i + j + 2)) (below_at 256 (λ n. leaves p (256 * i + n + 2)) row j (omega arith)))
    where
      i : ℕ
      i = (d - 2) / 256

      j : ℕ
      j = (d - 2) % 256

      row : T (below 256 (λ n. leaves p (256 * i + n + 2)))
      row = below_at rows (λ m. below 256 (λ n. leaves p (256 * m + n + 2))) passed i (omega arith)

      here : 256 * i + j + 2 ≡ d
      here = omega arith

  -- where d divides p, p / d does, and one of the two has been tried
  pub prime-by_trial : Prime p
  prime-by_trial d l h = go (dec_lt d (256 * rows + 2)) (ℕ_discrete (p % d) 0)
    where
      few : (k : ℕ) → k * d ≡ p → 256 * rows + 2 ≤ d → Dec (k < 256 * rows + 2) → k < 256 * rows + 2
      few k e m (yes n) = n
      few k e m (no n) =
          let n : 256 * rows + 2 ≤ k = omega arith in
          absurd (omega (arith, Nat.mul-le-mul n m))

      other : (k : ℕ) → k * d ≡ p → 256 * rows + 2 ≤ d → ⊥
      other zero e m = omega arith
      other (suc zero) e m = omega arith
      other (suc (suc k)) e m =
          let divides : p % suc (suc k) ≡ 0 = ap (λ x. x % suc (suc k)) (sym e) ∙ Nat.mul-mod_right (suc (suc k)) d in
          omega (arith, small_leaves (suc (suc k)) (omega arith) (few (suc (suc k)) e m (dec_lt (suc (suc k)) (256 * rows + 2))))

      go : Dec (d < 256 * rows + 2) → Dec (p % d ≡ 0) → 0 < p % d
      go (yes m) z = small_leaves d l m
      go (no m) (no z) = omega arith
      go (no m) (yes z) = absurd (other (p / d) (omega (arith, Nat.mod-add-div' p d)) (omega arith))
