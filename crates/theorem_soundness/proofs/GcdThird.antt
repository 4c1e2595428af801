-- The greatest common divisor of Q and of errors that are multiples of Q/3.
use mathlib.Core.Path.{◌≡◌, refl}
use Prim.Native.Nat.{ℕ, ◌*◌, ◌/◌, ◌≤◌, ◌<◌, ◌∣◌}
use native.Mathlib.Nat.{le_of_dvd, pos_of_dvd_of_pos, dvd_of_mod-eq-zero}
use native.Mathlib.Omega.{arith}
use Rattle.spec_leaves.specs.Zq.{Q}
use Rattle.theorem_soundness.specs.Rows.{Gcd, AllZero}
use Rattle.theorem_soundness.proofs.Modulus.{Q_positive, Q_odd}
use Rattle.theorem_soundness.proofs.Gcd.{gcd_exists}
use Rattle.theorem_soundness.proofs.Rows.{at_most-a-third}

-- errors that are multiples of Q/3 and not all 0 have that d
pub thirds : (l : ℕ) (e : ℕ → ℕ) → ((x : ℕ) → x < l → Q / 3 ∣ e x) → (AllZero Q l e → ⊥) → Gcd Q l e (Q / 3)
thirds l e h some =
    let (d, g) = gcd_exists Q l e Q_positive in
    let least : Q / 3 ≤ d = le_of_dvd (pos_of_dvd_of_pos g.divides_q Q_positive) (g.greatest (Q / 3) (dvd_of_mod-eq-zero (Q / 3) refl) h) in
    let most : 3 * d ≤ Q = at_most-a-third Q l e d Q_positive g some Q_odd in
    let third : d ≡ Q / 3 = omega arith in
    rw third at g
