-- The rows that weigh errors to 0 over a prime modulus.
use mathlib.Core.Path.{ap, ◌∙◌}
use Prim.Native.Nat.{ℕ, ◌/◌, ◌<◌}
use native.Mathlib.Nat.{div-one}
use Rattle.theorem_soundness.specs.Rows.{AllZero, Prime, OneRowIn}
use Rattle.theorem_soundness.proofs.Gcd.{gcd_exists}
use Rattle.theorem_soundness.proofs.Rows.{one-row_in, gcd_is_one}

-- over a prime q exactly one row in q weighs errors that are not all 0 to 0
pub one-row_in_q : (q l : ℕ) (e : ℕ → ℕ) → 0 < q → Prime q → (AllZero q l e → ⊥) → OneRowIn q q l e
one-row_in_q q l e pos prime some =
    let (d, g) = gcd_exists q l e pos in
    rw (ap (λ x. q / x) (gcd_is_one q l e d pos g some prime) ∙ div-one q) at (one-row_in q l e d pos g)
