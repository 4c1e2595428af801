-- Exactly one number below a modulus solves a linear equation whose factor is a unit.
use mathlib.Core.Path.{◌≡◌, sym, ap, ◌∙◌}
use mathlib.Core.Logic.{◌↔◌}
use Prim.Native.Nat.{ℕ, ◌+◌, ◌-◌, ◌*◌, ◌%◌, ◌<◌}
use native.Mathlib.Nat as Nat
use native.Mathlib.Omega.{arith}
use Rattle.spec_leaves.proofs.Modulo.{mul_mod_first, mul_mod_second, add-neg-mod, add_cancel-mod}
use Rattle.theorem_soundness.specs.Share.{ExactlyOne}

-- of two properties that hold together
pub exactly_one_iff : {n : ℕ} {A B : ℕ → Type 0} → ((j : ℕ) → A j ↔ B j) → ExactlyOne n A → ExactlyOne n B
exactly_one_iff iff found = record {
  the_one = found.the_one;
  below = found.below;
  it_holds = (iff found.the_one).0 found.it_holds;
  no_other = λ j h b. found.no_other j h ((iff j).1 b);
}

module _ (p : ℕ) (positive : 0 < p) (w u : ℕ) (unit : u * w % p ≡ 1) where
  -- u undoes the product with w
  undone : (x : ℕ) → u * (w * x) % p ≡ x % p
  undone x =
      ap (λ n. n % p) (sym (Nat.mul_assoc u w x))
      ∙ sym (mul_mod_first p (u * w) x)
      ∙ ap (λ n. n * x % p) unit
      ∙ ap (λ n. n % p) (Nat.one-mul x)

  -- exactly one j below p has c + w·j ≡ 0 modulo p
  pub one_solution : (c : ℕ) → ExactlyOne p (λ j. (c + w * j) % p ≡ 0)
  one_solution c = record { the_one = j₀; below = Nat.mod-lt (u * (p - c % p)) positive; it_holds = solves; no_other = alone }
    where
      j₀ : ℕ
      j₀ = u * (p - c % p) % p

      order : (x : ℕ) → w * (u * x) ≡ u * (w * x)
      order x = omega arith

      solves : (c + w * j₀) % p ≡ 0
      solves =
          sym (Nat.add-mod-mod c (w * j₀) p)
          ∙ ap (λ n. (c + n) % p) (mul_mod_second p w (u * (p - c % p)) ∙ ap (λ n. n % p) (order (p - c % p)) ∙ undone (p - c % p))
          ∙ Nat.add-mod-mod c (p - c % p) p
          ∙ add-neg-mod p positive c

      alone : (j : ℕ) → j < p → (c + w * j) % p ≡ 0 → j ≡ j₀
      alone j h zero =
          let same : (w * j + c) % p ≡ (w * j₀ + c) % p = ap (λ n. n % p) (Nat.add_comm (w * j) c) ∙ zero ∙ sym solves ∙ ap (λ n. n % p) (Nat.add_comm c (w * j₀)) in
          sym (Nat.mod-eq_of_lt h)
          ∙ sym (undone j)
          ∙ sym (mul_mod_second p u (w * j))
          ∙ ap (λ n. u * n % p) (add_cancel-mod p positive (w * j) c (w * j₀) same)
          ∙ mul_mod_second p u (w * j₀)
          ∙ undone j₀
          ∙ Nat.mod-mod (u * (p - c % p)) p
