-- Which part of all rows weighs errors to 0, over any modulus q: with d = gcd(q, e_0, …, e_{l−1}) exactly d/q of them.
use mathlib.Core.Path.{◌≡◌, sym, ap, ap₂, ◌∙◌}
use mathlib.Core.Logic.{◌↔◌, ◌⊎◌, inl, inr}
use Prim.Native.Nat.{ℕ, ◌+◌, ◌-◌, ◌*◌, ◌/◌, ◌%◌, ◌≤◌, ◌<◌, ◌∣◌}
use native.Mathlib.Nat.{mod-lt, mod-eq_of_lt, add-mod-mod, add_comm, mul_comm, mul-zero, mul-one, mul-le-mul_right, lt_of_mul-lt-mul_left}
use native.Mathlib.Nat.{mul-div_cancel', pos_of_dvd_of_pos, dvd_iff_mod-eq-zero, dvd_of_mul-dvd-mul_left, mul-dvd-mul_left, mod-eq-zero_of_dvd}
use native.Mathlib.Decide.{dec_le, ℕ_discrete}
use native.Mathlib.Omega.{arith}
use Rattle.math.specs.lists.Sum.{Σ}
use Rattle.math.proofs.lists.Sum.{Σ-add, Σ-mul-left, Σ-mod_ext}
use Rattle.spec_leaves.proofs.Modulo.{mul_mod_first, mul_mod_second, add-neg-mod, add_cancel-mod}
use Rattle.theorem_soundness.specs.Rows.{weighed, Gcd, AllZero, Prime, AtMostAThird, moved, OneRowIn}
use Rattle.theorem_soundness.specs.Share.{ExactlyOne}
use Rattle.theorem_soundness.proofs.Gcd.{dvd_weighed, gcd_weighed}

-- of the numbers below n exactly one makes m a multiple of n
multiple : (m n : ℕ) → 0 < n → ExactlyOne n (λ j. (m + j) % n ≡ 0)
multiple m n pos = record {
  the_one = j₀;
  below = mod-lt (n - m % n) pos;
  it_holds = met;
  no_other = λ j h e.
      sym (mod-eq_of_lt h) ∙ add_cancel-mod n pos j m j₀ (ap (λ x. x % n) (add_comm j m) ∙ e ∙ sym met ∙ ap (λ x. x % n) (add_comm m j₀)) ∙ mod-eq_of_lt (mod-lt (n - m % n) pos);
}
  where
    j₀ : ℕ
    j₀ = (n - m % n) % n

    met : (m + j₀) % n ≡ 0
    met = add-mod-mod m (n - m % n) n ∙ add-neg-mod n pos m

-- facts that are the same hold of the same number
exactly_one_iff : (n : ℕ) (F G : ℕ → Type 0) → ((j : ℕ) → F j ↔ G j) → ExactlyOne n F → ExactlyOne n G
exactly_one_iff n F G h o = record {
  the_one = o.the_one;
  below = o.below;
  it_holds = (h o.the_one).0 o.it_holds;
  no_other = λ j l g. o.no_other j l ((h j).1 g);
}

-- a moved row weighs the errors to what the row weighs them to, and j times what ψ* does
moved-weighed : (q l j : ℕ) (ψ* ψ e : ℕ → ℕ) → weighed q l (moved q j ψ* ψ) e ≡ (Σ l (λ x. ψ x * e x) + j * Σ l (λ x. ψ* x * e x)) % q
unfolding moved
moved-weighed q l j ψ* ψ e =
    Σ-mod_ext l q (λ x. (ψ x + j * ψ* x) % q * e x) (λ x. ψ x * e x + j * (ψ* x * e x)) (λ x h. mul_mod_first q (ψ x + j * ψ* x) (e x) ∙ ap (λ y. y % q) (out (ψ x) j (ψ* x) (e x)))
    ∙ ap (λ y. y % q) (Σ-add l (λ x. ψ x * e x) (λ x. j * (ψ* x * e x)) ∙ ap (λ y. Σ l (λ x. ψ x * e x) + y) (Σ-mul-left l j (λ x. ψ* x * e x)))
  where
    out : (a j b e : ℕ) → (a + j * b) * e ≡ a * e + j * (b * e)
    out a j b e = omega arith

-- q = d · (q / d)
steps : (q d : ℕ) → d ∣ q → d * (q / d) ≡ q
steps q d h = mul-div_cancel' d h

steps_positive : (q d : ℕ) → 0 < q → d ∣ q → 0 < q / d
steps_positive q d pos h = lt_of_mul-lt-mul_left d (omega (arith, steps q d h, mul-zero d))

module _ (q l : ℕ) (e : ℕ → ℕ) (d : ℕ) (pos : 0 < q) (g : Gcd q l e d) where
  -- T2: exactly one row in q/d weighs the errors to 0
  pub one-row_in : OneRowIn (q / d) q l e
  one-row_in = (ψ*, λ ψ. exactly_one_iff (q / d) (λ j. (m ψ + j) % (q / d) ≡ 0) (λ j. weighed q l (moved q j ψ* ψ) e ≡ 0) (same ψ) (multiple (m ψ) (q / d) (steps_positive q d pos g.divides_q)))
    where
      ψ* : ℕ → ℕ
      ψ* = (gcd_weighed q l e pos d g).0

      S : (ℕ → ℕ) → ℕ
      S ψ = Σ l (λ x. ψ x * e x)

      m : (ℕ → ℕ) → ℕ
      m ψ = S ψ / d

      out : (d m j : ℕ) → d * m + j * d ≡ d * (m + j)
      out d m j = omega arith

      -- the weighted sum as a multiple of d
      value : (ψ : ℕ → ℕ) (j : ℕ) → weighed q l (moved q j ψ* ψ) e ≡ (d * (m ψ + j)) % (d * (q / d))
      value ψ j =
          moved-weighed q l j ψ* ψ e
          ∙ sym (add-mod-mod (S ψ) (j * S ψ*) q)
          ∙ ap (λ x. (S ψ + x) % q) (sym (mul_mod_second q j (S ψ*)) ∙ ap (λ x. (j * x) % q) (gcd_weighed q l e pos d g).1 ∙ mul_mod_second q j d)
          ∙ add-mod-mod (S ψ) (j * d) q
          ∙ ap₂ (λ x y. x % y) (ap (λ x. x + j * d) (sym (mul-div_cancel' d (dvd_weighed d l ψ e g.divides))) ∙ out d (m ψ) j) (sym (steps q d g.divides_q))

      same : (ψ : ℕ → ℕ) (j : ℕ) → ((m ψ + j) % (q / d) ≡ 0) ↔ (weighed q l (moved q j ψ* ψ) e ≡ 0)
      same ψ j = (
        λ h. value ψ j ∙ (dvd_iff_mod-eq-zero (d * (q / d))).0 (mul-dvd-mul_left (q / d) d ((dvd_iff_mod-eq-zero (q / d)).1 h)),
        λ h. (dvd_iff_mod-eq-zero (q / d)).0 (dvd_of_mul-dvd-mul_left (q / d) (pos_of_dvd_of_pos g.divides_q pos) ((dvd_iff_mod-eq-zero (d * (q / d))).1 (sym (value ψ j) ∙ h))),
      )

  module _ (some : AllZero q l e → ⊥) where
    -- where the errors are not all 0, d is not q
    pub gcd_below : d ≡ q → ⊥
    gcd_below h = some (λ x k. ap (λ y. e x % y) (sym h) ∙ mod-eq-zero_of_dvd d (g.divides x k))

    -- so d is at most a third of an odd q: at most one row in three weighs the errors to 0
    pub at_most-a-third : q % 2 ≡ 1 → AtMostAThird d q
    at_most-a-third odd = go (dec_le 3 (q / d))
      where
        go : Dec (3 ≤ q / d) → AtMostAThird d q
        go (yes h) = omega (arith, mul-le-mul_right d h, mul_comm d (q / d), steps q d g.divides_q)
        go (no h) = cases (ℕ_discrete (q / d) 1) (ℕ_discrete (q / d) 2)
          where
            cases : Dec (q / d ≡ 1) → Dec (q / d ≡ 2) → AtMostAThird d q
            cases (yes f) k = absurd (gcd_below (sym (mul-one d) ∙ ap (λ x. d * x) (sym f) ∙ steps q d g.divides_q))
            cases (no f) (yes k) = let twice : d * 2 ≡ q = ap (λ x. d * x) (sym k) ∙ steps q d g.divides_q in omega arith
            cases (no f) (no k) = let p = steps_positive q d pos g.divides_q in omega arith

    -- over a prime q the errors have no common divisor with it but 1
    pub gcd_is_one : Prime q → d ≡ 1
    gcd_is_one prime = go (prime d g.divides_q)
      where
        go : (d ≡ 1) ⊎ (d ≡ q) → d ≡ 1
        go (inl h) = h
        go (inr h) = absurd (gcd_below h)
