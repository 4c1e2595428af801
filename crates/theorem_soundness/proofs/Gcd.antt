-- Euclid's algorithm: the greatest common divisor of a modulus and finitely many numbers, and that modulo the modulus it is a weighted sum of these.
use mathlib.Core.Path.{◌≡◌, refl, sym, ap, ap₂, ◌∙◌}
use mathlib.Core.Bool.{cond}
use mathlib.Core.Logic.{◌⊎◌, inl, inr}
use Prim.Native.Nat.{ℕ, zero, suc, ◌+◌, ◌-◌, ◌*◌, ◌/◌, ◌%◌, ◌≤◌, ◌<◌, ◌∣◌}
use native.Mathlib.Nat.{mod-lt, mod_self, zero-mod, mod-add-div', mod-add-mod, add-mul-mod_self_right, not-suc-le-zero}
use native.Mathlib.Nat.{dvd_refl, dvd-zero, dvd_trans, dvd-add, dvd-mod_iff, dvd-mul_left_of_dvd, dvd_antisymm, eq-or-lt_of_le}
use native.Mathlib.Decide.{ℕ_discrete}
use native.Mathlib.Omega.{arith}
use borrow.Author.Tests.{eq-eqb, ne_eqb}
use lib.Dec.{eqb}
use Rattle.math.specs.lists.Sum.{Σ}
use Rattle.math.proofs.lists.Sum.{Σ_ext, Σ-mul-left}
use Rattle.spec_leaves.proofs.Modulo.{mul_mod_second}
use Rattle.theorem_soundness.specs.Rows.{weighed, Gcd}

-- a common divisor of two numbers, and u·a + v·b equal to it modulo q
record Euclid (q a b : ℕ) : Type 0 where
  g : ℕ
  u : ℕ
  v : ℕ
  first : g ∣ a
  second : g ∣ b
  combined : (u * a + v * b) % q ≡ g % q

module _ (q : ℕ) (pos : 0 < q) where
  -- where b is 0
  last : (a b : ℕ) → b ≡ 0 → Euclid q a b
  last a b e = record { g = a; u = 1; v = 0; first = dvd_refl a; second = rw e (dvd-zero a); combined = ap (λ x. x % q) (omega arith) }

  -- from the remainder of a by b: a = (a / b)·b + a % b, and −1 is q − 1 modulo q
  next : (a b : ℕ) → Euclid q b (a % b) → Euclid q a b
  next a b r = record {
    g = r.g;
    u = r.v;
    v = r.u + (q - 1) * (r.v * (a / b));
    first = (dvd-mod_iff r.g r.first).0 r.second;
    second = r.first;
    combined =
        ap (λ x. (r.v * x + (r.u + (q - 1) * (r.v * (a / b))) * b) % q) (sym (mod-add-div' a b))
        ∙ ap (λ x. x % q) (out (q - 1) r.u r.v (a % b) (a / b) b)
        ∙ ap (λ x. (r.u * b + r.v * (a % b) + r.v * (a / b) * b * x) % q) whole
        ∙ add-mul-mod_self_right (r.u * b + r.v * (a % b)) (r.v * (a / b) * b) q
        ∙ r.combined;
  }
    where
      whole : q - 1 + 1 ≡ q
      whole = omega arith

      out : (p u v m n b : ℕ) → v * (m + n * b) + (u + p * (v * n)) * b ≡ u * b + v * m + v * n * b * (p + 1)
      out p u v m n b = omega arith

  euclid : (steps a b : ℕ) → b ≤ steps → Euclid q a b
  euclid zero a b h = last a b (omega arith)
  euclid (suc n) a b h = go (ℕ_discrete b 0) (euclid n b (a % b))
    where
      go : Dec (b ≡ 0) → (a % b ≤ n → Euclid q b (a % b)) → Euclid q a b
      go (yes e) r = last a b e
      go (no d) r = next a b (r (let s : a % b < b = mod-lt a (omega arith) in omega arith))

-- a number that divides each term divides the sum
dvd_Σ : (t n : ℕ) (f : ℕ → ℕ) → ((x : ℕ) → x < n → t ∣ f x) → t ∣ Σ n f
unfolding Σ
dvd_Σ t zero f h = dvd-zero t
dvd_Σ t (suc n) f h = dvd-add t (dvd_Σ t n f (λ x l. h x (omega arith))) (h n (omega arith))

-- a number that divides each error divides their weighted sum
pub dvd_weighed : (t n : ℕ) (ψ e : ℕ → ℕ) → ((x : ℕ) → x < n → t ∣ e x) → t ∣ Σ n (λ x. ψ x * e x)
dvd_weighed t n ψ e h = dvd_Σ t n (λ x. ψ x * e x) (λ x l. dvd-mul_left_of_dvd t (h x l) (ψ x))

-- a common divisor of q and l errors, and a row that weighs the errors to it modulo q
record Bezout (q l : ℕ) (e : ℕ → ℕ) : Type 0 where
  d : ℕ
  row : ℕ → ℕ
  divides_q : d ∣ q
  divides : (x : ℕ) → x < l → d ∣ e x
  weighs : weighed q l row e ≡ d % q

-- one error more
one_more : (q l : ℕ) (e : ℕ → ℕ) (b : Bezout q l e) → Euclid q b.d (e l) → Bezout q (suc l) e
unfolding Σ
one_more q l e b r = record {
  d = r.g;
  row = λ x. cond (eqb x l) r.v (r.u * b.row x);
  divides_q = dvd_trans r.g r.first b.divides_q;
  divides = λ x h. at x (eq-or-lt_of_le h);
  weighs =
      ap₂ (λ x y. (x + y * e l) % q)
      (Σ_ext l (λ x. cond (eqb x l) r.v (r.u * b.row x) * e x) (λ x. r.u * (b.row x * e x)) (λ x h. ap (λ c. cond c r.v (r.u * b.row x) * e x) (ne_eqb x l (omega arith)) ∙ omega arith)
      ∙ Σ-mul-left l r.u (λ x. b.row x * e x))
      (ap (λ c. cond c r.v (r.u * b.row l)) (eq-eqb l l refl))
      ∙ sym (mod-add-mod (r.u * Σ l (λ x. b.row x * e x)) q (r.v * e l))
      ∙ ap (λ x. (x + r.v * e l) % q) (sym (mul_mod_second q r.u (Σ l (λ x. b.row x * e x))) ∙ ap (λ x. (r.u * x) % q) b.weighs ∙ mul_mod_second q r.u b.d)
      ∙ mod-add-mod (r.u * b.d) q (r.v * e l)
      ∙ r.combined;
}
  where
    at : (x : ℕ) → (suc x ≡ suc l) ⊎ (suc x < suc l) → r.g ∣ e x
    at x (inl p) = let s : x ≡ l = omega arith in rw s r.second
    at x (inr h) = dvd_trans r.g r.first (b.divides x (omega arith))

bezout : (q l : ℕ) (e : ℕ → ℕ) → 0 < q → Bezout q l e
unfolding Σ
bezout q zero e pos = record { d = q; row = λ x. 0; divides_q = dvd_refl q; divides = λ x h. absurd (not-suc-le-zero h); weighs = zero-mod q ∙ sym (mod_self q) }
bezout q (suc l) e pos = let b = bezout q l e pos in one_more q l e b (euclid q pos (e l) b.d (e l) (omega arith))

module _ (q l : ℕ) (e : ℕ → ℕ) (pos : 0 < q) where
  -- that divisor is the greatest
  is_gcd : (b : Bezout q l e) → Gcd q l e b.d
  is_gcd b = record {
    divides_q = b.divides_q;
    divides = b.divides;
    greatest = λ t h k. (dvd-mod_iff t h).0 (rw b.weighs at ((dvd-mod_iff t h).1 (dvd_weighed t l b.row e k)));
  }

  -- the greatest common divisor of q and the errors exists
  pub gcd_exists : (d : ℕ) × Gcd q l e d
  gcd_exists = let b = bezout q l e pos in (b.d, is_gcd b)

  -- there is one only
  pub gcd_unique : (c d : ℕ) → Gcd q l e c → Gcd q l e d → c ≡ d
  gcd_unique c d g h = dvd_antisymm (h.greatest c g.divides_q g.divides) (g.greatest d h.divides_q h.divides)

  -- a row weighs the errors to it
  pub gcd_weighed : (d : ℕ) → Gcd q l e d → (ψ : ℕ → ℕ) × (weighed q l ψ e ≡ d % q)
  gcd_weighed d g = let b = bezout q l e pos in (b.row, b.weighs ∙ ap (λ x. x % q) (gcd_unique b.d d (is_gcd b) g))
