-- Euclid's algorithm on two congruences: a division keeps their common solutions.
use mathlib.Core.Path.{◌≡◌, sym, ap, subst, ◌∙◌}
use mathlib.Core.Logic.{◌↔◌}
use Prim.Native.Nat.{ℕ, ◌+◌, ◌*◌, ◌/◌, ◌%◌, ◌∣◌}
use native.Mathlib.Nat.{div-add-mod', dvd-mod_iff, dvd_refl, dvd-zero, dvd_trans, zero-mul, mod-lt}
use native.Mathlib.Omega.{arith}
use Rattle.spec_leaves.specs.Zq.{Q, Canonical, zsub, zmul}
use Rattle.spec_leaves.proofs.Modulo.{mul_mod_second}
use Rattle.spec_leaves.proofs.ZqRing.{zsub_iff}
use Rattle.mistyped_solve.specs.declared.congruence.Congruence.{Congruence}
use Rattle.mistyped_solve.specs.Congruence.{Solves, Reduced}

-- where v·x is t, u·x is s just where (u mod v)·x is s − (u / v)·t
divided : (u v s t : ℕ) → Canonical s → (x : ℕ) → (v * x) % Q ≡ t → ((u * x) % Q ≡ s) ↔ ((u % v * x) % Q ≡ zsub s (zmul (u / v) t))
divided u v s t h x e =
    let i = zsub_iff s (u / v * (v * x)) (u % v * x) h in
    let whole : u / v * (v * x) + u % v * x ≡ u * x = out (u / v) v (u % v) x ∙ ap (λ k. k * x) (div-add-mod' u v) in
    let taken : (u / v * (v * x)) % Q ≡ zmul (u / v) t = sym (mul_mod_second Q (u / v) (v * x)) ∙ ap (λ k. (u / v * k) % Q) e in (
      λ f. i.0 (sym f ∙ ap (λ k. k % Q) (sym whole)) ∙ ap (zsub s) taken,
      λ f. sym (i.1 (f ∙ ap (zsub s) (sym taken)) ∙ ap (λ k. k % Q) whole),
    )
  where
    out : (q v r x : ℕ) → q * (v * x) + r * x ≡ (q * v + r) * x
    out q v r x = omega arith

-- two congruences have the solutions of two others, whose common divisors divide Q
pub record Carried (a b upper lower : Congruence) : Type 0 where
  pub upper_canonical : Canonical upper.value
  pub lower_canonical : Canonical lower.value
  pub common : (t : ℕ) → t ∣ upper.factor → t ∣ lower.factor → t ∣ Q
  pub both : (x : ℕ) → (Solves a x × Solves b x) ↔ (Solves upper x × Solves lower x)

module _ (a b : Congruence) where
  -- the two themselves
  pub carried-start : Reduced a → Canonical b.value → Carried a b b a
  carried-start r h = record {
    upper_canonical = h;
    lower_canonical = r.canonical;
    common = λ t p q. dvd_trans t q r.divides;
    both = λ x. (λ s. (s.1, s.0), λ s. (s.1, s.0));
  }

  module _ {upper lower : Congruence} (c : Carried a b upper lower) where
    -- after a division
    pub carried-next : (v : ℕ) → v ≡ zsub upper.value (zmul (upper.factor / lower.factor) lower.value) → Carried a b lower (record { factor = upper.factor % lower.factor; value = v })
    carried-next v e = subst (λ (v : ℕ). Carried a b lower (record { factor = upper.factor % lower.factor; value = v })) (sym e) (record {
      upper_canonical = c.lower_canonical;
      lower_canonical = mod-lt _ (omega arith);
      common = λ t p q. c.common t ((dvd-mod_iff t p).0 q) p;
      both = λ x. (
        λ s. let k = (c.both x).0 s in (k.1, (divided upper.factor lower.factor upper.value lower.value c.upper_canonical x k.1).0 k.0),
        λ k. (c.both x).1 ((divided upper.factor lower.factor upper.value lower.value c.upper_canonical x k.0).1 k.1, k.0),
      );
    })

    -- nothing is left of the second factor, and 0 would have to be something else
    pub carried_none : lower.factor ≡ 0 → (lower.value ≡ 0 → ⊥) → (x : ℕ) → Solves a x → Solves b x → ⊥
    carried_none e d x p q = d (sym ((c.both x).0 (p, q)).1 ∙ ap (λ k. (k * x) % Q) e ∙ ap (λ k. k % Q) (zero-mul x))

    -- the first congruence alone is left
    pub carried-one : lower.factor ≡ 0 → lower.value ≡ 0 → Reduced upper × ((x : ℕ) → (Solves a x × Solves b x) ↔ Solves upper x)
    carried-one e f = (
      record { divides = c.common upper.factor (dvd_refl upper.factor) (rw e (dvd-zero upper.factor)); canonical = c.upper_canonical },
      λ x. (
        λ s. ((c.both x).0 s).0,
        λ s. (c.both x).1 (s, ap (λ k. (k * x) % Q) e ∙ ap (λ k. k % Q) (zero-mul x) ∙ sym f),
      ),
    )
