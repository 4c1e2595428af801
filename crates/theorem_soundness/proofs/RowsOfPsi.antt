-- Which part of all psi lets check 22's condition hold: the errors are those of the constant-term constraints, the modulus is Q.
use mathlib.Core.Path.{sym, ◌∙◌}
use Prim.Native.Nat.{ℕ, ◌/◌}
use native.Mathlib.Nat.{mod-eq_of_lt}
use Rattle.spec_leaves.specs.Zq.{Q}
use Rattle.spec_leaves.specs.Rq.{Element}
use Rattle.spec_leaves.specs.Ring.{canonical_mod}
use Rattle.spec_protocol.specs.Views.{Public}
use Rattle.spec_protocol.specs.Conditions.{constant_error, psi_error}
use Rattle.theorem_soundness.specs.Rows.{AllZero, Prime, AtMostAThird, OneRowIn, SomeError, GcdOfErrors, OnePsiRowIn, OnePsiIn}
use Rattle.theorem_soundness.proofs.Modulus.{Q_positive, Q_odd}
use Rattle.theorem_soundness.proofs.Gcd.{gcd_exists}
use Rattle.theorem_soundness.proofs.Rows.{one-row_in, at_most-a-third}
use Rattle.theorem_soundness.proofs.RowsOverPrime.{one-row_in_q}

module _ (X : Public) (s : ℕ → ℕ → Element) where
  -- errors are 0 where they are 0 modulo Q
  pub some_error : SomeError X s → AllZero Q X.P.l (constant_error X s) → ⊥
  unfolding constant_error
  some_error h z = h (λ x k. sym (mod-eq_of_lt (canonical_mod _)) ∙ z x k)

  -- psi_error k is the sum weighed by row k
  of_psi : (n : ℕ) → OneRowIn n Q X.P.l (constant_error X s) → OnePsiRowIn X s n
  unfolding psi_error constant_error
  of_psi n o = (o.0, λ psi k. o.1 (psi k))

  -- T2: d exists
  pub gcd_of_errors : (d : ℕ) × GcdOfErrors X s d
  gcd_of_errors = gcd_exists Q X.P.l (constant_error X s) Q_positive

  -- exactly one row in Q/d weighs the errors to 0
  pub one-psi-row_in : (d : ℕ) → GcdOfErrors X s d → OnePsiRowIn X s (Q / d)
  one-psi-row_in d g = of_psi (Q / d) (one-row_in Q X.P.l (constant_error X s) d Q_positive g)

  -- d/Q is at most one third
  pub psi-at_most-a-third : (d : ℕ) → GcdOfErrors X s d → SomeError X s → AtMostAThird d Q
  psi-at_most-a-third d g h = at_most-a-third Q X.P.l (constant_error X s) d Q_positive g (some_error h) Q_odd

  -- over a prime Q: exactly one row in Q
  pub one-psi-row_in-Q : Prime Q → SomeError X s → OnePsiRowIn X s Q
  one-psi-row_in-Q prime h = of_psi Q (one-row_in_q Q X.P.l (constant_error X s) Q_positive prime (some_error h))

  -- L rows are independent: one row in n gives one psi in n^L
  pub one-psi_in : (L n : ℕ) → OnePsiRowIn X s n → OnePsiIn X s L n
  unfolding psi_error constant_error
  one-psi_in L n o = (
    o.0,
    λ psi. record {
      the_one = λ k. (o.1 psi k).the_one;
      below = λ k h. (o.1 psi k).below;
      it_holds = λ k h. (o.1 psi k).it_holds;
      no_other = λ j b z k h. (o.1 psi k).no_other (j k) (b k h) (z k h);
    },
  )
