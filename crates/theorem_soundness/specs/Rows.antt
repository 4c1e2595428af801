-- What a row of psi lets through (the paper's first aggregation): errors e_0 … e_{l−1} of l constant-term constraints, weighed by a row ψ.
use Rattle.std.specs.Prelude.{◌≡◌, ◌⊎◌, ℕ, ◌+◌, ◌*◌, ◌%◌, ◌≤◌, ◌<◌}
use Rattle.std.specs.Int.{◌∣◌}
use Rattle.math.specs.lists.Sum.{Σ}
use Rattle.spec_leaves.specs.Zq.{Q}
use Rattle.spec_leaves.specs.Rq.{Element}
use Rattle.spec_protocol.specs.Views.{Public}
use Rattle.spec_protocol.specs.Conditions.{constant_error, psi_error}
use Rattle.theorem_soundness.specs.Share.{ExactlyOne, ExactlyOneTuple}

-- the errors weighed by a row, modulo q: Σ ψ_x·e_x
abbrev pub weighed : (q l : ℕ) → (ψ e : ℕ → ℕ) → ℕ
weighed q l ψ e = Σ l (λ x. ψ x * e x) % q

-- d = gcd(q, e_0, …, e_{l−1}): it divides q and each error, and every common divisor divides it
pub record Gcd (q l : ℕ) (e : ℕ → ℕ) (d : ℕ) : Type 0 where
  pub divides_q : d ∣ q
  pub divides : (x : ℕ) → x < l → d ∣ e x
  pub greatest : (t : ℕ) → t ∣ q → ((x : ℕ) → x < l → t ∣ e x) → t ∣ d

-- all l errors are 0 modulo q
abbrev pub AllZero : (q l : ℕ) → (ℕ → ℕ) → Type 0
AllZero q l e = (x : ℕ) → x < l → e x % q ≡ 0

-- no number but 1 and q divides q: q is a prime, or 1
abbrev pub Prime : ℕ → Type 0
Prime q = (t : ℕ) → t ∣ q → (t ≡ 1) ⊎ (t ≡ q)

-- d/q, the part of all rows that weighs the errors to 0, is at most one third
abbrev pub AtMostAThird : (d q : ℕ) → Type 0
AtMostAThird d q = 3 * d ≤ q

-- the row ψ + j·ψ*, modulo q
unfoldable pub moved : (q j : ℕ) → (ψ* ψ : ℕ → ℕ) → ℕ → ℕ
moved q j ψ* ψ x = (ψ x + j * ψ* x) % q

-- there is a row ψ* such that for every row ψ exactly one of the n rows ψ + j·ψ*, j < n, weighs the errors to 0.
-- Adding a multiple of ψ* carries the rows ψ of one j onto those of another, one to one: so exactly one in n of all rows weighs the errors to 0.
abbrev pub OneRowIn : (n q l : ℕ) → (ℕ → ℕ) → Type 0
OneRowIn n q l e = (ψ* : ℕ → ℕ) × ((ψ : ℕ → ℕ) → ExactlyOne n (λ j. weighed q l (moved q j ψ* ψ) e ≡ 0))

-- the public values with others in the place of psi and alpha
abbrev pub with_weights : Public → (ℕ → ℕ → ℕ) → (ℕ → Element) → Public
with_weights X ψ α = record {
  P = X.P;
  a' = X.a';
  φ' = X.φ';
  b₀ = X.b₀;
  a = X.a;
  φ = X.φ;
  b = X.b;
  A = X.A;
  B = X.B;
  C = X.C;
  D = X.D;
  Π = X.Π;
  psi = ψ;
  omega = X.omega;
  alpha = α;
  beta = X.beta;
  c = X.c;
}

-- with other rows in the place of psi
abbrev pub with_psi : Public → (ℕ → ℕ → ℕ) → Public
with_psi X ψ = with_weights X ψ X.alpha

module _ (X : Public) (s : ℕ → ℕ → Element) where
  -- some constant-term constraint is not met
  abbrev pub SomeError : Type 0
  SomeError = ((x : ℕ) → x < X.P.l → constant_error X s x ≡ 0) → ⊥

  -- d = gcd(Q, errors of the constant-term constraints)
  abbrev pub GcdOfErrors : ℕ → Type 0
  GcdOfErrors = Gcd Q X.P.l (constant_error X s)

  -- there is a row ψ* such that for every psi and every k exactly one j < n lets the row psi_k + j·ψ* weigh the errors to 0: one in n of all rows
  abbrev pub OnePsiRowIn : ℕ → Type 0
  OnePsiRowIn n = (ψ* : ℕ → ℕ) × ((psi : ℕ → ℕ → ℕ) (k : ℕ) → ExactlyOne n (λ j. psi_error (with_psi X (λ i. moved Q j ψ* (psi i))) s k ≡ 0))

  -- and for every psi exactly one tuple j_0 … j_{L−1} of numbers below n lets all L rows psi_k + j_k·ψ* do so: one in n^L of all psi
  abbrev pub OnePsiIn : (L n : ℕ) → Type 0
  OnePsiIn L n = (ψ* : ℕ → ℕ) × ((psi : ℕ → ℕ → ℕ) → ExactlyOneTuple L n (λ j. (k : ℕ) → k < L → psi_error (with_psi X (λ i. moved Q (j i) ψ* (psi i))) s k ≡ 0))
