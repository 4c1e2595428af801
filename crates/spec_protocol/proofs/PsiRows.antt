-- Check 22's two values: the first less the second is the psi row's sum of errors.
use mathlib.Core.Path.{◌≡◌, sym, ap, ap₂, ◌∙◌}
use mathlib.Core.Logic.{◌↔◌}
use Prim.Native.Nat.{ℕ, ◌+◌, ◌-◌, ◌*◌, ◌/◌, ◌%◌, ◌<◌}
use native.Mathlib.Nat as Nat
use native.Mathlib.Omega.{arith}
use Rattle.math.specs.lists.Sum.{Σ}
use Rattle.math.specs.algebra.Ops as Ops
use Rattle.math.proofs.algebra.Ring.{sub_common}
use Rattle.math.proofs.algebra.Sum.{sum_ext, sum_rows}
use Rattle.math.proofs.algebra.Dot.{dot-sub_right}
use Rattle.spec_leaves.specs.Zq.{Q, zsub}
use Rattle.spec_leaves.specs.Rq.{Element, coeff}
use Rattle.spec_leaves.specs.Ring.{Residue, residue, canonical_mod, ZqOps, words, scalar, constant, conj}
use Rattle.spec_leaves.proofs.ZqRing.{zq_ring, zsub_zero, residue-add, residue-mul, residue-reduced, residue-zsub, residue-Σ}
use Rattle.spec_leaves.proofs.RqRing.{coefficient, coefficient-table, residue-products}
use Rattle.spec_leaves.proofs.Bridge.{coeff-canonical}
use Rattle.spec_leaves.proofs.Conjugate.{constant-add, constant-sum, constant-scalar-mul, constant-conj-dot}
use Rattle.spec_protocol.specs.Views.{Public}
use Rattle.spec_protocol.specs.Formulas as F
use Rattle.spec_protocol.specs.Formulas.{◌⊗◌, sum, dot, left, Π_row, projection, p, b''}
use Rattle.spec_protocol.specs.Conditions.{constant_error, psi_error, sent, computed}
use Rattle.spec_protocol.proofs.Constraints.{projected, b''_is}

infixl 30 ◌+Q◌
infixl 40 ◌*Q◌
-- sum and product in Zq
abbrev pub ◌+Q◌ : Residue → Residue → Residue
◌+Q◌ = ZqOps.add

abbrev pub ◌*Q◌ : Residue → Residue → Residue
◌*Q◌ = ZqOps.mul

-- the constant coefficient of a sum of multiples
pub constant_weighted : (n : ℕ) (w : ℕ → ℕ) (f : ℕ → Element) → constant (sum n (λ x. scalar (w x) ⊗ f x)) ≡ Ops.sum ZqOps n (λ x. residue (w x) *Q constant (f x))
constant_weighted n w f =
    constant-sum n (λ x. scalar (w x) ⊗ f x) ∙ sum_ext ZqOps n (λ x. constant (scalar (w x) ⊗ f x)) (λ x. residue (w x) *Q constant (f x)) (λ x h. constant-scalar-mul (w x) (f x))

-- the place of coefficient q of element m
place : (m q : ℕ) → 64 * m + q ≡ m * 64 + q
place m q = omega arith

-- coefficient q of element m of a vector stands at 64·m + q
pub coefficient_of : (v : ℕ → Element) (m q : ℕ) → q < 64 → F.coefficient v (m * 64 + q) ≡ coeff (words (v m)) q
coefficient_of v m q h = ap₂ (λ x y. coeff (words (v x)) y) (quotient m q h) (remainder m q h)
  where
    quotient : (m q : ℕ) → q < 64 → (m * 64 + q) / 64 ≡ m
    quotient m q h = omega arith

    remainder : (m q : ℕ) → q < 64 → (m * 64 + q) % 64 ≡ q
    remainder m q h = omega arith

module _ (X : Public) (s : ℕ → ℕ → Element) where
  open X use {P, a', φ', b₀, Π, psi, omega}
  open P use {n, r, l}

  -- the constant coefficient of ⟨conj(row j of Π_i), s_i⟩ is Π_i·s_i over coefficients at row j
  pub constant-projection : (i j : ℕ) → constant (dot n (λ m. conj (Π_row X i j m)) (s i)) ≡ residue (projection X s i j)
  unfolding projection Π_row
  constant-projection i j =
      constant-conj-dot n (Π_row X i j) (s i)
      ∙ sum_ext ZqOps n (λ m. Ops.sum ZqOps 64 (λ q. coefficient (Π_row X i j m) q *Q coefficient (s i m) q))
      (λ m. Ops.sum ZqOps 64 (λ q. residue (Π i j (m * 64 + q) * F.coefficient (s i) (m * 64 + q))))
      (λ m h. sum_ext ZqOps 64 (λ q. coefficient (Π_row X i j m) q *Q coefficient (s i m) q) (λ q. residue (Π i j (m * 64 + q) * F.coefficient (s i) (m * 64 + q))) (term m))
      ∙ sym (sum_rows ZqOps zq_ring n 64 (λ m. residue (Π i j m * F.coefficient (s i) m)))
      ∙ ap (λ k. Ops.sum ZqOps k (λ m. residue (Π i j m * F.coefficient (s i) m))) (Nat.mul_comm n 64)
      ∙ sym (residue-Σ (64 * n) (λ m. Π i j m * F.coefficient (s i) m))
    where
      term : (m q : ℕ) → q < 64 → coefficient (Π_row X i j m) q *Q coefficient (s i m) q ≡ residue (Π i j (m * 64 + q) * F.coefficient (s i) (m * 64 + q))
      term m q h =
          ap (λ x. x *Q coefficient (s i m) q) (coefficient-table (λ k. Π i j (64 * m + k)) q h)
          ∙ sym (residue-mul (Π i j (64 * m + q)) (coeff (words (s i m)) q))
          ∙ ap₂ (λ x y. residue (Π i j x * y)) (place m q) (sym (coefficient_of (s i) m q h))

  -- the constant coefficient of Σ_i ⟨conj(row j of Π_i), s_i⟩ is p_j
  pub constant_projected : (j : ℕ) → constant (projected X s j) ≡ residue (p X s j)
  unfolding projected p
  constant_projected j =
      constant-sum r (λ i. dot n (λ m. conj (Π_row X i j m)) (s i))
      ∙ sum_ext ZqOps r (λ i. constant (dot n (λ m. conj (Π_row X i j m)) (s i))) (λ i. residue (projection X s i j)) (λ i h. constant-projection i j)
      ∙ sym (residue-Σ r (λ i. projection X s i j))
      ∙ sym (residue-reduced (Σ r (λ i. projection X s i j)))

  -- in Zq: Σ psi[k][l]·(constant coefficient of left side l), Σ psi[k][l]·b0[l] and Σ omega[k][j]·p[j]
  abbrev pub lefts : ℕ → Residue
  lefts k = Ops.sum ZqOps l (λ x. residue (psi k x) *Q constant (left P (a' x) (φ' x) s))

  abbrev pub rights : ℕ → Residue
  rights k = Ops.sum ZqOps l (λ x. residue (psi k x) *Q residue (b₀ x))

  abbrev pub projections : ℕ → Residue
  projections k = Ops.sum ZqOps 256 (λ j. residue (omega k j) *Q residue (p X s j))

  -- the constant coefficient of b''_k: Σ psi[k][l]·(constant coefficient of left side l) + Σ omega[k][j]·p_j
  pub constant-b'' : (k : ℕ) → constant (b'' X s k) ≡ lefts k +Q projections k
  constant-b'' k =
      ap constant (b''_is X s k)
      ∙ constant-add (sum l (λ x. scalar (psi k x) ⊗ left P (a' x) (φ' x) s)) (sum 256 (λ j. scalar (omega k j) ⊗ projected X s j))
      ∙ ap₂ ◌+Q◌ (constant_weighted l (psi k) (λ x. left P (a' x) (φ' x) s))
      (constant_weighted 256 (omega k) (projected X s)
      ∙ sum_ext ZqOps 256 (λ j. residue (omega k j) *Q constant (projected X s j)) (λ j. residue (omega k j) *Q residue (p X s j)) (λ j h. ap (◌*Q◌ (residue (omega k j))) (constant_projected j)))

  -- the canonical value of a constant-term constraint's error
  pub residue_error : (x : ℕ) → residue (constant_error X s x) ≡ constant (left P (a' x) (φ' x) s) +Q ZqOps.neg (residue (b₀ x))
  unfolding constant_error constant
  residue_error x = residue-zsub (coeff (words (left P (a' x) (φ' x) s)) 0) (b₀ x)

  -- the canonical value of the first value, in Zq
  pub residue-sent : (k : ℕ) → residue (sent X s k) ≡ lefts k +Q projections k
  unfolding sent constant
  residue-sent k = constant-b'' k

  -- the canonical value of the second value, in Zq: of any numbers in the place of p, and of p
  pub residue-second : (q : ℕ → ℕ) (k : ℕ) → residue ((Σ l (λ x. psi k x * b₀ x) + Σ 256 (λ j. omega k j * q j)) % Q) ≡ rights k +Q Ops.sum ZqOps 256 (λ j. residue (omega k j) *Q residue (q j))
  residue-second q k =
      residue-reduced (Σ l (λ x. psi k x * b₀ x) + Σ 256 (λ j. omega k j * q j))
      ∙ residue-add (Σ l (λ x. psi k x * b₀ x)) (Σ 256 (λ j. omega k j * q j))
      ∙ ap₂ ◌+Q◌ (residue-products l (psi k) b₀) (residue-products 256 (omega k) q)

  pub residue-computed : (k : ℕ) → residue (computed X s k) ≡ rights k +Q projections k
  unfolding computed
  residue-computed k = residue-second (p X s) k

  -- Σ psi[k][l]·error_l in Zq
  pub residue-row : (k : ℕ) → residue (Σ l (λ x. psi k x * constant_error X s x)) ≡ lefts k +Q ZqOps.neg (rights k)
  unfolding Ops.dot
  residue-row k =
      residue-products l (psi k) (constant_error X s)
      ∙ sum_ext ZqOps l (λ x. residue (psi k x) *Q residue (constant_error X s x)) (λ x. residue (psi k x) *Q (constant (left P (a' x) (φ' x) s) +Q ZqOps.neg (residue (b₀ x))))
      (λ x h. ap (◌*Q◌ (residue (psi k x))) (residue_error x))
      ∙ dot-sub_right ZqOps zq_ring l (λ x. residue (psi k x)) (λ x. constant (left P (a' x) (φ' x) s)) (λ x. residue (b₀ x))

  -- "the first value less the second is that row's sum modulo Q"
  pub psi_error_is : (k : ℕ) → psi_error X s k ≡ zsub (sent X s k) (computed X s k)
  unfolding psi_error
  psi_error_is k = ap (λ (x : Residue). x.0) (
      residue-row k
      ∙ sym (sub_common ZqOps zq_ring (lefts k) (projections k) (rights k))
      ∙ sym (ap₂ (λ x y. x +Q ZqOps.neg y) (residue-sent k) (residue-computed k))
      ∙ sym (residue-add (sent X s k) (Q - computed X s k % Q)))

  -- the two values are the same just where that sum is zero
  pub psi-row_met : (k : ℕ) → (sent X s k ≡ computed X s k) ↔ (psi_error X s k ≡ 0)
  unfolding sent computed
  psi-row_met k =
      let zero : (zsub (sent X s k) (computed X s k) ≡ 0) ↔ (sent X s k ≡ computed X s k) =
      zsub_zero (sent X s k) (computed X s k) (coeff-canonical (b'' X s k) 0) (canonical_mod (Σ l (λ x. psi k x * b₀ x) + Σ 256 (λ j. omega k j * p X s j))) in
      (λ e. psi_error_is k ∙ zero.1 e, λ e. zero.0 (sym (psi_error_is k) ∙ e))
