-- The aggregated φ of two transcripts with the same weights.
use mathlib.Core.Path.{◌≡◌, ap, ap₂}
use mathlib.Core.List.{List}
use Prim.Native.Nat.{ℕ, ◌+◌, ◌*◌, ◌<◌}
use native.Mathlib.Omega.{arith}
use Rattle.math.specs.lists.Table.{table}
use Rattle.math.proofs.lists.Table.{table_ext}
use Rattle.math.proofs.algebra.Sum.{sum_ext}
use Rattle.spec_leaves.specs.Rq.{Element}
use Rattle.spec_leaves.specs.Ring.{RqOps, element, scale, conj}
use Rattle.spec_protocol.specs.Parameters.{parameters}
use Rattle.spec_protocol.specs.Formulas.{◌⊕◌, ◌⊗◌, Π_row, φ'', φ_sum}
use Rattle.theorem_extraction.specs.Fork.{Branch, values, SameΠ, SamePsi, SameOmega, SameWeights}

module _ {J : List ℕ} (X Y : Branch J) where
  open parameters J use {n, r, K, l, L}
  open values X use {φ, φ'}

  -- φ''_k,i of the same Π and the same rows k
  pub same-φ'' : SameΠ (values X) (values Y) → (k : ℕ) → SamePsi (values X) (values Y) k → SameOmega (values X) (values Y) k
      → (i m : ℕ) → i < r → m < n → φ'' (values X) k i m ≡ φ'' (values Y) k i m
  unfolding φ'' Π_row
  same-φ'' same_Π k same_psi same_omega i m h e =
      ap₂ ◌⊕◌
      (sum_ext RqOps l (λ x. scale (φ' x i m) ((values X).psi k x)) (λ x. scale (φ' x i m) ((values Y).psi k x)) (λ x l. ap (scale (φ' x i m)) (same_psi x l)))
      (sum_ext RqOps 256 (λ j. scale (conj (row X j)) ((values X).omega k j)) (λ j. scale (conj (row Y j)) ((values Y).omega k j))
      (λ j l. ap₂ (λ a b. scale (conj a) b) (same_row j l) (same_omega j l)))
    where
      row : Branch J → ℕ → Element
      row Z j = element (table 64 (λ q. (values Z).Π i j (64 * m + q)))

      same_row : (j : ℕ) → j < 256 → row X j ≡ row Y j
      same_row j l = ap element (table_ext 64 (λ q. (values X).Π i j (64 * m + q)) (λ q. (values Y).Π i j (64 * m + q)) (λ q b. same_Π i j (64 * m + q) h l (omega arith)))

  -- φ_i of the same weights
  pub same-φ : SameWeights (values X) (values Y) → (i m : ℕ) → i < r → m < n → φ_sum (values X) i m ≡ φ_sum (values Y) i m
  unfolding φ_sum
  same-φ same i m h e =
      ap₂ ◌⊕◌
      (sum_ext RqOps K (λ k. (values X).alpha k ⊗ φ k i m) (λ k. (values Y).alpha k ⊗ φ k i m) (λ k l. ap (λ a. a ⊗ φ k i m) (same.same_alpha k l)))
      (sum_ext RqOps L (λ k. (values X).beta k ⊗ φ'' (values X) k i m) (λ k. (values Y).beta k ⊗ φ'' (values Y) k i m)
      (λ k l. ap₂ ◌⊗◌ (same.same_beta k l) (same-φ'' same.same_Π k (same.same_psi k l) (same.same_omega k l) i m h e)))
