-- Errors of constraints, of rows of b'' and of p: their weighted sums that an aggregated constraint and check 22 let vanish.
use mathlib.Core.Path.{◌≡◌, sym, ap, ap₂, ◌∙◌}
use mathlib.Core.List.{[], ◌∷◌}
use Prim.Native.Nat.{ℕ, ◌+◌, ◌*◌, ◌%◌, ◌<◌}
use native.Mathlib.Decide.{ℕ_discrete}
use Rattle.math.specs.lists.Sum.{Σ}
use Rattle.math.specs.algebra.Ops as Ops
use Rattle.math.proofs.algebra.Dot.{dot-sub_right}
use Rattle.spec_leaves.specs.Zq.{Q}
use Rattle.spec_leaves.specs.Answer.{Answer, fine, failed}
use Rattle.spec_leaves.specs.Rq.{Element, coeff}
use Rattle.spec_leaves.specs.Ring.{Residue, residue, RqOps, ZqOps, words, constant}
use Rattle.spec_leaves.proofs.ZqRing.{zq_ring}
use Rattle.spec_leaves.proofs.RqRing.{rq_ring, residue-products}
use Rattle.spec_protocol.specs.Checks.{require}
use Rattle.spec_protocol.specs.Views.{Public, Message}
use Rattle.spec_protocol.specs.Formulas as F
use Rattle.spec_protocol.specs.Formulas.{◌⊕◌, ◌⊗◌, sum, dot, left, a_sum, φ_sum, b_sum}
use Rattle.spec_protocol.specs.Conditions.{constant_error, ring_error, alpha_error}
use Rattle.spec_protocol.specs.Verifier.{check_22}
use Rattle.spec_protocol.proofs.Fine.{required, failed_not-fine}
use Rattle.spec_protocol.proofs.First.{first-each}
use Rattle.spec_protocol.proofs.Constraints.{left_of-sums, alpha_error_is}
use Rattle.spec_protocol.proofs.PsiRows.{◌+Q◌, ◌*Q◌, lefts, rights, projections, constant-b'', residue-second, residue-row}
use Rattle.theorem_extraction.specs.Fork.{◌⊖◌}
use Rattle.theorem_extraction.proofs.TreeSums.{balance}

module _ (X : Public) (M : Message) (s : ℕ → ℕ → Element) where
  open X use {P, b₀, b, alpha, beta, psi, omega}
  open P use {K, l, L}

  -- of row k of b'': what the formula gives of s, less what is sent
  unfoldable pub row_error : ℕ → Element
  row_error k = F.b'' X s k ⊖ M.b'' k

  -- of entry j of p
  unfoldable pub projection_error : ℕ → Residue
  projection_error j = residue (F.p X s j) +Q ZqOps.neg (residue (M.p j))

  -- where s meets the aggregated constraint, alpha's sum of the ring constraints' errors and beta's of the rows' vanish together
  pub aggregated_errors : left P (a_sum X) (φ_sum X) s ≡ b_sum X M.b'' → dot K alpha (ring_error X s) ⊕ dot L beta row_error ≡ RqOps.nil
  unfolding b_sum alpha_error row_error Ops.dot
  aggregated_errors met =
      ap₂ ◌⊕◌ (alpha_error_is X s) (dot-sub_right RqOps rq_ring L beta (F.b'' X s) M.b'')
      ∙ balance RqOps rq_ring (sum K (λ k. alpha k ⊗ left P (X.a k) (X.φ k) s)) (sum K (λ k. alpha k ⊗ b k)) (sum L (λ k. beta k ⊗ F.b'' X s k)) (sum L (λ k. beta k ⊗ M.b'' k))
      (sym (left_of-sums X s) ∙ met)

  -- the second value of check 22, of the p that is sent
  abbrev computed : ℕ → ℕ
  computed k = (Σ l (λ x. psi k x * b₀ x) + Σ 256 (λ j. omega k j * M.p j)) % Q

  -- check 22 of row k
  row-passes : check_22 X M ≡ fine → (k : ℕ) → k < L → coeff (words (M.b'' k)) 0 ≡ computed k
  unfolding check_22
  row-passes passes k h =
      let answer : ℕ → Answer = λ k. failed 22 (k ∷ coeff (words (M.b'' k)) 0 ∷ computed k ∷ []) in
      let test : (k : ℕ) → Dec (coeff (words (M.b'' k)) 0 ≡ computed k) = λ k. ℕ_discrete (coeff (words (M.b'' k)) 0) (computed k) in
      required (test k) (answer k) (failed_not-fine 22 (k ∷ coeff (words (M.b'' k)) 0 ∷ computed k ∷ [])) (first-each L (λ k. require (test k) (answer k)) passes k h)

  -- in Zq: Σ omega[k][j]·p[j] of the p that is sent
  abbrev sent_projections : ℕ → Residue
  sent_projections k = Ops.sum ZqOps 256 (λ j. residue (omega k j) *Q residue (M.p j))

  -- where row k of b'' is that of s and check 22 passes, psi's sum of the constant-term constraints' errors and omega's of p's vanish together
  pub constant_errors : check_22 X M ≡ fine → (k : ℕ) → k < L → F.b'' X s k ≡ M.b'' k
      → Ops.dot ZqOps l (λ x. residue (psi k x)) (λ x. residue (constant_error X s x)) +Q Ops.dot ZqOps 256 (λ j. residue (omega k j)) projection_error ≡ ZqOps.nil
  unfolding projection_error constant Ops.dot
  constant_errors passes k h row =
      ap₂ ◌+Q◌
      (sym (residue-products l (psi k) (constant_error X s)) ∙ residue-row X s k)
      (dot-sub_right ZqOps zq_ring 256 (λ j. residue (omega k j)) (λ j. residue (F.p X s j)) (λ j. residue (M.p j)))
      ∙ balance ZqOps zq_ring (lefts X s k) (rights X s k) (projections X s k) (sent_projections k)
      (sym (constant-b'' X s k) ∙ ap constant row ∙ ap residue (row-passes passes k h) ∙ residue-second X s M.p k)
