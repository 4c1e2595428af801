-- The checks of a message that agrees with the formulas are demand 3's conditions.
use mathlib.Core.Path.{◌≡◌, refl, sym, ap, ap₂, ◌∙◌}
use mathlib.Core.List.{[], ◌∷◌, flat_map, List-discrete}
use Prim.Native.Nat.{ℕ, ◌+◌, ◌*◌, ◌%◌, ◌<◌}
use native.Mathlib.Decide.{dec_le, ℕ_discrete}
use Rattle.math.specs.lists.Table.{table}
use Rattle.math.specs.lists.Sum.{Σ}
use Rattle.math.proofs.lists.Table.{table_ext}
use Rattle.math.proofs.lists.Sum.{Σ_ext}
use Rattle.spec_leaves.specs.Zq.{Q}
use Rattle.spec_leaves.specs.Norm.{square, norm}
use Rattle.spec_leaves.specs.Answer.{fine, accepted, refused, failed, ◌then◌}
use Rattle.spec_leaves.specs.Rq.{Element, coeff, rzero}
use Rattle.spec_leaves.specs.Ring.{words}
use Rattle.spec_protocol.specs.Checks.{require, first}
use Rattle.spec_protocol.specs.Views.{Public, Message}
use Rattle.spec_protocol.specs.Formulas as F
use Rattle.spec_protocol.specs.Formulas.{◌⊕◌, ◌⊗◌, sum, pairs, rows, triangle, digits_of, norm_of, count_left, cells_left_of, t_digits, g_digits, h_digits, a_sum, b_sum, u₁_of, u₂_of}
use Rattle.spec_protocol.specs.Prover.{t_norm, g_norm, h_norm}
use Rattle.spec_protocol.specs.Conditions.{p_norm, psi_error, sent, computed, digit_sum, cells_left, alpha_error, conditions}
use Rattle.spec_protocol.specs.Verifier.{twice, same, z_parts, check_21, check_22, check_23, check_27, check_28, check_29, checks}
use Rattle.spec_protocol.proofs.Agrees.{Agrees}
use Rattle.spec_protocol.proofs.Fine.{require-holds}
use Rattle.spec_protocol.proofs.Checks.{then_fine, require_iff, first_ext, first_fine}
use Rattle.spec_protocol.proofs.PsiRows.{psi-row_met}
use Rattle.spec_protocol.proofs.Norms.{norm-table, parts_of-table, digits_of-rows, digits_of-triangle}
use Rattle.spec_protocol.proofs.CellsLeft.{cells_left-by_formulas, counted_cells}
use Rattle.spec_protocol.proofs.Relations.{check_24-fine, check_25-fine, check_26-fine, aggregated-relation}
use Rattle.spec_protocol.proofs.Region.{rows_ext, triangle_ext}

-- tests of limits of equal numbers
limit_same : (number a b limit : ℕ) → a ≡ b → require (dec_le a limit) (failed number (a ∷ limit ∷ [])) ≡ require (dec_le b limit) (failed number (b ∷ limit ∷ []))
limit_same number a b limit e = ap (λ x. require (dec_le x limit) (failed number (x ∷ limit ∷ []))) e

module _ (X : Public) (s : ℕ → ℕ → Element) (M : Message) (agrees : Agrees X s M) where
  open X use {P, b₀, psi, omega}
  open P use {n, r, κ, κ₁, κ₂, l, L, beta_sq, beta_prime_sq}

  -- the cells of t, g and h that are sent
  t_cells : rows r κ M.t ≡ rows r κ (F.t X s)
  t_cells = rows_ext r κ M.t (F.t X s) agrees.t

  g_cells : triangle r M.g ≡ triangle r (F.g X s)
  g_cells = triangle_ext r M.g (F.g X s) agrees.g

  h_cells : triangle r M.h ≡ triangle r (F.h X s)
  h_cells = triangle_ext r M.h (F.h X s) agrees.h

  -- the digits of the t that is sent
  same-t : t_digits X M.t ≡ t_digits X (F.t X s)
  same-t = ap (digits_of P.b P.t₁) t_cells

  -- the digits of the g that is sent
  same-g : g_digits X M.g ≡ g_digits X (F.g X s)
  same-g = ap (digits_of P.b P.t₂) g_cells

  -- the digits of the h that is sent
  same-h : h_digits X M.h ≡ h_digits X (F.h X s)
  same-h = ap (digits_of P.b P.t₁) h_cells

  -- the number of cells with something left is that of the cells by the formulas
  pub cells_left_is : cells_left_of X M.t M.g M.h ≡ cells_left X s
  cells_left_is =
      counted_cells X M.t M.g M.h
      ∙ ap₂ ◌+◌ (ap₂ ◌+◌ (ap (count_left P.b P.t₁) t_cells) (ap (count_left P.b P.t₂) g_cells)) (ap (count_left P.b P.t₁) h_cells)
      ∙ sym (cells_left-by_formulas X s ∙ counted_cells X (F.t X s) (F.g X s) (F.h X s))

  -- check 21 is the condition on the norm of p
  pub check_21_is : check_21 X M ≡ require (dec_le (p_norm X s) (128 * beta_sq)) (failed 21 (p_norm X s ∷ 128 * beta_sq ∷ []))
  unfolding check_21 p_norm
  check_21_is = limit_same 21 (norm (table 256 M.p)) (Σ 256 (λ j. square (F.p X s j))) (128 * beta_sq)
      (norm-table 256 M.p ∙ Σ_ext 256 (λ j. square (M.p j)) (λ j. square (F.p X s j)) (λ j h. ap square (agrees.p j h)))

  -- the first value of check 22
  same_sent : (k : ℕ) → k < L → coeff (words (M.b'' k)) 0 ≡ sent X s k
  unfolding sent
  same_sent k h = ap (λ e. coeff (words e) 0) (agrees.b'' k h)

  -- the second value of check 22
  pub same-computed : (k : ℕ) → (Σ l (λ x. psi k x * b₀ x) + Σ 256 (λ j. omega k j * M.p j)) % Q ≡ computed X s k
  unfolding computed
  same-computed k = ap (λ x. (Σ l (λ x. psi k x * b₀ x) + x) % Q) (Σ_ext 256 (λ j. omega k j * M.p j) (λ j. omega k j * F.p X s j) (λ j h. ap (◌*◌ (omega k j)) (agrees.p j h)))

  -- check 22 is the condition on the psi rows
  pub check_22_is : check_22 X M ≡ first L (λ k. require (ℕ_discrete (psi_error X s k) 0) (failed 22 (k ∷ sent X s k ∷ computed X s k ∷ [])))
  unfolding check_22
  check_22_is = first_ext L _ _ (λ k h.
      let first-value = same_sent k h in
      let second-value = same-computed k in
      require_iff (ℕ_discrete _ _) (ℕ_discrete (psi_error X s k) 0) _ (failed 22 (k ∷ sent X s k ∷ computed X s k ∷ []))
      (λ q. (psi-row_met X s k).0 (sym first-value ∙ q ∙ second-value))
      (λ q. first-value ∙ (psi-row_met X s k).1 q ∙ sym second-value)
      (ap₂ (λ x y. failed 22 (k ∷ x ∷ y ∷ [])) first-value second-value))

  -- the two parts of each element of z
  same-z : flat_map (z_parts X M) (table n M.z) ≡ flat_map (z_parts X M) (table n (F.z X s))
  same-z = ap (flat_map (z_parts X M)) (table_ext n M.z (F.z X s) agrees.z)

  -- check 23 is the condition on the sum of digit norms
  pub check_23_is : check_23 X M ≡ require (dec_le (digit_sum X s) beta_prime_sq) (failed 23 (digit_sum X s ∷ beta_prime_sq ∷ []))
  unfolding check_23 digit_sum
  check_23_is = limit_same 23 _ _ beta_prime_sq
      (ap₂ ◌+◌
      (ap₂ ◌+◌
      (ap₂ ◌+◌ (ap norm_of same-z ∙ parts_of-table P.b n (F.z X s)) (ap norm_of same-t ∙ digits_of-rows P.b P.t₁ r κ (F.t X s)))
      (ap norm_of same-g ∙ digits_of-triangle P.b P.t₂ r (F.g X s)))
      (ap norm_of same-h ∙ digits_of-triangle P.b P.t₁ r (F.h X s)))

  -- check 27 is the condition on the ring constraints
  pub check_27_is : check_27 X M ≡ require (List-discrete ℕ_discrete (words (alpha_error X s)) rzero) (failed 27 [])
  unfolding check_27
  check_27_is =
      let met = aggregated-relation X s M agrees in
      require_iff (same (twice (pairs r (λ i j. a_sum X i j ⊗ M.g i j)) ⊕ sum r (λ i. M.h i i)) (twice (b_sum X M.b''))) (List-discrete ℕ_discrete (words (alpha_error X s)) rzero)
      (failed 27 []) (failed 27 []) met.0 met.1 refl

  -- 14 of the t that is sent
  pub t_norm_is : t_norm X M.t ≡ t_norm X (F.t X s)
  unfolding t_norm
  t_norm_is = ap (λ es. require (dec_le (norm_of es) P.bound_B) (refused 14 0)) same-t

  -- 15 of the g that is sent
  pub g_norm_is : g_norm X M.g ≡ g_norm X (F.g X s)
  unfolding g_norm
  g_norm_is = ap (λ es. require (dec_le (norm_of es) P.bound_C) (refused 15 0)) same-g

  -- 16 of the h that is sent
  pub h_norm_is : h_norm X M.h ≡ h_norm X (F.h X s)
  unfolding h_norm
  h_norm_is = ap (λ es. require (dec_le (norm_of es) P.bound_D) (refused 16 0)) same-h

  -- u1 is that of the digits that are sent
  pub check_28-fine : check_28 X M ≡ fine
  unfolding check_28 F.u₁ u₁_of
  check_28-fine = first_fine κ₁ _ (λ k h. require-holds (same (M.u₁ k) (u₁_of X M.t M.g k)) _
      (ap words (agrees.u₁ k h ∙ ap₂ (λ x y. F.times X.B x k ⊕ F.times X.C y k) (sym same-t) (sym same-g))))

  -- u2 is that of the digits that are sent
  pub check_29-fine : check_29 X M ≡ fine
  unfolding check_29 F.u₂ u₂_of
  check_29-fine = first_fine κ₂ _ (λ k h. require-holds (same (M.u₂ k) (u₂_of X M.h k)) _ (ap words (agrees.u₂ k h ∙ ap (λ x. F.times X.D x k) (sym same-h))))

-- the checks of a message that agrees with the formulas are the conditions on job, randomness and witness
pub checks_are-conditions : (X : Public) (s : ℕ → ℕ → Element) (M : Message)
    → Agrees X s M
    → t_norm X (F.t X s) ≡ fine
    → g_norm X (F.g X s) ≡ fine
    → h_norm X (F.h X s) ≡ fine
    → checks X M ≡ conditions X s
unfolding checks conditions
checks_are-conditions X s M agrees t-fine g-fine h-fine = (λ i.
    check_21_is X s M agrees i
    then check_22_is X s M agrees i
    then check_23_is X s M agrees i
    then check_24-fine X s M agrees i
    then check_25-fine X s M agrees i
    then check_26-fine X s M agrees i
    then check_27_is X s M agrees i
    then (t_norm_is X s M agrees ∙ t-fine) i
    then (g_norm_is X s M agrees ∙ g-fine) i
    then check_28-fine X s M agrees i
    then (h_norm_is X s M agrees ∙ h-fine) i
    then check_29-fine X s M agrees i
    then accepted (cells_left_is X s M agrees i))
    ∙ simp then_fine
