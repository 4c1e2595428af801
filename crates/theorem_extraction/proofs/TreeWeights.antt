-- Vectors s that meet the aggregated constraints of two transcripts, at weights that differ in one entry by a unit.
use mathlib.Core.Path.{◌≡◌, sym, ap, ap₂, ◌∙◌}
use mathlib.Core.List.{List}
use Prim.Native.Nat.{ℕ, ◌<◌}
use native.Mathlib.Nat.{mod-eq_of_lt}
use Rattle.math.proofs.algebra.Ring.{eq_of_sub_nil}
use Rattle.spec_leaves.specs.Zq.{Canonical}
use Rattle.spec_leaves.specs.Rq.{Element, rzero}
use Rattle.spec_leaves.specs.Ring.{Residue, residue, canonical_mod, RqOps, ZqOps, words}
use Rattle.spec_leaves.proofs.ZqRing.{zq_ring}
use Rattle.spec_leaves.proofs.RqRing.{rq_ring}
use Rattle.spec_leaves.proofs.Bridge.{words-nil}
use Rattle.spec_protocol.specs.Parameters.{parameters}
use Rattle.spec_protocol.specs.Formulas as F
use Rattle.spec_protocol.specs.Conditions.{constant_error, ring_error}
use Rattle.spec_protocol.proofs.PsiRows.{◌+Q◌}
use Rattle.spec_binding.proofs.Binding.{found}
use Rattle.theorem_extraction.specs.Fork.{Branch, values, message_of, ◌⊖◌}
use Rattle.theorem_extraction.specs.Tree.{SameRows, AtAlpha, AtBeta, SameProjection, AtPsi, AtOmega}
use Rattle.theorem_extraction.proofs.TreeSums.{ZeroWhere, zero_where}
use Rattle.theorem_extraction.proofs.TreeErrors.{row_error, projection_error, aggregated_errors, constant_errors}
use Rattle.theorem_extraction.proofs.TreeSame.{b''-same, p-same, constant_error-same, ring_error-same}
use Rattle.theorem_extraction.proofs.TreeForks.{MeetsSum}
use Rattle.theorem_extraction.proofs.TreeRange.{sent-p}

-- canonical values with the same residue are the same
same-canonical : (a b : ℕ) → Canonical a → Canonical b → residue a ≡ residue b → a ≡ b
same-canonical a b h k e = sym (mod-eq_of_lt h) ∙ ap (λ (x : Residue). x.0) e ∙ mod-eq_of_lt k

module _ {J : List ℕ} (X Y : Branch J) (s : ℕ → ℕ → Element) where
  open parameters J use {K, l, L}

  -- the rows' errors in both
  same-row_errors : SameRows X Y → (k : ℕ) → k < L → row_error (values X) (message_of X) s k ≡ row_error (values Y) (message_of Y) s k
  unfolding row_error
  same-row_errors same k h = ap₂ (λ a b. a ⊖ b) (b''-same X Y s same.same_Π k (same.same_psi k h) (same.same_omega k h)) (same.same_b'' k h)

  -- s meets the aggregated constraints of both, and their rows are the same
  aggregated_zero : SameRows X Y → MeetsSum X s → MeetsSum Y s
      → ZeroWhere RqOps rq_ring K L (values X).alpha (values Y).alpha (ring_error (values X) s) (values X).beta (values Y).beta (row_error (values X) (message_of X) s)
  aggregated_zero rows met met' =
      zero_where RqOps rq_ring K L
      (values X).alpha (values Y).alpha (ring_error (values X) s) (ring_error (values Y) s)
      (values X).beta (values Y).beta (row_error (values X) (message_of X) s) (row_error (values Y) (message_of Y) s)
      (λ k h. ring_error-same X Y s k) (same-row_errors rows)
      (aggregated_errors (values X) (message_of X) s met) (aggregated_errors (values Y) (message_of Y) s met')

  -- "two choices that differ in one alpha_k by a unit give ring-error_k = 0"
  pub ring_met : (k : ℕ) → k < K → AtAlpha X Y k → MeetsSum X s → MeetsSum Y s → words (ring_error (values X) s k) ≡ rzero
  ring_met k h at met met' = ap words ((aggregated_zero at.rows met met').first_differ k h at.alphas at.betas) ∙ words-nil

  -- "in one beta_k give b''_k by the formula"
  pub row_met : (k : ℕ) → k < L → AtBeta X Y k → MeetsSum X s → MeetsSum Y s → F.b'' (values X) s k ≡ (message_of X).b'' k
  unfolding row_error
  row_met k h at met met' = eq_of_sub_nil RqOps rq_ring (F.b'' (values X) s k) ((message_of X).b'' k) ((aggregated_zero at.rows met met').second_differ k h at.alphas at.betas)

  -- p's errors in both
  same-projection_errors : SameProjection X Y → (j : ℕ) → j < 256 → projection_error (values X) (message_of X) s j ≡ projection_error (values Y) (message_of Y) s j
  unfolding projection_error
  same-projection_errors same j h = ap₂ (λ a b. residue a +Q ZqOps.neg (residue b)) (p-same X Y s same.same_Π j h) (same.same_p j h)

  -- row k of b'' of both is that of s
  module _ (k : ℕ) (h : k < L) (row : F.b'' (values X) s k ≡ (message_of X).b'' k) (row' : F.b'' (values Y) s k ≡ (message_of Y).b'' k) where
    -- and they have the same Π and p
    constants_zero : SameProjection X Y
        → ZeroWhere ZqOps zq_ring l 256
        (λ x. residue ((values X).psi k x)) (λ x. residue ((values Y).psi k x)) (λ x. residue (constant_error (values X) s x))
        (λ j. residue ((values X).omega k j)) (λ j. residue ((values Y).omega k j)) (projection_error (values X) (message_of X) s)
    constants_zero same =
        zero_where ZqOps zq_ring l 256
        (λ x. residue ((values X).psi k x)) (λ x. residue ((values Y).psi k x)) (λ x. residue (constant_error (values X) s x)) (λ x. residue (constant_error (values Y) s x))
        (λ j. residue ((values X).omega k j)) (λ j. residue ((values Y).omega k j)) (projection_error (values X) (message_of X) s) (projection_error (values Y) (message_of Y) s)
        (λ x b. ap residue (constant_error-same X Y s x)) (same-projection_errors same)
        (constant_errors (values X) (message_of X) s (found J X.transcript 0 X.accepted).constant_terms k h row)
        (constant_errors (values Y) (message_of Y) s (found J Y.transcript 0 Y.accepted).constant_terms k h row')

    -- "rows (psi, omega) that differ in one entry by a unit give constant-error_x = 0"
    pub constant_met : (x : ℕ) → x < l → AtPsi X Y k x → constant_error (values X) s x ≡ 0
    unfolding constant_error
    constant_met x b at =
        same-canonical (constant_error (values X) s x) 0 (canonical_mod _) (canonical_mod 0) ((constants_zero at.projection).first_differ x b at.psis (λ j m. ap residue (at.omegas j m)))

    -- "and p_j = (Π s)_j"
    pub projection_met : (j : ℕ) → j < 256 → AtOmega X Y k j → F.p (values X) s j ≡ (message_of X).p j
    unfolding F.p projection_error
    projection_met j b at =
        same-canonical (F.p (values X) s j) ((message_of X).p j) (canonical_mod _) (sent-p X j b)
        (eq_of_sub_nil ZqOps zq_ring (residue (F.p (values X) s j)) (residue ((message_of X).p j)) ((constants_zero at.projection).second_differ j b (λ x m. ap residue (at.psis x m)) at.omegas))
