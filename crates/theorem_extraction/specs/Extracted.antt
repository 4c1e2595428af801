-- What a fork at the challenges extracts (T4, (c)).
use Rattle.std.specs.Prelude.{◌≡◌, List, ℕ, ◌<◌}
use Rattle.spec_leaves.specs.Rq.{Element}
use Rattle.spec_protocol.specs.Views.{Public, Message}
use Rattle.spec_protocol.specs.Formulas.{◌⊕◌, ◌⊗◌, dot, left, a_sum, φ_sum, b_sum}
use Rattle.theorem_extraction.specs.Fork.{values, message_of, z_of, ◌⊖◌, base, first, Fork}

module _ {J : List ℕ} (F : Fork J) where
  -- "s_i = (x_i − c_i)^(−1)·(z^(i) − z)"
  unfoldable pub extracted : ℕ → ℕ → Element
  extracted i m = F.inverse i ⊗ (z_of (F.branch (first i)) m ⊖ z_of (F.branch base) m)

-- vectors s of which the t, g and h that were sent and the aggregated constraint are those that an honest prover has
pub record Opens (X : Public) (M : Message) (s : ℕ → ℕ → Element) : Type 0 where
  -- "A·s_i = t_i"
  pub of_t : (i k : ℕ) → i < X.P.r → k < X.P.κ → dot X.P.n (X.A k) (s i) ≡ M.t i k
  -- "g_ij = ⟨s_i,s_j⟩"
  pub of_g : (i j : ℕ) → i < X.P.r → j < X.P.r → M.g i j ≡ dot X.P.n (s i) (s j)
  -- "h_ij = ⟨φ_i,s_j⟩ + ⟨φ_j,s_i⟩"
  pub of_h : (i j : ℕ) → i < X.P.r → j < X.P.r → M.h i j ≡ dot X.P.n (φ_sum X i) (s j) ⊕ dot X.P.n (φ_sum X j) (s i)
  -- "Σ a_ij·⟨s_i,s_j⟩ + Σ⟨φ_i,s_i⟩ = b of the aggregated a, φ, b"
  pub aggregated : left X.P (a_sum X) (φ_sum X) s ≡ b_sum X M.b''

-- (c): the extracted vectors do so for the first transcript of the fork
abbrev pub Extracted : {J : List ℕ} → Fork J → Type 0
Extracted F = Opens (values (F.branch base)) (message_of (F.branch base)) (extracted F)
