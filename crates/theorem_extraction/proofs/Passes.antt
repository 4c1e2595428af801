-- What 24 to 27 say of an accepted transcript, as equations.
use mathlib.Core.Path.{◌≡◌}
use mathlib.Core.List.{List, []}
use Prim.Native.Nat.{ℕ, ◌<◌}
use Rattle.spec_leaves.specs.Answer.{failed}
use Rattle.spec_leaves.specs.Ring.{words}
use Rattle.spec_leaves.proofs.RqRing.{words_path}
use Rattle.spec_protocol.specs.Checks.{require}
use Rattle.spec_protocol.specs.Parameters.{parameters}
use Rattle.spec_protocol.specs.Formulas.{◌⊕◌, ◌⊗◌, sum, dot, pairs, a_sum, φ_sum, b_sum}
use Rattle.spec_protocol.specs.Verifier.{same, twice, check_24, check_25, check_26, check_27}
use Rattle.spec_protocol.proofs.Fine.{required, failed_not-fine}
use Rattle.spec_protocol.proofs.First.{first-each}
use Rattle.spec_protocol.proofs.Acceptance.{Passed}
use Rattle.spec_binding.proofs.Binding.{found}
use Rattle.theorem_extraction.specs.Fork.{Branch, values, message_of}

module _ {J : List ℕ} (X : Branch J) where
  open parameters J use {n, r, κ}
  open values X use {A, c}
  open message_of X use {z, t, g, h, b''}

  passes : Passed (values X) (message_of X) 0
  passes = found J X.transcript 0 X.accepted

  -- 24: A·z = Σ t_i·c_i
  pub t-holds : (k : ℕ) → k < κ → dot n (A k) z ≡ sum r (λ i. t i k ⊗ c i)
  unfolding check_24
  t-holds k l =
      let test : (k : ℕ) → Dec (words (dot n (A k) z) ≡ words (sum r (λ i. t i k ⊗ c i))) = λ k. same (dot n (A k) z) (sum r (λ i. t i k ⊗ c i)) in
      words_path (dot n (A k) z) (sum r (λ i. t i k ⊗ c i)) (required (test k) (failed 24 []) (failed_not-fine 24 []) (first-each κ (λ k. require (test k) (failed 24 [])) passes.t-relation k l))

  -- 25: ⟨z,z⟩ = Σ g_ij·c_i·c_j
  pub g-holds : dot n z z ≡ pairs r (λ i j. g i j ⊗ c i ⊗ c j)
  unfolding check_25
  g-holds =
      let right = pairs r (λ i j. g i j ⊗ c i ⊗ c j) in
      words_path (dot n z z) right (required (same (dot n z z) right) (failed 25 []) (failed_not-fine 25 []) passes.g-relation)

  -- 26: twice Σ⟨φ_i,z⟩·c_i = Σ h_ij·c_i·c_j
  pub h-holds : twice (sum r (λ i. dot n (φ_sum (values X) i) z ⊗ c i)) ≡ pairs r (λ i j. h i j ⊗ c i ⊗ c j)
  unfolding check_26
  h-holds =
      let left = twice (sum r (λ i. dot n (φ_sum (values X) i) z ⊗ c i)) in
      let right = pairs r (λ i j. h i j ⊗ c i ⊗ c j) in
      words_path left right (required (same left right) (failed 26 []) (failed_not-fine 26 []) passes.h-relation)

  -- 27: twice Σ a_ij·g_ij plus Σ h_ii is twice the aggregated b
  pub aggregated-holds : twice (pairs r (λ i j. a_sum (values X) i j ⊗ g i j)) ⊕ sum r (λ i. h i i) ≡ twice (b_sum (values X) b'')
  unfolding check_27
  aggregated-holds =
      let left = twice (pairs r (λ i j. a_sum (values X) i j ⊗ g i j)) ⊕ sum r (λ i. h i i) in
      let right = twice (b_sum (values X) b'') in
      words_path left right (required (same left right) (failed 27 []) (failed_not-fine 27 []) passes.aggregated)
