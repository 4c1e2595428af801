-- The verifier: verdict and scratch for any slices (document 01, "The verifier's checks, in order").
use Rattle.std.specs.Prelude.{◌≡◌, ℕ, ◌+◌, ◌*◌, ◌%◌, length}
use mathlib.Core.List.{List, [], ◌∷◌, flat_map, List-discrete}
use Rattle.std.proofs.Math.Decide.{dec_le, ℕ_discrete}
use Rattle.math.specs.lists.Table.{table}
use Rattle.math.specs.lists.Sum.{Σ}
use Rattle.spec_leaves.specs.Zq.{Q}
use Rattle.spec_leaves.specs.Norm.{norm}
use Rattle.spec_leaves.specs.Answer.{Answer, accepted, failed, result_of, ◌then◌}
use Rattle.spec_leaves.specs.Rq.{Element, coeff}
use Rattle.spec_leaves.specs.Ring.{words}
use Rattle.spec_protocol.specs.Checks.{require, first}
use Rattle.spec_protocol.specs.Parameters.{parameters}
use Rattle.spec_protocol.specs.Layout.{job_refusal, randomness_refusal, transcript_refusal, scratch_refusal, scratch_need}
use Rattle.spec_protocol.specs.Views.{Public, Message, public, message}
use Rattle.spec_protocol.specs.Formulas.{◌⊕◌, ◌⊗◌, sum, dot, pairs, norm_of, two_parts, t_digits, g_digits, h_digits, a_sum, φ_sum, b_sum, cells_left_of, u₁_of, u₂_of}
use Rattle.spec_protocol.specs.Prover.{t_norm, g_norm, h_norm, zeroed}

-- whether two elements are the same
abbrev pub same : (a b : Element) → Dec (words a ≡ words b)
same a b = List-discrete ℕ_discrete (words a) (words b)

-- an element twice
abbrev pub twice : Element → Element
twice e = e ⊕ e

module _ (X : Public) (M : Message) where
  open X use {P, b₀, A, psi, omega, c}
  open P use {n, r, κ, κ₁, κ₂, l, L, beta_sq, beta_prime_sq}
  open M use {u₁, p, b'', u₂, z, t, g, h}

  -- "21 norm of p above 128·beta_sq (norm and limit given)."
  unfoldable pub check_21 : Answer
  check_21 = let total = norm (table 256 p) in require (dec_le total (128 * beta_sq)) (failed 21 (total ∷ 128 * beta_sq ∷ []))

  -- "22 for some k below" L (document 02, Item 6: "check 22 runs over L"), "the constant coefficient of b''_k is not Σ psi[k][l]·b0[l] + Σ omega[k][j]·p[j] (lowest k, both values)."
  unfoldable pub check_22 : Answer
  check_22 =
      first L (λ k.
      let sent = coeff (words (b'' k)) 0 in
      let computed = (Σ l (λ x. psi k x * b₀ x) + Σ 256 (λ j. omega k j * p j)) % Q in
      require (ℕ_discrete sent computed) (failed 22 (k ∷ sent ∷ computed ∷ [])))

  -- the two parts of an element of z (document 02, Item 9)
  abbrev pub z_parts : Element → List Element
  z_parts = two_parts P.b

  -- "23 digit norms of z with two" parts, "t and h with t1, g with t2 sum above beta_prime_sq (sum and limit)."
  unfoldable pub check_23 : Answer
  check_23 =
      let total = norm_of (flat_map z_parts (table n z)) + norm_of (t_digits X t) + norm_of (g_digits X g) + norm_of (h_digits X h) in
      require (dec_le total beta_prime_sq) (failed 23 (total ∷ beta_prime_sq ∷ []))

  -- "24 A·z is not Σ t_i·c_i."
  unfoldable pub check_24 : Answer
  check_24 = first κ (λ k. require (same (dot n (A k) z) (sum r (λ i. t i k ⊗ c i))) (failed 24 []))

  -- "25 ⟨z,z⟩ is not Σ g_ij·c_i·c_j."
  unfoldable pub check_25 : Answer
  check_25 = require (same (dot n z z) (pairs r (λ i j. g i j ⊗ c i ⊗ c j))) (failed 25 [])

  -- "26 twice Σ⟨φ_i,z⟩·c_i is not Σ h_ij·c_i·c_j."
  unfoldable pub check_26 : Answer
  check_26 = require (same (twice (sum r (λ i. dot n (φ_sum X i) z ⊗ c i))) (pairs r (λ i j. h i j ⊗ c i ⊗ c j))) (failed 26 [])

  -- "27 twice Σ a_ij·g_ij plus Σ h_ii is not twice the aggregated b."
  unfoldable pub check_27 : Answer
  check_27 = require (same (twice (pairs r (λ i j. a_sum X i j ⊗ g i j)) ⊕ sum r (λ i. h i i)) (twice (b_sum X b''))) (failed 27 [])

  -- "28 u1 differs"
  unfoldable pub check_28 : Answer
  check_28 = first κ₁ (λ k. require (same (u₁ k) (u₁_of X t g k)) (failed 28 []))

  -- "29 u2 differs"
  unfoldable pub check_29 : Answer
  check_29 = first κ₂ (λ k. require (same (u₂ k) (u₂_of X h k)) (failed 29 []))

  -- the first check that fails: 21 to 27, "Then 14, 15, 28 u1 differs; 16, 29 u2 differs." Else "an accepted verdict states how many cells" (document 02, Item 5)
  unfoldable pub checks : Answer
  checks =
      check_21
      then check_22
      then check_23
      then check_24
      then check_25
      then check_26
      then check_27
      then t_norm X t
      then g_norm X g
      then check_28
      then h_norm X h
      then check_29
      then accepted (cells_left_of X t g h)

-- "3, 4, 5; 3, 6; 7, 8; 9, 10; 1": "The verifier has no output and no 2."
unfoldable pub verify_refusal : (J R T : List ℕ) → (scratch : ℕ) → Answer
verify_refusal J R T scratch =
    let P = parameters J in
    job_refusal J then randomness_refusal P 7 R then transcript_refusal P T then scratch_refusal P scratch

-- what the verifier answers
unfoldable pub verify : (J R T : List ℕ) → (scratch : ℕ) → Answer
verify J R T scratch = verify_refusal J R T scratch then checks (public J R) (message (parameters J) T)

-- the scratch at exit: "After any later answer scratch is zero to the length needed"
unfoldable pub verify_scratch : (J R T scratch : List ℕ) → List ℕ
verify_scratch J R T scratch = result_of (verify_refusal J R T (length scratch)) (zeroed (scratch_need (parameters J)) scratch) scratch
