-- Demand 3's four conditions, of job, randomness and witness alone (document 01, "What the prover works out", its last two paragraphs).
use Rattle.std.specs.Prelude.{◌≡◌, ◌↔◌, ◌⊎◌, [], ◌∷◌, ℕ, ◌+◌, ◌*◌, ◌%◌, ◌≤◌, ◌<◌}
use Rattle.std.proofs.Math.Decide.{dec_le, ℕ_discrete}
use Rattle.math.specs.lists.Sum.{Σ}
use Rattle.spec_leaves.specs.Zq.{Q, zsub}
use Rattle.spec_leaves.specs.Norm.{square, norm}
use Rattle.spec_leaves.specs.Answer.{Answer, accepted, refused, failed, number, ◌then◌}
use Rattle.spec_leaves.specs.Rq.{Element, coeff, rzero, rsub, digit_row, rest_row}
use Rattle.spec_leaves.specs.Ring.{words, element}
use mathlib.Core.List.{List-discrete}
use Rattle.spec_protocol.specs.Checks.{require, first}
use Rattle.spec_protocol.specs.Views.{Public}
use Rattle.spec_protocol.specs.Formulas.{◌⊗◌, sum, left, one_if_left, t, g, h, z, p, b''}

-- the norms of digit 0 of an element and of the rest together (document 02, Item 9)
abbrev pub two_parts_norm : ℕ → Element → ℕ
two_parts_norm b e = norm (digit_row b (words e) 0) + norm (rest_row b (words e))

-- the norms of an element's digits in a number of parts together
abbrev pub digits_norm : ℕ → ℕ → Element → ℕ
digits_norm b parts e = Σ parts (λ q. norm (digit_row b (words e) q))

module _ (X : Public) (s : ℕ → ℕ → Element) where
  open X use {P, a', φ', b₀, a, φ, b, psi, omega, alpha}
  open P use {n, r, κ, K, l, t₁, t₂, L, beta_sq, beta_prime_sq}

  -- "the norm of p is at most 128·beta_sq"
  unfoldable pub p_norm : ℕ
  p_norm = Σ 256 (λ j. square (p X s j))

  -- "of a constant-term one only coefficient 0 of that; its right side is b or b0. The error is left less right": of constant-term constraint x
  unfoldable pub constant_error : ℕ → ℕ
  constant_error x = zsub (coeff (words (left P (a' x) (φ' x) s)) 0) (b₀ x)

  -- "Σ psi[k][l]·error_l over the constant-term constraints"
  unfoldable pub psi_error : ℕ → ℕ
  psi_error k = Σ l (λ x. psi k x * constant_error x) % Q

  -- "the two values of check 22, with b'' and p by the formulas"
  unfoldable pub sent : ℕ → ℕ
  sent k = coeff (words (b'' X s k)) 0

  unfoldable pub computed : ℕ → ℕ
  computed k = (Σ l (λ x. psi k x * b₀ x) + Σ 256 (λ j. omega k j * p X s j)) % Q

  -- "the sum in check 23": each cell of a triangle once
  unfoldable pub digit_sum : ℕ
  digit_sum =
      Σ n (λ m. two_parts_norm P.b (z X s m))
      + Σ r (λ i. Σ κ (λ k. digits_norm P.b t₁ (t X s i k)))
      + Σ r (λ i. Σ (i + 1) (λ j. digits_norm P.b t₂ (g X s i j)))
      + Σ r (λ i. Σ (i + 1) (λ j. digits_norm P.b t₁ (h X s i j)))

  -- document 02, Item 5: "how many cells of t, g and h together have a coefficient with something left": each cell of a triangle once
  unfoldable pub cells_left : ℕ
  cells_left =
      Σ r (λ i. Σ κ (λ k. one_if_left P.b t₁ (t X s i k)))
      + Σ r (λ i. Σ (i + 1) (λ j. one_if_left P.b t₂ (g X s i j)))
      + Σ r (λ i. Σ (i + 1) (λ j. one_if_left P.b t₁ (h X s i j)))

  -- the error of ring constraint k
  unfoldable pub ring_error : ℕ → Element
  ring_error k = element (rsub (words (left P (a k) (φ k) s)) (words (b k)))

  -- "Σ alpha_k·error_k over the ring constraints"
  unfoldable pub alpha_error : Element
  alpha_error = sum K (λ k. alpha k ⊗ ring_error k)

  -- "A breach is named as 21, 22, 23 or 27. 21 gives that norm and 23 that sum, each with its limit. 22 gives the lowest k whose sum isn't 0"
  unfoldable pub conditions : Answer
  conditions =
      require (dec_le p_norm (128 * beta_sq)) (failed 21 (p_norm ∷ 128 * beta_sq ∷ []))
      then first L (λ k. require (ℕ_discrete (psi_error k) 0) (failed 22 (k ∷ sent k ∷ computed k ∷ [])))
      then require (dec_le digit_sum beta_prime_sq) (failed 23 (digit_sum ∷ beta_prime_sq ∷ []))
      then require (List-discrete ℕ_discrete (words alpha_error) rzero) (failed 27 [])
      then accepted cells_left

  -- "It accepts exactly when: the projection's norm is within its limit; for each psi row the weighted errors of the constant-term constraints sum to zero; the
  -- digit norms together are within their limit; the alpha-weighted errors of the ring constraints sum to zero."
  pub record Held : Type 0 where
    pub projection : p_norm ≤ 128 * beta_sq
    pub psi : (k : ℕ) → k < L → psi_error k ≡ 0
    pub digits : digit_sum ≤ beta_prime_sq
    pub alpha : words alpha_error ≡ rzero

  -- "Otherwise it names the first of these four, in this order, that fails, with its figures": what an answer says of the four
  pub data Named : Answer → Type 0 where
    all_hold : Held → Named (accepted cells_left)
    by_21 : 128 * beta_sq < p_norm → Named (failed 21 (p_norm ∷ 128 * beta_sq ∷ []))
    by_22 : (k : ℕ) → p_norm ≤ 128 * beta_sq → k < L → ((j : ℕ) → j < k → psi_error j ≡ 0) → (psi_error k ≡ 0 → ⊥) → Named (failed 22 (k ∷ sent k ∷ computed k ∷ []))
    by_23 : p_norm ≤ 128 * beta_sq → ((k : ℕ) → k < L → psi_error k ≡ 0) → beta_prime_sq < digit_sum → Named (failed 23 (digit_sum ∷ beta_prime_sq ∷ []))
    by_27 : p_norm ≤ 128 * beta_sq → ((k : ℕ) → k < L → psi_error k ≡ 0) → digit_sum ≤ beta_prime_sq → (words alpha_error ≡ rzero → ⊥) → Named (failed 27 [])

  -- "a constraint is met where it is zero": a witness that meets all constraints
  pub record Meets : Type 0 where
    pub constants : (x : ℕ) → x < l → constant_error x ≡ 0
    pub rings : (k : ℕ) → k < K → words (ring_error k) ≡ rzero

  -- demand 3's sentences, of an answer
  pub record Demand3 (verdict : Answer) : Type 0 where
    -- "It accepts exactly when" the four hold; the acceptance has the number of cells with something left
    pub accepts_exactly_when : (cells : ℕ) → (verdict ≡ accepted cells) ↔ (Held × (cells ≡ cells_left))
    -- "the verifier never refuses it"
    pub never_refuses : (number place : ℕ) → verdict ≡ refused number place → ⊥
    -- "it names the first of these four, in this order, that fails, with its figures, and none of document 01's other checks ever fails"
    pub names_the_first : Named verdict
    -- "A witness that meets all constraints can fail by norm only, the projection's or the digits'."
    pub by_norm_only : Meets → (verdict ≡ accepted cells_left) ⊎ ((number verdict ≡ 21) ⊎ (number verdict ≡ 23))
