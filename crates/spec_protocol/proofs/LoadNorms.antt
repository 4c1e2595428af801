-- Norms of words and digits stay below the largest three-word number where the parameters are within their limits.
use mathlib.Core.Path.{◌≡◌, ap, ◌∙◌}
use mathlib.Core.List.{List, [], ◌∷◌}
use Prim.Native.Nat.{ℕ, ◌+◌, ◌*◌, ◌≤◌, ◌<◌}
use native.Mathlib.Nat.{mul-le-mul}
use native.Mathlib.Decide.{dec_le}
use native.Mathlib.Omega.{arith}
use lib.ListN.{length}
use Rattle.math.specs.lists.Table.{table}
use Rattle.math.specs.lists.Sum.{Σ}
use Rattle.math.proofs.lists.Sum.{Σ-bound}
use Rattle.math.proofs.lists.Table.{length-table}
use Rattle.spec_leaves.specs.Zq.{half_Q, Canonical}
use Rattle.spec_leaves.specs.Norm.{square, norm}
use Rattle.spec_leaves.specs.Answer.{fine, accepted, refused, failed, ◌then◌}
use Rattle.spec_leaves.specs.Rq.{Element, AllCanonical, rzero, digit_row}
use Rattle.spec_leaves.specs.Ring.{words, canonical_mod}
use Rattle.spec_leaves.proofs.Centre.{size-le}
use Rattle.spec_protocol.specs.Parameters.{Parameters}
use Rattle.spec_protocol.specs.Views.{Public}
use Rattle.spec_protocol.specs.Formulas as F
use Rattle.spec_protocol.specs.Formulas.{flat, norm_of, digit_element, rest_element, digits_of, rows, triangle}
use Rattle.spec_protocol.specs.Prover.{whole, witness_norm, t_norm, g_norm, h_norm, work_refusal}
use Rattle.spec_protocol.specs.Conditions.{two_parts_norm, digits_norm, p_norm, digit_sum, cells_left, constant_error, ring_error, conditions}
use Rattle.spec_protocol.proofs.Fine.{require-holds, then_both_fine}
use Rattle.spec_protocol.proofs.Checks.{first_fine}
use Rattle.spec_protocol.proofs.Flat.{length-flat, flat-canonical}
use Rattle.spec_protocol.proofs.Norms.{words-digit, words-rest, digits_of-rows, digits_of-triangle}
use Rattle.spec_protocol.proofs.Corollary.{conditions_of_met}

-- the greatest square of a centre
abbrev most : ℕ
most = half_Q * half_Q

-- the square of a centre
pub square_le : (a : ℕ) → Canonical a → square a ≤ most
square_le a h = mul-le-mul (size-le a h) (size-le a h)

-- the norm of canonical words
pub norm-le : (ws : List ℕ) → AllCanonical ws → norm ws ≤ length ws * most
unfolding norm
norm-le ws h = Σ-bound (length ws) most _ (λ i l. square_le _ (h i l))

-- the norm of an element's words: 64 squares
element-norm-le : (e : Element) → norm (words e) ≤ 64 * most
element-norm-le e = let long = e.1.0 in omega (arith, norm-le (words e) e.1.1)

-- the norms of its digits in up to 32 parts
digits_norm-le : (b parts : ℕ) (e : Element) → parts ≤ 32 → digits_norm b parts e ≤ 2048 * most
digits_norm-le b parts e few =
    let all : digits_norm b parts e ≤ parts * (64 * most) =
    Σ-bound parts (64 * most) (λ q. norm (digit_row b (words e) q)) (λ q h. rw (ap norm (words-digit b e q)) at (element-norm-le (digit_element b e q))) in
    omega arith

-- the norms of its two parts
two_parts_norm-le : (b : ℕ) (e : Element) → two_parts_norm b e ≤ 128 * most
two_parts_norm-le b e =
    let low = rw (ap norm (words-digit b e 0)) at (element-norm-le (digit_element b e 0)) in
    let high = rw (ap norm (words-rest b e)) at (element-norm-le (rest_element b e)) in
    omega arith

-- the norms of the digits of up to 16 rows of up to 16 cells each
cells_norm_le : (b parts r : ℕ) (w : ℕ → ℕ) (f : ℕ → ℕ → Element) → parts ≤ 32 → r ≤ 16 → ((i : ℕ) → i < r → w i ≤ 16)
    → Σ r (λ i. Σ (w i) (λ k. digits_norm b parts (f i k))) ≤ 524288 * most
cells_norm_le b parts r w f few many wide =
    let row : (i : ℕ) → i < r → Σ (w i) (λ k. digits_norm b parts (f i k)) ≤ 32768 * most =
    λ i h. omega (arith, wide i h, Σ-bound (w i) (2048 * most) (λ k. digits_norm b parts (f i k)) (λ k l. digits_norm-le b parts (f i k) few)) in
    omega (arith, Σ-bound r (32768 * most) (λ i. Σ (w i) (λ k. digits_norm b parts (f i k))) row)

-- parameters small enough, and bounds that are the largest three-word number
pub record Ample (P : Parameters) : Type 0 where
  pub n : P.n ≤ 64
  pub r : P.r ≤ 16
  pub κ : P.κ ≤ 16
  pub t₁ : P.t₁ ≤ 32
  pub t₂ : P.t₂ ≤ 32
  pub beta_sq : P.beta_sq ≡ 79228162514264337593543950335
  pub beta_prime_sq : P.beta_prime_sq ≡ 79228162514264337593543950335
  pub bound_A : P.bound_A ≡ 79228162514264337593543950335
  pub bound_B : P.bound_B ≡ 79228162514264337593543950335
  pub bound_C : P.bound_C ≡ 79228162514264337593543950335
  pub bound_D : P.bound_D ≡ 79228162514264337593543950335

module _ (X : Public) (s : ℕ → ℕ → Element) (ample : Ample X.P) where
  open X use {P}
  open P use {n, r, κ, b, t₁, t₂, beta_sq, beta_prime_sq, bound_A, bound_B, bound_C, bound_D}

  witness_norm-fine : witness_norm X s ≡ fine
  unfolding witness_norm
  witness_norm-fine = first_fine r _ (λ i h.
      require-holds (dec_le (norm_of (table n (s i))) bound_A) (refused 13 i)
      (omega (arith, norm-le (flat (table n (s i))) (flat-canonical (table n (s i))), length-flat (table n (s i)), length-table n (s i))))

  t_norm-le : Σ r (λ i. Σ κ (λ k. digits_norm b t₁ (F.t X s i k))) ≤ 524288 * most
  t_norm-le = cells_norm_le b t₁ r (λ i. κ) (F.t X s) ample.t₁ ample.r (λ i h. ample.κ)

  g_norm-le : Σ r (λ i. Σ (i + 1) (λ j. digits_norm b t₂ (F.g X s i j))) ≤ 524288 * most
  g_norm-le = cells_norm_le b t₂ r (λ i. i + 1) (F.g X s) ample.t₂ ample.r (λ i h. omega arith)

  h_norm-le : Σ r (λ i. Σ (i + 1) (λ j. digits_norm b t₁ (F.h X s i j))) ≤ 524288 * most
  h_norm-le = cells_norm_le b t₁ r (λ i. i + 1) (F.h X s) ample.t₁ ample.r (λ i h. omega arith)

  z-norm-le : Σ n (λ m. two_parts_norm b (F.z X s m)) ≤ 131072 * most
  z-norm-le = omega (arith, Σ-bound n (128 * most) (λ m. two_parts_norm b (F.z X s m)) (λ m h. two_parts_norm-le b (F.z X s m)))

  -- 13 to 16 can't happen
  pub work-fine : work_refusal X whole s ≡ fine
  unfolding work_refusal t_norm g_norm h_norm
  work-fine =
      then_both_fine
      (then_both_fine
      (then_both_fine witness_norm-fine
      (require-holds (dec_le (norm_of (digits_of b t₁ (rows r κ (F.t X s)))) bound_B) (refused 14 0) (omega (arith, digits_of-rows b t₁ r κ (F.t X s), t_norm-le))))
      (require-holds (dec_le (norm_of (digits_of b t₂ (triangle r (F.g X s)))) bound_C) (refused 15 0) (omega (arith, digits_of-triangle b t₂ r (F.g X s), g_norm-le))))
      (require-holds (dec_le (norm_of (digits_of b t₁ (triangle r (F.h X s)))) bound_D) (refused 16 0) (omega (arith, digits_of-triangle b t₁ r (F.h X s), h_norm-le)))

  p_norm-le : p_norm X s ≤ 128 * beta_sq
  unfolding p_norm
  p_norm-le = omega (arith, Σ-bound 256 most (λ j. square (F.p X s j)) (λ j h. square_le (F.p X s j) (reduced j)))
    where
      reduced : (j : ℕ) → Canonical (F.p X s j)
      reduced j = unfold F.p in canonical_mod (Σ r (λ i. F.projection X s i j))

  digit_sum-le : digit_sum X s ≤ beta_prime_sq
  unfolding digit_sum
  digit_sum-le = omega (arith, z-norm-le, t_norm-le, g_norm-le, h_norm-le)

  -- of a witness that meets each constraint the four conditions hold: 21 and 23 can't happen
  pub conditions-accepted : ((x : ℕ) → x < P.l → constant_error X s x ≡ 0) → ((k : ℕ) → k < P.K → words (ring_error X s k) ≡ rzero) → conditions X s ≡ accepted (cells_left X s)
  conditions-accepted constants rings =
      conditions_of_met X s constants rings
      ∙ ap (λ a. a then accepted (cells_left X s))
      (then_both_fine
      (require-holds (dec_le (p_norm X s) (128 * beta_sq)) (failed 21 (p_norm X s ∷ 128 * beta_sq ∷ [])) p_norm-le)
      (require-holds (dec_le (digit_sum X s) beta_prime_sq) (failed 23 (digit_sum X s ∷ beta_prime_sq ∷ [])) digit_sum-le))
