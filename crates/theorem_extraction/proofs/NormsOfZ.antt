-- The norm of z where check 23 passes (document 02, Item 9).
use mathlib.Core.Path.{◌≡◌, sym, ap, ap₂, ◌∙◌}
use mathlib.Core.List.{List, [], ◌∷◌, flat_map}
use Prim.Native.Nat.{ℕ, ◌+◌, ◌*◌, ◌≤◌, ◌<◌}
use native.Mathlib.Nat.{mul-le-mul_left}
use native.Mathlib.Decide.{dec_le}
use native.Mathlib.Omega.{arith}
use Rattle.math.specs.lists.Table.{table}
use Rattle.math.specs.lists.Sum.{Σ}
use Rattle.math.proofs.lists.Sum.{Σ-le, Σ-add, Σ-mul-left}
use Rattle.spec_leaves.specs.Norm.{square, norm}
use Rattle.spec_leaves.specs.Digits.{digit, rest}
use Rattle.spec_leaves.specs.Answer.{fine, failed, accepted}
use Rattle.spec_leaves.specs.Rq.{Element, coeff, digit_row, rest_row}
use Rattle.spec_leaves.specs.Ring.{words}
use Rattle.spec_leaves.proofs.Bridge.{coeff-canonical}
use Rattle.spec_protocol.specs.Parameters.{parameters}
use Rattle.spec_protocol.specs.Views.{Public, public, Message, message}
use Rattle.spec_protocol.specs.Formulas.{norm_of, t_digits, g_digits, h_digits}
use Rattle.spec_protocol.specs.Conditions.{two_parts_norm}
use Rattle.spec_protocol.specs.Verifier.{verify, z_parts, check_23}
use Rattle.spec_protocol.proofs.Fine.{required, failed_not-fine}
use Rattle.spec_protocol.proofs.Norms.{norm-table, parts_of-table, norm_of-table}
use Rattle.spec_protocol.proofs.Acceptance.{accepted-passes, base_at-least}
use Rattle.spec_binding.proofs.Norm.{norm_of-words}
use Rattle.theorem_extraction.proofs.NormsOfParts.{square_of-parts}

module _ (b : ℕ) (p : 0 < b) where
  -- of an element
  norm_of-parts : (e : Element) → norm (words e) ≤ (1 + b * b) * two_parts_norm b e
  unfolding digit_row rest_row
  norm_of-parts e =
      let zeros : ℕ → ℕ = λ j. digit b (coeff (words e) j) 0 in
      let rests : ℕ → ℕ = λ j. rest b (coeff (words e) j) in
      let each =
      Σ-le 64 (λ j. square (coeff (words e) j)) (λ j. (1 + b * b) * (square (zeros j) + square (rests j))) (λ j l. square_of-parts b p (coeff (words e) j) (coeff-canonical e j)) in
      omega (
        arith,
        norm_of-words e,
        each,
        Σ-mul-left 64 (1 + b * b) (λ j. square (zeros j) + square (rests j)),
        ap (λ x. (1 + b * b) * x) (Σ-add 64 (λ j. square (zeros j)) (λ j. square (rests j)) ∙ ap₂ ◌+◌ (sym (norm-table 64 zeros)) (sym (norm-table 64 rests))),
      )

  -- of a vector
  pub vector_of-parts : (n : ℕ) (z : ℕ → Element) → norm_of (table n z) ≤ (1 + b * b) * Σ n (λ m. two_parts_norm b (z m))
  vector_of-parts n z =
      omega (
        arith,
        norm_of-table n z,
        Σ-le n (λ m. norm (words (z m))) (λ m. (1 + b * b) * two_parts_norm b (z m)) (λ m l. norm_of-parts (z m)),
        Σ-mul-left n (1 + b * b) (λ m. two_parts_norm b (z m)),
      )

-- where check 23 passes the squared norm of z is at most (1 + b²)·beta_prime_sq
pub z-norm_of_check : (X : Public) (M : Message) → 0 < X.P.b → check_23 X M ≡ fine → norm_of (table X.P.n M.z) ≤ (1 + X.P.b * X.P.b) * X.P.beta_prime_sq
unfolding check_23
z-norm_of_check X M p e =
    let b = X.P.b in
    let n = X.P.n in
    let limit = X.P.beta_prime_sq in
    let parts = norm_of (flat_map (z_parts X M) (table n M.z)) in
    let total = parts + norm_of (t_digits X M.t) + norm_of (g_digits X M.g) + norm_of (h_digits X M.h) in
    let l : total ≤ limit = required (dec_le total limit) (failed 23 (total ∷ limit ∷ [])) (failed_not-fine 23 (total ∷ limit ∷ [])) e in
    let k : parts ≤ limit = omega arith in
    omega (arith, vector_of-parts b p n M.z, ap (λ x. (1 + b * b) * x) (parts_of-table b n M.z), mul-le-mul_left (1 + b * b) k)

-- so it is of an accepted transcript
pub z-norm-le : (J R X : List ℕ) (lent cells : ℕ) → verify J R X lent ≡ accepted cells
    → norm_of (table (parameters J).n (message (parameters J) X).z) ≤ (1 + (parameters J).b * (parameters J).b) * (parameters J).beta_prime_sq
z-norm-le J R X lent cells e =
    let base = base_at-least J R X lent cells e in
    z-norm_of_check (public J R) (message (parameters J) X) (omega arith) (accepted-passes J R X lent cells e).norm_sum
