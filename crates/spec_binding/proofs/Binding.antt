-- What two openings of one commitment give away (document 02, Item 13), over the accepted verdict as the definitions have it.
use mathlib.Core.Path.{◌≡◌, sym, ap, ◌∙◌}
use mathlib.Core.List.{List, [], ◌∷◌, flat_map}
use Prim.Native.Nat.{ℕ, ◌+◌, ◌*◌, ◌≤◌, ◌<◌}
use native.Mathlib.Decide.{dec_le}
use native.Mathlib.Omega.{arith}
use lib.ListN.{length, length-append}
use Rattle.math.specs.lists.Table.{table}
use Rattle.math.proofs.lists.Table.{length-table}
use Rattle.math.proofs.lists.Part.{length_flat_map}
use Rattle.spec_leaves.specs.Answer.{failed}
use Rattle.spec_leaves.specs.Rq.{Element}
use Rattle.spec_leaves.specs.Ring.{words}
use Rattle.spec_leaves.proofs.RqRing.{words_path}
use Rattle.spec_protocol.specs.Checks.{require}
use Rattle.spec_protocol.specs.Parameters.{parameters}
use Rattle.spec_protocol.specs.Views.{Public, public, Message}
use Rattle.spec_protocol.specs.Formulas.{norm_of, digit_element, digits_of, rows, triangle, times, t_digits, g_digits, h_digits, u₁_of, u₂_of}
use Rattle.spec_protocol.specs.Verifier.{same, z_parts, check_23, check_28, check_29}
use Rattle.spec_protocol.proofs.Fine.{required, failed_not-fine}
use Rattle.spec_protocol.proofs.First.{first-each}
use Rattle.spec_protocol.proofs.Flat.{length-rows, length-triangle}
use Rattle.spec_protocol.proofs.Norms.{norm_of_additive}
use Rattle.spec_binding.specs.Openings.{columns_B, columns_C, columns_D, B_beside_C, sent, opening_1, opening_2, EqualU1, EqualU2, GivenAway1, GivenAway2, Accepted}
use Rattle.spec_protocol.proofs.Acceptance.{Passed, accepted-passes}
use Rattle.spec_binding.proofs.Row.{times-beside}
use Rattle.spec_binding.proofs.Kernel.{short_kernel}

-- the number of digits of cells
length_digits : (b parts : ℕ) (cells : List Element) → length (digits_of b parts cells) ≡ parts * length cells
unfolding digits_of
length_digits b parts cells = length_flat_map (λ e. table parts (digit_element b e)) parts (λ e. length-table parts (digit_element b e)) cells

-- what an acceptance says of the norms and of the commitments
module _ (X : Public) (M : Message) (cells : ℕ) (passed : Passed X M cells) where
  open X use {P}

  -- the digits' norms are within the limit
  digits-within : norm_of (t_digits X M.t) + norm_of (g_digits X M.g) + norm_of (h_digits X M.h) ≤ P.beta_prime_sq
  unfolding check_23
  digits-within =
      let total = norm_of (flat_map (z_parts X M) (table P.n M.z)) + norm_of (t_digits X M.t) + norm_of (g_digits X M.g) + norm_of (h_digits X M.h) in
      let l : total ≤ P.beta_prime_sq = required (dec_le total P.beta_prime_sq) (failed 23 (total ∷ P.beta_prime_sq ∷ [])) (failed_not-fine 23 (total ∷ P.beta_prime_sq ∷ []))
      passed.norm_sum in
      omega arith

  -- u1 is the commitment to the digits of t and g, u2 that to those of h
  commits_1 : (k : ℕ) → k < P.κ₁ → M.u₁ k ≡ u₁_of X M.t M.g k
  unfolding check_28
  commits_1 k l =
      let test : (k : ℕ) → Dec (words (M.u₁ k) ≡ words (u₁_of X M.t M.g k)) = λ k. same (M.u₁ k) (u₁_of X M.t M.g k) in
      words_path (M.u₁ k) (u₁_of X M.t M.g k)
      (required (test k) (failed 28 []) (failed_not-fine 28 []) (first-each P.κ₁ (λ k. require (test k) (failed 28 [])) passed.first_commitment k l))

  commits_2 : (k : ℕ) → k < P.κ₂ → M.u₂ k ≡ u₂_of X M.h k
  unfolding check_29
  commits_2 k l =
      let test : (k : ℕ) → Dec (words (M.u₂ k) ≡ words (u₂_of X M.h k)) = λ k. same (M.u₂ k) (u₂_of X M.h k) in
      words_path (M.u₂ k) (u₂_of X M.h k) (required (test k) (failed 29 []) (failed_not-fine 29 []) (first-each P.κ₂ (λ k. require (test k) (failed 29 [])) passed.second_commitment k l))

-- an accepted transcript's openings
module _ (J X : List ℕ) (cells : ℕ) (a : Accepted J X cells) where
  pub found : Passed (public J a.randomness) (sent J X) cells
  found = accepted-passes J a.randomness X a.scratch cells a.verdict

  -- an opening has as many digits as the matrix has columns
  pub length-t : length (t_digits (public J []) (sent J X).t) ≡ columns_B J
  length-t =
      let P = parameters J in
      length_digits P.b P.t₁ (rows P.r P.κ (sent J X).t) ∙ ap (λ n. P.t₁ * n) (length-rows P.r (sent J X).t P.κ) ∙ omega arith

  length_1 : length (opening_1 J X) ≡ columns_B J + columns_C J
  unfolding opening_1
  length_1 =
      let P = parameters J in
      let g = length_digits P.b P.t₂ (triangle P.r (sent J X).g) ∙ ap (λ n. P.t₂ * n) (length-triangle P.r (sent J X).g) in
      length-append (t_digits (public J []) (sent J X).t) (g_digits (public J []) (sent J X).g) ∙ omega (arith, length-t, g)

  length_2 : length (opening_2 J X) ≡ columns_D J
  unfolding opening_2
  length_2 =
      let P = parameters J in
      length_digits P.b P.t₁ (triangle P.r (sent J X).h) ∙ ap (λ n. P.t₁ * n) (length-triangle P.r (sent J X).h) ∙ omega arith

  -- the matrix takes the opening to what is sent
  opens_1 : (k : ℕ) → k < (parameters J).κ₁ → times (B_beside_C J) (opening_1 J X) k ≡ (sent J X).u₁ k
  unfolding opening_1 u₁_of
  opens_1 k l =
      times-beside (columns_B J) (public J []).B (public J []).C (t_digits (public J []) (sent J X).t) (g_digits (public J []) (sent J X).g) k length-t
      ∙ sym (commits_1 (public J a.randomness) (sent J X) cells found k l)

  opens_2 : (k : ℕ) → k < (parameters J).κ₂ → times (public J []).D (opening_2 J X) k ≡ (sent J X).u₂ k
  unfolding opening_2 u₂_of
  opens_2 k l = sym (commits_2 (public J a.randomness) (sent J X) cells found k l)

  -- its norm is within the limit
  within_1 : norm_of (opening_1 J X) ≤ (parameters J).beta_prime_sq
  unfolding opening_1
  within_1 = omega (arith, norm_of_additive.joined (t_digits (public J []) (sent J X).t) (g_digits (public J []) (sent J X).g), digits-within (public J a.randomness) (sent J X) cells found)

  within_2 : norm_of (opening_2 J X) ≤ (parameters J).beta_prime_sq
  unfolding opening_2
  within_2 = omega (arith, digits-within (public J a.randomness) (sent J X) cells found)

-- two transcripts accepted under the same job
module _ (J X Y : List ℕ) (cells cells' : ℕ) (a : Accepted J X cells) (a' : Accepted J Y cells') where
  -- "their u1 is equal, and their digits of t and g are not all equal. Then the difference of those digits is a nonzero vector that B and C side by side send
  -- to zero, and its squared norm is at most four times beta_prime_sq."
  pub binding_1 : EqualU1 J X Y → (opening_1 J X ≡ opening_1 J Y → ⊥) → GivenAway1 J X Y
  binding_1 equal differ =
      short_kernel (B_beside_C J) (parameters J).κ₁ (columns_B J + columns_C J) (parameters J).beta_prime_sq (opening_1 J X) (opening_1 J Y)
      (length_1 J X cells a)
      (length_1 J Y cells' a')
      differ
      (λ k l. opens_1 J X cells a k l ∙ equal k l ∙ sym (opens_1 J Y cells' a' k l))
      (within_1 J X cells a)
      (within_1 J Y cells' a')

  -- "The like holds for equal u2, the digits of h and D."
  pub binding_2 : EqualU2 J X Y → (opening_2 J X ≡ opening_2 J Y → ⊥) → GivenAway2 J X Y
  binding_2 equal differ =
      short_kernel (public J []).D (parameters J).κ₂ (columns_D J) (parameters J).beta_prime_sq (opening_2 J X) (opening_2 J Y)
      (length_2 J X cells a)
      (length_2 J Y cells' a')
      differ
      (λ k l. opens_2 J X cells a k l ∙ equal k l ∙ sym (opens_2 J Y cells' a' k l))
      (within_2 J X cells a)
      (within_2 J Y cells' a')
