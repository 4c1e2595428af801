-- The second part of z against the second digit (document 02, Item 9): the sum with two digits is never larger than that with the whole rest, and where nothing
-- is left after two digits it is the same.
use mathlib.Core.Path.{◌≡◌, sym, ap, subst, ◌∙◌}
use Prim.Native.Nat.{ℕ, ◌+◌, ◌≤◌, ◌<◌}
use native.Mathlib.Nat.{zero-add, le_refl, add-le-add}
use Rattle.math.specs.lists.Table.{table}
use Rattle.math.specs.lists.Sum.{Σ}
use Rattle.math.proofs.lists.Sum.{Σ-le}
use Rattle.math.proofs.lists.Table.{table_ext}
use Rattle.spec_leaves.specs.Zq.{top_Q}
use Rattle.spec_leaves.specs.Norm.{square, norm}
use Rattle.spec_leaves.specs.Digits.{digit, leftover, rest}
use Rattle.spec_leaves.specs.Rq.{Element, coeff, digit_row, rest_row}
use Rattle.spec_leaves.specs.Ring.{words}
use Rattle.spec_leaves.proofs.Bridge.{coeff-canonical}
use Rattle.spec_leaves.proofs.Rest.{rest-is_digit, digit-within-rest}
use Rattle.spec_protocol.specs.Conditions.{two_parts_norm, digits_norm}
use Rattle.spec_protocol.proofs.Norms.{norm-table}

-- two digits are two rows
two-rows : (b : ℕ) (e : Element) → digits_norm b 2 e ≡ norm (digit_row b (words e) 0) + norm (digit_row b (words e) 1)
unfolding Σ
two-rows b e = ap (λ x. x + norm (digit_row b (words e) 1)) (zero-add (norm (digit_row b (words e) 0)))

module _ (b : ℕ) (p : 0 < b) (l : b ≤ top_Q) where
  -- of the second digits and the rest of one element
  second-within : (e : Element) → norm (digit_row b (words e) 1) ≤ norm (rest_row b (words e))
  unfolding digit_row rest_row
  second-within e =
      let second : ℕ → ℕ = λ j. digit b (coeff (words e) j) 1 in
      let rests : ℕ → ℕ = λ j. rest b (coeff (words e) j) in
      let each : Σ 64 (λ j. square (second j)) ≤ Σ 64 (λ j. square (rests j)) = Σ-le 64 _ _ (λ j h. digit-within-rest b (coeff (words e) j) p l (coeff-canonical e j)) in
      subst (λ x. x ≤ norm (table 64 rests)) (sym (norm-table 64 second)) (subst (λ x. Σ 64 (λ j. square (second j)) ≤ x) (sym (norm-table 64 rests)) each)

  -- of one element
  pub two-digits-within : (e : Element) → digits_norm b 2 e ≤ two_parts_norm b e
  two-digits-within e = subst (λ x. x ≤ two_parts_norm b e) (sym (two-rows b e)) (add-le-add (le_refl (norm (digit_row b (words e) 0))) (second-within e))

  -- of z: the sum of check 23 with two digits of z is never larger
  pub two-digits-sum_within : (n : ℕ) (z : ℕ → Element) → Σ n (λ m. digits_norm b 2 (z m)) ≤ Σ n (λ m. two_parts_norm b (z m))
  two-digits-sum_within n z = Σ-le n (λ m. digits_norm b 2 (z m)) (λ m. two_parts_norm b (z m)) (λ m h. two-digits-within (z m))

-- where nothing is left of any coefficient after two digits the two are the same
pub two-digits-same : (b : ℕ) (e : Element) → ((j : ℕ) → j < 64 → leftover b 2 (coeff (words e) j) ≡ 0) → two_parts_norm b e ≡ digits_norm b 2 e
unfolding digit_row rest_row
two-digits-same b e none =
    ap (λ row. norm (digit_row b (words e) 0) + norm row)
    (table_ext 64 (λ j. rest b (coeff (words e) j)) (λ j. digit b (coeff (words e) j) 1) (λ j h. rest-is_digit b (coeff (words e) j) (none j h)))
    ∙ sym (two-rows b e)
