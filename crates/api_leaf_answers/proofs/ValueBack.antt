-- What the two calls on digits say together with the digit rule (document 02, Item 2).
use mathlib.Core.Path.{◌≡◌, sym, ap, ◌∙◌}
use mathlib.Core.Logic.{◌↔◌}
use Prim.Native.Nat.{ℕ, ◌≤◌}
use native.Mathlib.Omega.{arith}
use Rattle.spec_leaves.specs.Zq.{top_Q, Canonical}
use Rattle.spec_leaves.specs.Answer.{fine}
use Rattle.spec_leaves.specs.Digits.{digits, leftover}
use Rattle.spec_leaves.specs.Recompose.{recompose}
use Rattle.spec_leaves.proofs.Recompose.{recompose_iff, digits-fit}
use Rattle.api_leaf_answers.specs.Answers.{word_answer}
use Rattle.api_leaf_answers.specs.Recomposed.{recompose_answer}

-- "For the digits of a value it returns that value exactly when the digit rule had nothing left.": number 0, place 0 and the value
pub value_comes_back : (b n a : ℕ) → 2 ≤ b → b ≤ top_Q → 1 ≤ n → n ≤ 32 → Canonical a → (recompose_answer b (digits b n a) ≡ word_answer fine a) ↔ (leftover b n a ≡ 0)
value_comes_back b n a p l q m h =
    let answer : recompose_answer b (digits b n a) ≡ word_answer fine (recompose b (digits b n a)) = ap (λ x. word_answer x (recompose b (digits b n a))) (digits-fit b n a p l q m h) in
    let both = recompose_iff b n a (omega arith) h in
    (λ e. both.0 (ap (λ r. r.value) (sym answer ∙ e)), λ e. answer ∙ ap (word_answer fine) (both.1 e))
