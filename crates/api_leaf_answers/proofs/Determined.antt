-- The contract of the call on the parts that a base needs leaves nothing of its answer open.
use mathlib.Core.Path.{◌≡◌, sym, ap, ◌∙◌}
use mathlib.Core.Bool.{cond}
use Prim.Native.Nat.{ℕ, ◌≤◌, ◌<◌}
use native.Mathlib.Decide.{dec_le}
use native.Mathlib.Omega.{arith}
use borrow.Author.Tests.{lt-ltb}
use lib.Dec.{ltb}
use Rattle.spec_leaves.specs.Zq.{top_Q}
use Rattle.spec_leaves.specs.Answer.{fine, refused}
use Rattle.spec_leaves.specs.Recompose.{base_found}
use Rattle.spec_leaves.proofs.Recompose.{needed_unique}
use Rattle.api_leaf_answers.specs.declared.answers.WordAnswer.{WordAnswer}
use Rattle.api_leaf_answers.specs.Answers.{word_answer}
use Rattle.api_leaf_answers.specs.Recomposed.{PartsAnswer}

-- two answers for one base are equal
pub determined : (base : ℕ) (r s : WordAnswer) → PartsAnswer base r → PartsAnswer base s → r ≡ s
determined base r s x y = x.answer ∙ same (dec_le 2 base) ∙ sym y.answer
  where
    small : base < 2 → (parts : ℕ) → word_answer (base_found base) parts ≡ word_answer (refused 31 0) 0
    small l parts = ap (λ b. word_answer (cond b (refused 31 0) (cond (ltb top_Q base) (refused 31 0) fine)) parts) (lt-ltb base 2 l)

    same : Dec (2 ≤ base) → word_answer (base_found base) x.parts ≡ word_answer (base_found base) y.parts
    same (yes l) = ap (word_answer (base_found base)) (needed_unique base x.parts y.parts (x.needed l) (y.needed l))
    same (no l) = small (omega arith) x.parts ∙ sym (small (omega arith) y.parts)
