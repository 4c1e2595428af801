-- The answers of the calls on digits that are put together again (document 02, Item 2).
use Rattle.std.specs.Prelude.{◌≡◌, List, ℕ, ◌≤◌}
use Rattle.spec_leaves.specs.Recompose.{recompose, recompose_operands, PartsNeeded, base_found}
use Rattle.api_leaf_answers.specs.declared.answers.WordAnswer.{WordAnswer}
use Rattle.api_leaf_answers.specs.Answers.{word_answer}

-- "A new call gives Σ digit·b^i modulo Q."
abbrev pub recompose_answer : ℕ → List ℕ → WordAnswer
recompose_answer base ds = word_answer (recompose_operands base ds) (recompose base ds)

-- "A second call gives, for a base, the smallest number of parts that leaves nothing of any value": r has that number, where the base is not refused
pub record PartsAnswer (base : ℕ) (r : WordAnswer) : Type 0 where
  pub parts : ℕ
  pub needed : 2 ≤ base → PartsNeeded base parts
  pub answer : r ≡ word_answer (base_found base) parts
