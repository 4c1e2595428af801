-- What the definitions say of document 01's example.
use mathlib.Core.Path.{◌≡◌, refl}
use mathlib.Core.List.{[], ◌∷◌}
use Rattle.zq_lines_text.specs.Text.{all_digits, value_after, decimal_in, decimal}
use Rattle.zq_lines_text.specs.Line.{before_space, after_space, parse, text, answer_to}

-- "Input `4294967294 2` prints `4294967294 2 1 4294967293 -1`."
pub example
    : answer_to (52 ∷ 50 ∷ 57 ∷ 52 ∷ 57 ∷ 54 ∷ 55 ∷ 50 ∷ 57 ∷ 52 ∷ 32 ∷ 50 ∷ [])
    ≡ 52 ∷ 50 ∷ 57 ∷ 52 ∷ 57 ∷ 54 ∷ 55 ∷ 50 ∷ 57 ∷ 52 ∷ 32 ∷ 50 ∷ 32 ∷ 49 ∷ 32 ∷ 52 ∷ 50 ∷ 57 ∷ 52 ∷ 57 ∷ 54 ∷ 55 ∷ 50 ∷ 57 ∷ 51 ∷ 32 ∷ 45 ∷ 49 ∷ []
unfolding parse text before_space after_space all_digits value_after decimal decimal_in
example = refl
