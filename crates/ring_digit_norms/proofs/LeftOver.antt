-- What is left of any 64 words after their digits.
use mathlib.Core.Path.{◌≡◌, refl, sym, ◌∙◌, ap}
use mathlib.Core.Bool.{cond}
use mathlib.Core.List.{List}
use Prim.Native.Nat.{ℕ, ◌%◌, ◌≤◌}
use Rattle.math.proofs.lists.Table.{table_ext}
use Rattle.spec_leaves.specs.Zq.{Q}
use Rattle.spec_leaves.specs.Digits.{leftover}
use Rattle.spec_leaves.specs.Rq.{coeff, is_zero, left_row}
use Rattle.ring_rq.specs.Words.{AtMostQ}
use Rattle.spec_leaves.specs.Ring.{words, element}
use Rattle.spec_leaves.proofs.Bridge.{coeff-element}
use Rattle.spec_protocol.specs.Formulas.{nothing_left, one_if_left}
use Rattle.ring_rq_vector.proofs.Rows.{of_word}

-- what is left of a word
left_of-word : (b parts a : ℕ) → a ≤ Q → leftover b parts (a % Q) ≡ leftover b parts a
unfolding leftover
left_of-word b parts a h = of_word (λ x y. leftover b parts x ≡ leftover b parts y) a h (λ x l. refl) refl

-- whether a cell counts, by its words
pub left_of-words : (b parts : ℕ) (a : List ℕ) → AtMostQ a → cond (is_zero (left_row b parts a)) 0 1 ≡ one_if_left b parts (element a)
unfolding nothing_left left_row
left_of-words b parts a f =
    ap (λ l. cond (is_zero l) 0 1)
    (sym
    (table_ext 64 (λ j. leftover b parts (coeff (words (element a)) j)) (λ j. leftover b parts (coeff a j))
    (λ j h. ap (leftover b parts) (coeff-element a j h) ∙ left_of-word b parts (coeff a j) (f j h))))
