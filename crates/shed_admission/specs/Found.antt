-- What the tests of the slices and buffers answer, by the numbers of words that there should be.
use Rattle.std.specs.Prelude.{List, [], ◌∷◌, ℕ}
use Rattle.spec_leaves.specs.Answer.{Answer, ◌then◌}
use Rattle.spec_protocol.specs.Parameters.{Parameters}
use Rattle.spec_protocol.specs.Layout.{canonical, layout, ranged, scratch_refusal}
use Rattle.admission_buffers.specs.Lengths.{short_output}

-- one section of so many canonical words: its layout and its words
unfoldable pub one_refusal : (number word_number count : ℕ) → List ℕ → Answer
one_refusal number word_number count words = layout number words 0 (canonical count ∷ []) then ranged word_number words 0 (canonical count ∷ [])

-- "11 and 12 on its vectors, 1, 2"
unfoldable pub lent : Parameters → (count : ℕ) → (S : List ℕ) → (scratch need output : ℕ) → Answer
lent P count S scratch need output = one_refusal 11 12 count S then scratch_refusal P scratch then short_output need output

-- "7 and 8 on the run's projection words", then those
unfoldable pub given : Parameters → (matrices : ℕ) → (Π : List ℕ) → (count : ℕ) → (S : List ℕ) → (scratch output : ℕ) → Answer
given P matrices Π count S scratch output = one_refusal 7 8 matrices Π then lent P count S scratch 257 output
