-- The struct of the call as an answer, and what the call does to the list (document 02, Item 8).
use Rattle.std.specs.Prelude.{◌≡◌, List, [], ℕ, zero, suc, ◌≤◌, length}
use Rattle.math.specs.lists.Part.{splice}
use Rattle.spec_leaves.specs.Answer.{Answer, fine, refused, number, place, result_of}
use Rattle.spec_protocol.specs.Parameters.{parameters}
use Rattle.spec_protocol.specs.Views.{public, message}
use Rattle.spec_protocol.specs.Mistyped as M
use Rattle.spec_protocol.specs.Mistyped.{Entry, Listed, mistyped_refusal, mistyped_list, mistyped_scratch, verdict_of, judged, written, entry_words, list_need}
use Rattle.mistyped.specs.declared.answers.MistypedAnswer.{MistypedAnswer}

-- a refusal's number and place, or how many entries there are: "the answer gives how many entries there are"
abbrev pub mistyped_answer : Answer → (entries : ℕ) → MistypedAnswer
mistyped_answer a entries = record { number = number a; place = place a; entries = result_of a entries 0 }

-- what is answered by how many entries there are where check 22 is the failed one
abbrev pub counted_answer : ℕ → MistypedAnswer
counted_answer zero = mistyped_answer (refused 33 0) 0
counted_answer (suc n) = mistyped_answer fine (suc n)

module _ (J R T : List ℕ) where
  -- where check 22 is the failed one, entries are the list that is asked for
  abbrev pub Asked : List Entry → Type 0
  Asked es = number (verdict_of J R T) ≡ 22 → Listed (public J R) (message (parameters J) T) (parameters J).l es

  -- the entries that stand in the list: none on a refusal
  abbrev pub kept : List Entry → List Entry
  kept es = result_of (judged (verdict_of J R T) es) es []

  -- what is judged after the verifier's work, and the list that is left then
  pub record Judged (list list' : List ℕ) (r : MistypedAnswer) : Type 0 where
    pub found : List Entry
    pub asked : Asked found
    pub few : length (kept found) ≤ (parameters J).l
    pub answer : r ≡ mistyped_answer (judged (verdict_of J R T) found) (length found)
    pub words : list' ≡ splice list 0 (entry_words (kept found))

  -- what the work answers, and the list at its end
  pub record Worked (list list' : List ℕ) (r : MistypedAnswer) : Type 0 where
    pub found : List Entry
    pub asked : Asked found
    pub answer : r ≡ mistyped_answer (judged (verdict_of J R T) found) (length found)
    pub words : list' ≡ written (list_need (parameters J)) (kept found) list

-- what the call answers and leaves in the list, with entries that are those asked for where it comes to a list
pub record Mistyped (J R T : List ℕ) (scratch : ℕ) (list list' : List ℕ) (r : MistypedAnswer) : Type 0 where
  pub found : List Entry
  pub asked : mistyped_refusal J R T scratch (length list) ≡ fine → Asked J R T found
  pub answer : r ≡ mistyped_answer (M.mistyped J R T scratch (length list) found) (length found)
  pub words : list' ≡ mistyped_list J R T scratch list found

-- `labrador_mistyped`; names that end in ' are buffers at exit
pub record MistypedCall (J R T scratch list scratch' list' : List ℕ) (r : MistypedAnswer) : Type 0 where
  -- what is answered, and the list at exit
  pub told : Mistyped J R T (length scratch) list list' r
  -- the scratch at exit
  pub scratch_left : scratch' ≡ mistyped_scratch J R T scratch (length list)
