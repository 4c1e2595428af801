-- What the verdict on a transcript stands on, and the eight verdicts.
use Rattle.std.specs.Prelude.{◌≡◌, true, List, ℕ}
use Rattle.math.specs.lists.Table.{padded}
use Rattle.spec_protocol.specs.Parameters.{parameters}
use Rattle.spec_protocol.specs.Many.{transcript_part, passes, part_verdict, row_count, RowsDone, window, AllRowsDone}
use Rattle.api_answers.specs.declared.verdicts.LabradorVerdict.{LabradorVerdict}
use Rattle.api_answers.specs.Calls.{failed_check, labrador_verdict}

-- all rows are done of transcript m, in its window
abbrev pub PartReady : (J : List ℕ) → (count : ℕ) → (T : List ℕ) → (m : ℕ) → (scratch : List ℕ) → Type 0
PartReady J count T m scratch =
    let P = parameters J in
    RowsDone J (transcript_part P count T m) (window P scratch m) (row_count P)

-- where transcript m passes 7 to 10
abbrev pub ReadyIfPassing : (J : List ℕ) → (count : ℕ) → (R T : List ℕ) → (m : ℕ) → (scratch : List ℕ) → Type 0
ReadyIfPassing J count R T m scratch = passes (parameters J) count R T m ≡ true → PartReady J count T m scratch

-- all rows are done of every transcript that passes 7 to 10
abbrev pub RowsReady : (J : List ℕ) → (count : ℕ) → (R T scratch : List ℕ) → Type 0
RowsReady J count R T scratch =
    let P = parameters J in
    AllRowsDone J count (passes P count R T) T scratch (row_count P)

-- "those past the number marked unused_verdict": the number 4294967295 and zeros
abbrev pub unused_verdict : LabradorVerdict
unused_verdict = failed_check 4294967295 0 0 0

-- "gives eight verdicts"
abbrev pub verdicts_of : (J : List ℕ) → (count : ℕ) → (R T : List ℕ) → List LabradorVerdict
verdicts_of J count R T = padded 8 count unused_verdict (λ m. labrador_verdict (part_verdict J count R T m))
