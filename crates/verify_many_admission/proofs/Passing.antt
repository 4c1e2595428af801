-- Transcripts that pass 9 and 10.
use mathlib.Core.Path.{◌≡◌, sym, ◌∙◌}
use mathlib.Core.Bool.{true}
use mathlib.Core.List.{List}
use Prim.Native.Nat.{ℕ, ◌<◌}
use Rattle.spec_protocol.specs.Parameters.{Parameters}
use Rattle.spec_protocol.specs.Layout.{transcript_sections}
use Rattle.spec_protocol.specs.Many.{transcript_part}
use Rattle.spec_protocol.specs.Laid.{Laid}
use Rattle.std.specs.Prelude.{Result, is_ok}
use Rattle.spec_leaves.specs.declared.answers.Refusal.{Refusal}
use Rattle.admission_slices.proofs.Ready.{transcript-laid}
use Rattle.verify_many_admission.specs.Admitted.{TranscriptsFound, found_of}
use Rattle.verify_many_admission.proofs.Found.{passing-fine}

-- a transcript that passes has its sections
pub part-laid : (P : Parameters) (count : ℕ) (T : List ℕ) (found : List (Result Unit Refusal)) → TranscriptsFound P count T found
    → (m : ℕ) → m < count → is_ok (found_of found m) ≡ true → Laid (transcript_part P count T m) 0 (transcript_sections P)
part-laid P count T found all m h pass = transcript-laid P (transcript_part P count T m) (sym (all m h) ∙ passing-fine (found_of found m) pass)
