-- `check_transcripts` meets its contract. The invariant: what is found of the first m transcripts stands in their places.
use mathlib.Core.Path.{◌≡◌}
use Prim.Native.Nat.{ℕ, ◌≤◌, ◌<◌}
use lib.ListN.{length}
use Rattle.spec_protocol.specs.Layout.{transcript_refusal}
use Rattle.spec_protocol.specs.Many.{transcript_part}
use Rattle.relation_env_params.specs.Parameters.{parameters_of}
use Rattle.spec_leaves.specs.Answer.{of_result}
use Rattle.verify_many_admission.specs.Admitted.{found_of}
use Rattle.verify_many_admission.proofs.parts.check_transcripts.Given as goal

abbrev pub invariant-loop-m : goal.invariant-loop-m
invariant-loop-m l =
    (l.m ≤ l.count)
    × (length l.found ≡ 8)
    × ((k : ℕ) → k < l.m → of_result (found_of l.found k) ≡ transcript_refusal (parameters_of l.params) (transcript_part (parameters_of l.params) l.count l.transcripts k))
