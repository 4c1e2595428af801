-- Every load is proved and accepted (document 02, Item 1: "so that each constraint is met"), over the structs of `labrador_load`, `labrador_prove` and `labrador_verify`.
use mathlib.Core.Path.{◌≡◌, sym, ap, ◌∙◌}
use mathlib.Core.List.{List}
use Prim.Native.Nat.{ℕ, ◌≤◌, ◌<◌, ◌^◌}
use lib.ListN.{length, take}
use Rattle.spec_leaves.specs.Answer.{fine, accepted}
use Rattle.spec_protocol.specs.Layout.{span, transcript_sections, scratch_need}
use Rattle.spec_protocol.specs.Prover.{whole}
use Rattle.spec_protocol.specs.Load.{Given, load_parameters, load_refusal, job_need, witness_need, randomness_need}
use Rattle.api_answers.specs.declared.verdicts.LabradorAnswer.{LabradorAnswer}
use Rattle.api_answers.specs.declared.verdicts.LabradorVerdict.{LabradorVerdict}
use Rattle.api_answers.specs.Calls.{labrador_answer, labrador_verdict}
use Rattle.api_answers.specs.Whole.{ProveCall, VerifyCall}
use Rattle.load.specs.Call.{LoadCall}
use Rattle.theorem_prove_then_verify.proofs.LoadCalls.{load_cells_left, load_made, load_judged}
use Rattle.spec_protocol.proofs.Refuses.{zero_well, of_load}

-- a load that answers 0; each buffer's needed part is handed on
module _ (G : Given) (seed : ℕ) (fits : seed < 2 ^ 32) (job witness randomness job' witness' randomness' : List ℕ) (l : LabradorAnswer)
    (loaded : LoadCall G seed job witness randomness job' witness' randomness' l) (zero : l.number ≡ 0) where
  abbrev J : List ℕ
  J = take (job_need G) job'

  abbrev W : List ℕ
  W = take (witness_need G) witness'

  abbrev R : List ℕ
  R = take (randomness_need G) randomness'

  made : load_refusal G (length job) (length witness) (length randomness) ≡ fine
  made = zero_well (of_load G (length job) (length witness) (length randomness)) (sym (ap (λ (a : LabradorAnswer). a.number) loaded.answer) ∙ zero)

  -- the prover, lent enough
  module _ (scratch output scratch' output' : List ℕ) (enough : scratch_need (load_parameters G) ≤ length scratch)
      (room : span (transcript_sections (load_parameters G)) ≤ length output) (p : LabradorAnswer) (proved : ProveCall whole J R W scratch output scratch' output' p) where
    pub load_proved_over_exports : p ≡ labrador_answer fine
    load_proved_over_exports =
        proved.answer
        ∙ ap labrador_answer (load_made G seed fits job witness randomness made job' witness' randomness' loaded.job_left loaded.witness_left loaded.randomness_left scratch output enough room)

    -- the verifier on its output's needed part, lent enough: accepted, with the number of cells that have something left
    pub load_accepted_over_exports : (lent lent' : List ℕ) (v : LabradorVerdict) → scratch_need (load_parameters G) ≤ length lent
        → VerifyCall J R (take (span (transcript_sections (load_parameters G))) output') lent lent' v
        → v ≡ labrador_verdict (accepted (load_cells_left G seed))
    load_accepted_over_exports lent lent' v lent-enough judged =
        judged.answer
        ∙ ap labrador_verdict
        (load_judged G seed fits job witness randomness made job' witness' randomness' loaded.job_left loaded.witness_left loaded.randomness_left
        scratch output enough room output' (length lent) lent-enough proved.output_left)
