-- The lengths that a load needs, of what is found of its parameters.
use Rattle.std.proofs.Common.{◌≡◌, ap, subst, ◌∙◌}
use Rattle.spec_leaves.specs.declared.answers.Refusal.{Refusal}
use Rattle.spec_leaves.specs.Answer.{Answer, fine, of_refusal, number, place, result_of}
use Rattle.spec_protocol.specs.Parameters.{Parameters}
use Rattle.spec_protocol.specs.Load.{Given, load_parameters, needs_refusal, job_need, witness_need, randomness_need}
use Rattle.admission_slices.proofs.Fit.{refusal_none}
use Rattle.load_needs.specs.declared.Needs.{Needs}
use Rattle.load_needs.specs.Given.{Lengths}
use Rattle.api_answers.specs.declared.verdicts.LabradorAnswer.{LabradorAnswer}
use Rattle.api_answers.specs.Calls.{labrador_answer}
use Rattle.labrador.specs.declared.loads.LabradorLoadNeed.{LabradorLoadNeed}
use Rattle.labrador.specs.LoadNeeds.{labrador_load_need}

module _ (G : Given) where
  -- the needs by what is answered of the parameters
  needs_by : Answer → LabradorLoadNeed
  needs_by a = record { number = number a; place = place a; job = result_of a (job_need G) 0; witness = result_of a (witness_need G) 0; randomness = result_of a (randomness_need G) 0 }

  pub load_refused : (r : Refusal) {a : LabradorAnswer} → of_refusal r ≡ needs_refusal G → a ≡ labrador_answer (of_refusal r)
      → record { number = a.number; place = a.place; job = 0; witness = 0; randomness = 0 } ≡ labrador_load_need G
  unfolding needs_by
  load_refused r e h =
      (λ i. record {
        number = (h i).number;
        place = (h i).place;
        job = refusal_none r (job_need G) 0 i;
        witness = refusal_none r (witness_need G) 0 i;
        randomness = refusal_none r (randomness_need G) 0 i;
      })
      ∙ ap needs_by e

  pub load_lengths : (P : Parameters) (n : Needs) → fine ≡ needs_refusal G → P ≡ load_parameters G → Lengths P n
      → record { number = 0; place = 0; job = n.job; witness = n.witness; randomness = n.randomness } ≡ labrador_load_need G
  unfolding needs_by
  load_lengths P n e same h =
      let l : Lengths (load_parameters G) n = subst (λ P. Lengths P n) same h in
      (λ i. record { number = 0; place = 0; job = l.job i; witness = l.witness i; randomness = l.randomness i }) ∙ ap needs_by e
