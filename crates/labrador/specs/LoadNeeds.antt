-- The lengths that a load needs, or the refusal of its parameters with zeros.
use Rattle.spec_leaves.specs.Answer.{number, place, result_of}
use Rattle.spec_protocol.specs.Load.{Given, needs_refusal, job_need, witness_need, randomness_need}
use Rattle.labrador.specs.declared.loads.LabradorLoadNeed.{LabradorLoadNeed}

abbrev pub labrador_load_need : Given → LabradorLoadNeed
labrador_load_need G =
    let a = needs_refusal G in
    record {
      number = number a;
      place = place a;
      job = result_of a (job_need G) 0;
      witness = result_of a (witness_need G) 0;
      randomness = result_of a (randomness_need G) 0;
    }
