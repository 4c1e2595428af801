-- Demand 3: of a transcript that the prover makes, handed over word for word, the verifier's verdict is that of the four conditions on job, randomness and witness.
use mathlib.Core.Path.{◌≡◌, ap, ◌∙◌}
use mathlib.Core.List.{List}
use Prim.Native.Nat.{ℕ, ◌≤◌}
use native.Mathlib.Decide.{dec_le}
use lib.ListN.{length, take}
use Rattle.spec_leaves.specs.Answer.{fine, refused, ◌then◌}
use Rattle.spec_protocol.specs.Parameters.{parameters}
use Rattle.spec_protocol.specs.Layout.{span, sections, transcript_sections, scratch_need}
use Rattle.spec_protocol.specs.Views.{public, witness, message}
use Rattle.spec_protocol.specs.Prover.{whole, transcript, prove, prove_output}
use Rattle.spec_protocol.specs.Verifier.{checks, verify_refusal, verify}
use Rattle.spec_protocol.specs.Conditions.{conditions}
use Rattle.spec_protocol.proofs.Fine.{require-holds, then_both_fine}
use Rattle.spec_protocol.proofs.ChecksAreConditions.{checks_are-conditions}
use Rattle.spec_protocol.proofs.ReadBack.{read_back}
use Rattle.spec_protocol.proofs.Accepted.{admitted, short, before-work, in_work, output-made, made-whole, transcript-fine}

-- "Demand 3's transcript is the prover's output to the length needed, handed to the verifier word for word."
pub demand_3 : (J R W scratch output : List ℕ) (lent : ℕ)
    → prove whole J R W (length scratch) (length output) ≡ fine
    → scratch_need (parameters J) ≤ lent
    → verify J R (take (span (transcript_sections (parameters J))) (prove_output whole J R W scratch output)) lent ≡ conditions (public J R) (witness (parameters J) W)
unfolding verify verify_refusal
demand_3 J R W scratch output lent proved enough =
    let P = parameters J in
    let X = public J R in
    let s = witness P W in
    let words = sections (transcript X s) in
    let call = admitted whole J R W (length scratch) (length output) (before-work whole J R W scratch output proved) in
    let norms = short X s (in_work whole J R W scratch output proved) in
    ap (λ T. verify J R T lent) (output-made whole J R W scratch output proved ∙ made-whole X s)
    ∙ ap (λ a. a then checks X (message P words))
    (then_both_fine (then_both_fine (then_both_fine call.job call.randomness) (transcript-fine X s)) (require-holds (dec_le (scratch_need P) lent) (refused 1 (scratch_need P)) enough))
    ∙ checks_are-conditions X s (message P words) (read_back X s) norms.of_t norms.of_g norms.of_h
