-- The three buffers of a load at exit: its words, then the words beyond; a refusal touches nothing.
use Rattle.std.specs.Prelude.{List, ℕ, length}
use Rattle.spec_protocol.specs.Load.{Given, load_refusal, load_job, load_witness, load_randomness, loaded, drawn, witness_rules}
use Rattle.spec_protocol.specs.Parameters.{Parameters}
use Rattle.spec_protocol.specs.Layout.{sections, witness_sections}

unfoldable pub job_exit : Given → ℕ → (job witness randomness : List ℕ) → List ℕ
job_exit G seed job witness randomness = loaded (load_refusal G (length job) (length witness) (length randomness)) (load_job G seed) job

unfoldable pub witness_exit : Given → ℕ → (job witness randomness : List ℕ) → List ℕ
witness_exit G seed job witness randomness = loaded (load_refusal G (length job) (length witness) (length randomness)) (load_witness G seed) witness

unfoldable pub randomness_exit : Given → ℕ → (job witness randomness : List ℕ) → List ℕ
randomness_exit G seed job witness randomness = loaded (load_refusal G (length job) (length witness) (length randomness)) (load_randomness G seed) randomness

-- the witness's words of parameters, drawn from a state on
abbrev pub witness_drawn : Parameters → ℕ → List ℕ
witness_drawn P x = sections (drawn x witness_rules (witness_sections P))
