-- What is drawn and worked out, put together: the words of a load.
use mathlib.Core.Path.{◌≡◌, sym, ap, ap₂, subst, ◌∙◌}
use mathlib.Core.List.{List}
use Prim.Native.Nat.{ℕ, ◌≤◌, ◌<◌, ◌^◌}
use lib.ListN.{length}
use Rattle.math.specs.lists.Part.{splice}
use Rattle.math.proofs.lists.Splice.{length-splice}
use Rattle.spec_protocol.specs.Parameters.{Parameters}
use Rattle.spec_protocol.specs.Layout.{span, sections, witness_sections, randomness_sections}
use Rattle.spec_protocol.specs.Load.{Given, load_parameters, drawn, after, witness_rules, randomness_rules, after_job, load_job}
use Rattle.spec_protocol.specs.Load.{load_witness, load_randomness, blank_job, job_need, witness_need, randomness_need}
use Rattle.spec_protocol.proofs.Sections.{length-sections}
use Rattle.spec_protocol.proofs.LoadJob.{whole_filled, job-made, job-made_filled, witness_filled, randomness_filled}
use Rattle.load.specs.Sums.{Blank, sums_of}
use Rattle.load.proofs.Finish.{finished}

-- room for the witness, of a buffer that was written
pub room_unchanged : (P Q : Parameters) (l now new : List ℕ) (at : ℕ) → P ≡ Q → now ≡ splice l at new → span (witness_sections Q) ≤ length l → span (witness_sections P) ≤ length now
room_unchanged P Q l now new at same e h = subst (λ P. span (witness_sections P) ≤ length now) (sym same) (subst (λ n. span (witness_sections Q) ≤ n) (sym (ap length e ∙ length-splice l at new)) h)

-- zeros where b0 and b will stand, of parameters and words that are the same
pub blank_unchanged : (P Q : Parameters) (J K : List ℕ) → P ≡ Q → J ≡ K → Blank Q K → Blank P J
blank_unchanged P Q J K same e h = subst (λ P. Blank P J) (sym same) (subst (Blank Q) (sym e) h)

module _ (G : Given) (seed : ℕ) (P : Parameters) where
  pub witness_is : (x : ℕ) (l now : List ℕ) → P ≡ load_parameters G → x ≡ after_job G seed → now ≡ splice l 0 (sections (drawn x witness_rules (witness_sections P)))
      → now ≡ splice l 0 (load_witness G seed)
  unfolding load_witness
  witness_is x l now same e h = h ∙ ap₂ (λ y Q. splice l 0 (sections (drawn y witness_rules (witness_sections Q)))) e same

  pub randomness_is : (x y : ℕ) (l now : List ℕ) → P ≡ load_parameters G → x ≡ after_job G seed → y ≡ after x witness_rules (witness_sections P)
      → now ≡ splice l 0 (sections (drawn y randomness_rules (randomness_sections P))) → now ≡ splice l 0 (load_randomness G seed)
  unfolding load_randomness
  randomness_is x y l now same e f h =
      h ∙ ap₂ (λ y Q. splice l 0 (sections (drawn y randomness_rules (randomness_sections Q)))) (f ∙ ap₂ (λ x Q. after x witness_rules (witness_sections Q)) e same) same

module _ (G : Given) (seed : ℕ) (fits : seed < 2 ^ 32) where
  pub job_is : (job wit : List ℕ) → job_need G ≤ length job → witness_need G ≤ length wit → (P : Parameters) (J W now : List ℕ) → P ≡ load_parameters G
      → J ≡ splice job 0 (blank_job G seed) → W ≡ splice wit 0 (load_witness G seed) → now ≡ sums_of P J W → now ≡ splice job 0 (load_job G seed)
  job_is job wit room witness-room P J W now same j w h =
      h ∙ (λ i. sums_of (same i) (j i) (w i)) ∙ finished G seed fits job wit room witness-room

  -- the lengths of a load's words
  pub job-length : length (load_job G seed) ≡ job_need G
  unfolding load_job drawn
  job-length = length-sections (whole_filled G (job-made G seed fits) (job-made_filled G seed fits))

  pub witness-length : length (load_witness G seed) ≡ witness_need G
  unfolding load_witness
  witness-length = length-sections (witness_filled G seed fits)

  pub randomness-length : length (load_randomness G seed) ≡ randomness_need G
  unfolding load_randomness
  randomness-length = length-sections (randomness_filled G seed fits)
