-- The rows of check 22 at the places where the code finds their words.
use mathlib.Core.Path.{◌≡◌, refl, sym, ap, ap₂, subst, ◌∙◌}
use mathlib.Core.List.{List}
use Prim.Native.Nat.{ℕ, ◌+◌, ◌*◌, ◌≤◌, ◌<◌}
use native.Mathlib.Nat.{mod-lt}
use native.Mathlib.Omega.{arith}
use lib.ListN.{length, get_or}
use Rattle.math.proofs.lists.Padded.{padded-below}
use Rattle.spec_leaves.specs.Zq.{Canonical, zsub}
use Rattle.spec_protocol.specs.Parameters.{parameters}
use Rattle.spec_protocol.specs.Layout.{start, job_sections, randomness_sections, transcript_sections}
use Rattle.spec_protocol.specs.Views.{public, message}
use Rattle.spec_protocol.proofs.Mistyped.{rows}
use Rattle.relation_env_params.specs.declared.env_params.EnvironmentParameters.{EnvironmentParameters}
use Rattle.relation_env_params.specs.Parameters.{parameters_of}
use Rattle.verifier_common.specs.Work.{Sent}
use Rattle.verifier_common.proofs.Sent.{reckoned}
use Rattle.verifier_constant_terms.specs.Terms.{constant_term}
use Rattle.verifier_constant_terms.proofs.Terms.{Terms, terms}
use Rattle.mistyped_entries.specs.Lacking.{lacking, all_lacking}

module _ {J R T : List ℕ} {params : EnvironmentParameters} (w : Sent J R T params) where
  -- check 22 has L rows
  pub rows_are : params.const_agg_length ≡ rows (public J R) (message (parameters J) T)
  rows_are = ap (λ P. P.L) w.posed.same

  -- the rows at the places that `offsets` gives
  pub row-terms : (b0 psi om projection at : ℕ) → b0 ≡ 31 + start (job_sections (parameters_of params)) 2 → psi ≡ start (randomness_sections (parameters_of params)) 1
      → om ≡ start (randomness_sections (parameters_of params)) 2 → projection ≡ start (transcript_sections (parameters_of params)) 1 → at ≡ start (transcript_sections (parameters_of params)) 2
      → Terms J R T params.const_agg_length params.constraint_l b0 psi om projection at
  row-terms b0 psi om projection at e₁ e₂ e₃ e₄ e₅ =
      terms w b0 psi om projection at e₁ e₂ e₃ e₄ e₅

-- what a row lacks, by the values that the code has
pub lacking_is : {J R T : List ℕ} {n l b0 psi om projection at : ℕ} → Terms J R T n l b0 psi om projection at → (k computed : ℕ) → k < n
    → computed ≡ constant_term J b0 l R (psi + k * l) (om + k * 256) T projection → zsub (get_or T (at + 64 * k) 0) computed ≡ lacking J R T k
lacking_is m k computed h e = ap₂ zsub (sym (m.sent_is k h)) (e ∙ sym (m.computed_is k))

module _ {J R T : List ℕ} {params : EnvironmentParameters} (w : Sent J R T params) where
  -- at most 32 rows, and at most 64 indexes
  pub few-rows : params.const_agg_length ≤ 32
  few-rows = (reckoned w.posed).within.L.1

  pub few_indexes : params.constraint_l ≤ 64
  few_indexes = (reckoned w.posed).within.l.1

  module _ (psi : ℕ) (at : psi ≡ start (randomness_sections (parameters_of params)) 1) where
    -- the weights of row k
    weights_room : (k : ℕ) → k < params.const_agg_length → psi + k * params.constraint_l + params.constraint_l ≤ length R
    weights_room k h = (row-terms w _ psi _ _ _ refl at refl refl refl).psi-room k h

    -- a weight of row k lies within the randomness
    pub weight_within : (i : ℕ) → i < params.constraint_l → (k : ℕ) → k < params.const_agg_length → psi + i + k * params.constraint_l < length R
    weight_within i h k g = omega (arith, weights_room k g)

    -- and so does the place of an index
    pub index-within : (i : ℕ) → i < params.constraint_l → psi + i < length R
    index-within i h = first psi i params.constraint_l (length R) (weight_within i h 0 (reckoned w.posed).within.L.0)
      where
        first : (a i l n : ℕ) → a + i + 0 * l < n → a + i < n
        first a i l n h = omega arith

-- what a row lacks is canonical
pub canonical-lacking : (J R T : List ℕ) (n : ℕ) → n ≤ 32 → (rows : List ℕ) → rows ≡ all_lacking J R T n → (k : ℕ) → k < n → Canonical (get_or rows k 0)
canonical-lacking J R T n few rows e k h =
    subst Canonical (sym (ap (λ l. get_or l k 0) e ∙ padded-below 32 0 (lacking J R T) n k (omega arith) h)) (mod-lt _ (omega arith))
