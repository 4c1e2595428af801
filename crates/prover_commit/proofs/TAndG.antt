-- What the steps of t and g answer and leave.
use Rattle.std.specs.Prelude.{Result, OnOk}
use mathlib.Core.Path.{◌≡◌, ap, ◌∙◌}
use mathlib.Core.List.{List}
use Prim.Native.Nat.{ℕ}
use native.Mathlib.Omega.{arith}
use lib.ListN.{length}
use Rattle.math.specs.lists.Part.{splice}
use Rattle.math.proofs.lists.Splice.{length-splice}
use Rattle.spec_leaves.specs.declared.answers.Refusal.{Refusal}
use Rattle.spec_leaves.specs.Answer.{fine, of_refusal, of_result, ◌then◌}
use Rattle.spec_protocol.specs.Parameters.{Parameters, parameters}
use Rattle.spec_protocol.specs.Layout.{scratch_need}
use Rattle.layout_sections.proofs.Then.{goes_on}
use Rattle.admission_slices.proofs.Stages.{stops_at}
use Rattle.layout_regions.specs.declared.Regions.{Regions}
use Rattle.relation_env_params.specs.declared.env_params.EnvironmentParameters.{EnvironmentParameters}
use Rattle.core_workspace.specs.Holds.{Holds, Unchanged}
use Rattle.core_workspace.proofs.Unchanged.{unchanged_stored}
use Rattle.core_workspace.proofs.Ready.{g_end, c-end}
use Rattle.prover_commit.specs.Words.{t_words, g_words}
use Rattle.prover_commit.specs.Refusals.{t_refusal, g_refusal, t_check, g_check}
use Rattle.prover_commit.specs.Work.{WorkGiven, Committed}
use Rattle.prover_commit.proofs.Lengths.{length-t, length-g}
use Rattle.prover_commit.proofs.Commitments.{held-stored, held_after, where_made, given-changed, t_room, g_room, t_checked, g_checked}

-- a scratch of which needed words changed, into which t was stored
module _ (J W : List ℕ) (params : EnvironmentParameters) (regions : Regions) (S : List ℕ) (h : WorkGiven J W params regions S)
    (S₀ : List ℕ) (unchanged : Unchanged (scratch_need (parameters J)) S S₀) (S₁ : List ℕ) (e : S₁ ≡ splice S₀ regions.t (t_words J W)) where
  abbrev P : Parameters
  P = parameters J

  size₁ : length S₁ ≡ length S
  size₁ = ap length e ∙ length-splice S₀ regions.t (t_words J W) ∙ unchanged.size

  pub given-t : WorkGiven J W params regions S₁
  given-t = given-changed J W params regions S h S₁ size₁

  held-t : Holds S₁ regions.t (t_words J W)
  held-t = held-stored S₀ S₁ regions.t (t_words J W) e (omega (arith, length-t J W, t_room J W params regions S h, h.ready.room, unchanged.size))

  pub unchanged_t : Unchanged (scratch_need P) S S₁
  unchanged_t = unchanged_stored (scratch_need P) S S₀ S₁ regions.t (t_words J W) unchanged e (omega (arith, length-t J W, t_room J W params regions S h))

  -- and then g
  module _ (S₂ : List ℕ) (e' : S₂ ≡ splice S₁ regions.g (g_words J W)) where
    pub given-g : WorkGiven J W params regions S₂
    given-g = given-changed J W params regions S h S₂ (ap length e' ∙ length-splice S₁ regions.g (g_words J W) ∙ size₁)

    held-g : Holds S₂ regions.g (g_words J W)
    held-g = held-stored S₁ S₂ regions.g (g_words J W) e' (omega (arith, length-g J W, g_room J W params regions S h, h.ready.room, size₁))

    unchanged_g : Unchanged (scratch_need P) S S₂
    unchanged_g = unchanged_stored (scratch_need P) S S₁ S₂ regions.g (g_words J W) unchanged_t e' (omega (arith, length-g J W, g_room J W params regions S h))

    committed : Committed J W regions S₂
    committed =
        record {
          t = held_after S₁ S₂ regions.g (g_words J W) e' regions.t (t_words J W) (omega (arith, length-g J W, g_end J params regions S h.ready, c-end J params regions S h.ready)) held-t;
          g = held-g;
        }

  -- what is answered where t is refused
  pub t-refused : (r : Refusal) → of_refusal r ≡ t_check params regions S₁ → of_refusal r ≡ t_refusal J W then g_refusal J W
  t-refused r w = stops_at r (g_refusal J W) (w ∙ t_checked J W params regions S₁ given-t held-t)

  -- and where it is not, with what is left
  pub t_and-g : (z : Result Unit Refusal) → fine ≡ t_check params regions S₁ → (L : List ℕ) → L ≡ splice S₁ regions.g (g_words J W) → of_result z ≡ g_check params regions L
      → (of_result z ≡ t_refusal J W then g_refusal J W) × (Unchanged (scratch_need P) S L × OnOk z (Committed J W regions L))
  t_and-g z w L e' v = (
    goes_on (w ∙ t_checked J W params regions S₁ given-t held-t) (v ∙ g_checked J W params regions L (given-g L e') (held-g L e')),
    (unchanged_g L e', where_made z (committed L e')),
  )
