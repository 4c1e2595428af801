-- The sections of each call are the words that it makes.
use mathlib.Core.Path.{◌≡◌, refl, sym, ap, ap₂, subst, ◌∙◌}
use mathlib.Core.List.{List, [], ◌∷◌}
use Prim.Native.Nat.{ℕ, ◌+◌, ◌≤◌}
use native.Mathlib.Omega.{arith}
use lib.ListN.{length}
use Rattle.math.specs.lists.Part.{splice}
use Rattle.spec_protocol.specs.Parameters.{parameters}
use Rattle.spec_protocol.specs.Layout.{span, sections}
use Rattle.spec_protocol.specs.Formulas as F
use Rattle.spec_protocol.specs.Prover.{whole, round₁, round₂, round₃, round₄, round₅, made_sections, transcript, made}
use Rattle.spec_protocol.proofs.Accepted.{length-made}
use Rattle.admission_slices.specs.declared.calls.Call.TheVariants as C
use Rattle.admission_slices.specs.declared.calls.Call as Code
use Rattle.admission_slices.specs.Admission.{call_of}
use Rattle.layout_regions.specs.declared.Regions.{Regions}
use Rattle.relation_env_params.specs.declared.env_params.EnvironmentParameters.{EnvironmentParameters}
use Rattle.relation_env_params.specs.Parameters.{parameters_of}
use Rattle.prover_commit.specs.Words.{X, s, u₁_words, p_words, b''_words, u₂_words, z_words, t_words, g_words, h_words}
use Rattle.prover_commit.specs.Refusals.{makes}
use Rattle.prover_commit.specs.Work.{Filled}
use Rattle.prover_p_and_b.specs.Sections.{p_in, b''_in, SectionsRoom}
use Rattle.prover_sections.specs.Sections.{u₁_in, u₂_in, last_in, all_in}
use Rattle.prover_sections.proofs.SectionMade.{u₁-made, p-made, b''-made, u₂-made, z-made, t_made, g-made, h-made}

-- the first place is 0
at_zero : (a b : ℕ) → a ≤ b → 0 + a ≤ b
at_zero a b h = omega arith

module _ (J R W : List ℕ) where
  -- the words that each call makes
  made₁ : sections (u₁_words J W ∷ []) ≡ makes J R W round₁
  unfolding made transcript F.u₁ F.u₁_of F.t F.g
  made₁ = refl

  made₂ : sections (p_words J R W ∷ []) ≡ makes J R W round₂
  unfolding made transcript
  made₂ = refl

  made₃ : sections (b''_words J R W ∷ []) ≡ makes J R W round₃
  unfolding made transcript
  made₃ = refl

  made₄ : sections (u₂_words J R W ∷ []) ≡ makes J R W round₄
  unfolding made transcript
  made₄ = refl

  made₅ : sections (z_words J R W ∷ t_words J W ∷ g_words J W ∷ h_words J R W ∷ []) ≡ makes J R W round₅
  unfolding made transcript F.t F.g
  made₅ = refl

  made_all : sections (u₁_words J W ∷ p_words J R W ∷ b''_words J R W ∷ u₂_words J R W ∷ z_words J R W ∷ t_words J W ∷ g_words J W ∷ h_words J R W ∷ []) ≡ makes J R W whole
  unfolding made transcript F.u₁ F.u₁_of F.t F.g
  made_all = refl

  module _ (params : EnvironmentParameters) (regions : Regions) (S : List ℕ) (same : parameters_of params ≡ parameters J) where
    -- they are those made of what stands in the scratch
    pub sections₁ : Filled J R W regions S C.Round1 → sections (u₁_in (parameters_of params) regions S J ∷ []) ≡ makes J R W round₁
    sections₁ k = ap (λ w. sections (w ∷ [])) (u₁-made J R W params regions S same k) ∙ made₁

    pub sections₂ : sections (p_in (parameters_of params) R W ∷ []) ≡ makes J R W round₂
    sections₂ = ap (λ w. sections (w ∷ [])) (p-made J R W params regions S same) ∙ made₂

    pub sections₃ : Filled J R W regions S C.Round3 → sections (b''_in (parameters_of params) regions S ∷ []) ≡ makes J R W round₃
    sections₃ k = ap (λ w. sections (w ∷ [])) (b''-made J R W params regions S same k) ∙ made₃

    pub sections₄ : Filled J R W regions S C.Round4 → sections (u₂_in (parameters_of params) regions S J ∷ []) ≡ makes J R W round₄
    sections₄ k = ap (λ w. sections (w ∷ [])) (u₂-made J R W params regions S same k.h) ∙ made₄

    last_made : Filled J R W regions S C.Round5 → last_in (parameters_of params) regions S W ≡ z_words J R W ∷ t_words J W ∷ g_words J W ∷ h_words J R W ∷ []
    last_made k =
        ap₂ ◌∷◌ (z-made J R W params regions S same k.1)
        (ap₂ ◌∷◌ (t_made J R W params regions S same k.0.committed)
        (ap₂ ◌∷◌ (g-made J R W params regions S same k.0.committed) (ap (λ w. w ∷ []) (h-made J R W params regions S same k.0.h))))

    pub sections₅ : Filled J R W regions S C.Round5 → sections (last_in (parameters_of params) regions S W) ≡ makes J R W round₅
    sections₅ k = ap sections (last_made k) ∙ made₅

    pub sections-all : Filled J R W regions S C.Whole → sections (all_in (parameters_of params) regions S J R W) ≡ makes J R W whole
    sections-all k =
        ap sections
        (ap₂ ◌∷◌ (u₁-made J R W params regions S same k.0.committed)
        (ap₂ ◌∷◌ (p-made J R W params regions S same) (ap₂ ◌∷◌ (b''-made J R W params regions S same k.1.0) (ap₂ ◌∷◌ (u₂-made J R W params regions S same k.0.h) (last_made (k.0, k.1.1))))))
        ∙ made_all

  -- where the call is known
  module _ (call known : Code.Call) (told : call ≡ known) where
    pub filled_known : (regions : Regions) (S : List ℕ) → Filled J R W regions S call → Filled J R W regions S known
    filled_known regions S = subst (Filled J R W regions S) told

    pub room_known : (O : List ℕ) (ws : List (List ℕ)) → span (made_sections (call_of call) (parameters J)) ≤ length O → sections ws ≡ makes J R W (call_of known) → SectionsRoom 0 ws O
    room_known O ws h e =
        at_zero (length (sections ws)) (length O)
        (subst (λ n. n ≤ length O) (sym (ap length (e ∙ ap (λ c. makes J R W (call_of c)) (sym told)) ∙ length-made (call_of call) (X J R) (s J W))) h)

    pub put_known : (O O' : List ℕ) (ws : List (List ℕ)) → O' ≡ splice O 0 (sections ws) → sections ws ≡ makes J R W (call_of known) → O' ≡ splice O 0 (makes J R W (call_of call))
    put_known O O' ws stored e = stored ∙ ap (splice O 0) (e ∙ ap (λ c. makes J R W (call_of c)) (sym told))
