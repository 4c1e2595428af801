-- The buffers after the work of a call that is refused nothing before it.
use mathlib.Core.Path.{◌≡◌, sym, ap, ap₂, subst, ◌∙◌}
use mathlib.Core.List.{List, ◌++◌}
use Prim.Native.Nat.{ℕ, ◌≤◌}
use lib.ListN.{length, take, drop, replicate}
use Rattle.math.specs.lists.Part.{splice}
use Rattle.spec_leaves.specs.declared.answers.Refusal.{Refusal}
use Rattle.spec_leaves.specs.Answer.{fine, result_of, of_refusal}
use Rattle.spec_protocol.specs.Parameters.{parameters}
use Rattle.spec_protocol.specs.Layout.{span, transcript_sections, scratch_need}
use Rattle.spec_protocol.specs.Prover.{made_sections, zeroed}
use Rattle.relation_env_params.specs.declared.env_params.EnvironmentParameters.{EnvironmentParameters}
use Rattle.relation_env_params.specs.Parameters.{parameters_of}
use Rattle.layout_sizes.specs.Sizes.{Sized}
use Rattle.layout_sizes.proofs.Sized.{sized}
use Rattle.admission_slices.specs.declared.calls.Call.{Call}
use Rattle.admission_slices.specs.Admission.{call_of, Provable}
use Rattle.core_workspace.specs.Holds.{Unchanged}
use Rattle.core_workspace.proofs.Unchanged.{unchanged_clear}
use Rattle.prover_commit.specs.Refusals.{work, makes}
use Rattle.prover.specs.Worked.{worked}
use Rattle.prover.proofs.Calls.{refused_is, output-made, output-zeroed}

module _ (call : Call) (J R W : List ℕ) (params : EnvironmentParameters) (S O : List ℕ) (h : Provable (call_of call) J R W (length S) (length O) params) where
  -- the parameters can be reckoned with
  pub call_sized : Sized (parameters_of params)
  call_sized = sized J (parameters_of params) h.handed.sound h.handed.same

  -- what `lay_out` requires
  pub lay_needs : (params.rank ≤ 64) × (params.multiplicity ≤ 16) × (params.kappa ≤ 16) × (params.const_agg_length ≤ 32)
  lay_needs =
      let w = call_sized.within in
      (w.n.1, w.r.1, w.κ.1, w.L.1)

  -- the scratch that the work leaves
  module _ (n : ℕ) (e : n ≡ scratch_need (parameters_of params)) (S₁ : List ℕ) (unchanged : Unchanged (scratch_need (parameters J)) S S₁) where
    scratch-size : n ≡ scratch_need (parameters J)
    scratch-size = e ∙ ap scratch_need h.handed.same

    pub scratch-room : n ≤ length S₁
    scratch-room = subst (λ k. k ≤ length S₁) (sym scratch-size) (subst (λ k. scratch_need (parameters J) ≤ k) (sym unchanged.size) h.handed.scratch_fits)

    -- set to zero
    pub scratch_cleared : (S₂ : List ℕ) → S₂ ≡ splice S₁ 0 (replicate n 0) → S₂ ≡ zeroed (scratch_need (parameters J)) S
    scratch_cleared S₂ f = f ∙ ap (λ k. splice S₁ 0 (replicate k 0)) scratch-size ∙ unchanged_clear (scratch_need (parameters J)) S S₁ unchanged h.handed.scratch_fits

  -- the output that it leaves where something was made
  pub output_left : fine ≡ work J R W (call_of call) → (O₁ : List ℕ) → O₁ ≡ splice O 0 (makes J R W (call_of call)) → O₁ ≡ worked (call_of call) J R W O
  output_left e O₁ stored =
      stored
      ∙ output-made J R W (call_of call) O h.output_fits
      ∙ ap (λ a. result_of a (makes J R W (call_of call) ++ drop (span (made_sections (call_of call) (parameters J))) O) (zeroed (span (made_sections (call_of call) (parameters J))) O)) e

  -- and where it is refused
  module _ (n from count : ℕ) (size : n ≡ span (take count (drop from (transcript_sections (parameters_of params))))) (f : from ≡ (call_of call).from) (g : count ≡ (call_of call).makes) where
    output-size : n ≡ span (made_sections (call_of call) (parameters J))
    output-size =
        size
        ∙ ap₂ (λ m k. span (take m (drop k (transcript_sections (parameters_of params))))) g f
        ∙ ap (λ Q. span (made_sections (call_of call) Q)) h.handed.same

    pub output-room : n ≤ length O
    output-room = subst (λ k. k ≤ length O) (sym output-size) h.output_fits

    -- set to zero
    pub output_cleared : (r : Refusal) → of_refusal r ≡ work J R W (call_of call) → (O₂ : List ℕ) → O₂ ≡ splice O 0 (replicate n 0) → O₂ ≡ worked (call_of call) J R W O
    output_cleared r e O₂ c =
        c
        ∙ ap (λ k. splice O 0 (replicate k 0)) output-size
        ∙ output-zeroed (span (made_sections (call_of call) (parameters J))) O h.output_fits
        ∙ refused_is r (makes J R W (call_of call) ++ drop (span (made_sections (call_of call) (parameters J))) O) (zeroed (span (made_sections (call_of call) (parameters J))) O) e
