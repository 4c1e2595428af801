-- The answers of the prover's work.
use Rattle.std.specs.Prelude.{Result, OnOk}
use mathlib.Core.Path.{◌≡◌, refl, sym, ap, subst, ◌∙◌}
use mathlib.Core.Bool.{true, false, cond}
use mathlib.Core.List.{List}
use Prim.Native.Nat.{ℕ}
use Rattle.spec_leaves.specs.declared.answers.Refusal.{Refusal}
use Rattle.spec_leaves.specs.Answer.{fine, of_result, ◌then◌}
use Rattle.spec_protocol.specs.Parameters.{parameters}
use Rattle.spec_protocol.specs.Layout.{scratch_need}
use Rattle.spec_protocol.specs.Formulas as F
use Rattle.spec_protocol.specs.Prover.{Call, witness_norm, t_norm, g_norm, work_refusal}
use Rattle.spec_protocol.proofs.Checks.{then_fine}
use Rattle.admission_slices.specs.declared.calls.Call as Code
use Rattle.admission_slices.specs.Admission.{call_of}
use Rattle.layout_regions.specs.declared.Regions.{Regions}
use Rattle.core_workspace.specs.Ready.{Drawn}
use Rattle.core_workspace.specs.Holds.{Unchanged}
use Rattle.prover_commit.specs.Refusals.{t_refusal, g_refusal, h_refusal, first_refusal, work}
use Rattle.prover_commit.specs.Work.{Filled}

module _ (J R W : List ℕ) where
  -- "Prover: 13, 14, 15, 16."; 16 only where h is worked out
  work_is : (call : Call) → first_refusal J W then cond call.has_h (h_refusal J R W) fine ≡ work J R W call
  unfolding work_refusal first_refusal t_refusal g_refusal h_refusal witness_norm t_norm g_norm F.t F.g
  work_is call = refl

  -- of a call without h
  pub without_h : (call : Call) → call.has_h ≡ false → first_refusal J W then fine ≡ work J R W call
  without_h call e = ap (λ b. first_refusal J W then cond b (h_refusal J R W) fine) (sym e) ∙ work_is call

  pub first-work : (call : Call) → call.has_h ≡ false → first_refusal J W ≡ work J R W call
  first-work call e = sym (then_fine (first_refusal J W)) ∙ without_h call e

  -- of a call with h
  pub with_h : (call : Call) → call.has_h ≡ true → first_refusal J W then h_refusal J R W ≡ work J R W call
  with_h call e = ap (λ b. first_refusal J W then cond b (h_refusal J R W) fine) (sym e) ∙ work_is call

  -- calls that work out h refuse the same, and so do calls that do not
  pub same-work : (c d : Call) → c.has_h ≡ d.has_h → work J R W c then fine ≡ work J R W d
  same-work c d e = then_fine (work J R W c) ∙ sym (work_is c) ∙ ap (λ b. first_refusal J W then cond b (h_refusal J R W) fine) e ∙ work_is d

-- what the filling of the scratch for a call answers and leaves
abbrev pub Fills : Code.Call → (J R W : List ℕ) → Regions → Result Unit Refusal → (S S' : List ℕ) → Type 0
Fills call J R W regions r S S' = (of_result r ≡ work J R W (call_of call)) × (Unchanged (scratch_need (parameters J)) S S' × OnOk r (Filled J R W regions S' call))

-- where the call is known
pub fills : (call known : Code.Call) (J R W : List ℕ) (regions : Regions) (r : Result Unit Refusal) (S S' : List ℕ) → call ≡ known → Fills known J R W regions r S S' → Fills call J R W regions r S S'
fills call known J R W regions r S S' e = subst (λ c. Fills c J R W regions r S S') (sym e)

pub drawn_known : (call known : Code.Call) (J R : List ℕ) → call ≡ known → Drawn (call_of call).handed J R → Drawn (call_of known).handed J R
drawn_known call known J R e = subst (λ c. Drawn (call_of c).handed J R) e
