-- `weigh` meets its contract.
use mathlib.Core.Path.{◌≡◌, ap, subst, ◌∙◌}
use mathlib.Core.List.{List}
use lib.ListN.{length}
use Rattle.math.proofs.lists.Splice.{length-splice}
use Rattle.layout_regions.specs.declared.Regions.{Regions}
use Rattle.relation_env_params.specs.declared.env_params.EnvironmentParameters.{EnvironmentParameters}
use Prim.Native.Nat.{ℕ}
use Rattle.core_workspace.specs.Holds.{Unchanged}
use Rattle.prover_commit.specs.Work.{with_h}
use Rattle.prover_commit.proofs.Commitments.{given-changed, ready_for-h}
use Rattle.prover_fill.proofs.WithH.{length-weighed}
use Rattle.prover_fill.proofs.weigh.Goals as goal

-- h after a scratch that is another's equal
moved : (W : List ℕ) (params : EnvironmentParameters) (regions : Regions) (S S₁ E : List ℕ) → S ≡ S₁ → Unchanged regions.phi (with_h W params regions S) E
    → Unchanged regions.phi (with_h W params regions S₁) E
moved W params regions S S₁ E e k = subst (λ l. Unchanged regions.phi (with_h W params regions l) E) e k

length-h : (W : List ℕ) (params : EnvironmentParameters) (regions : Regions) (S E : List ℕ) → Unchanged regions.phi (with_h W params regions S) E → length E ≡ length S
length-h W params regions S E k = k.size ∙ length-splice S regions.a_or_h _

pub add_h-requires : goal.add_h-requires
add_h-requires c =
    ready_for-h _ _ _ _ _ (given-changed _ _ _ _ _ c.requires.0 _
    (ap length c.phi_and_b.ensures ∙ length-weighed c.args.with_b c.args.job.now c.args.randomness.now c.args.witness.now c.args.params
    c.args.regions c.args.scratch.now))

pub shape_of-scratch : goal.shape_of-scratch
shape_of-scratch c =
    length-h c.args.witness.now c.args.params c.args.regions _ _ c.add_h.ensures.unchanged
    ∙ ap length c.phi_and_b.ensures
    ∙ length-weighed c.args.with_b c.args.job.now c.args.randomness.now c.args.witness.now c.args.params c.args.regions c.args.scratch.now

pub returns : goal.returns
returns c =
    let h = c.add_h in
    record { result_value = h.ensures.result_value; unchanged = moved c.args.witness.now c.args.params c.args.regions _ _ _ c.phi_and_b.ensures h.ensures.unchanged }

pub phi_and_b-requires : goal.phi_and_b-requires
phi_and_b-requires c = c.requires
