-- The whole of the checks in order, and a call of the verifier that is refused before its work or not.
use mathlib.Core.Path.{◌≡◌, refl, sym, ap, ap₂, subst, ◌∙◌}
use mathlib.Core.List.{List}
use Prim.Native.Nat.{ℕ, ◌≤◌}
use native.Mathlib.Omega.{arith}
use lib.ListN.{length, replicate, take, drop, length-append, length-replicate, length-drop}
use Rattle.math.specs.lists.Part.{splice}
use Rattle.spec_leaves.specs.Answer.{Answer, fine, accepted, of_refusal, result_of, ◌then◌}
use Rattle.spec_leaves.specs.declared.answers.Refusal.{Refusal}
use Rattle.spec_protocol.specs.Parameters.{parameters}
use Rattle.spec_protocol.specs.Layout.{randomness_sections, scratch_need}
use Rattle.spec_protocol.specs.Views.{Public, Message, public, message}
use Rattle.spec_protocol.specs.Formulas.{cells_left_of, u₁_of, u₂_of}
use Rattle.spec_protocol.specs.Prover.{t_norm, g_norm, h_norm, zeroed}
use Rattle.spec_protocol.specs.Verifier.{check_21, check_22, check_23, check_24, check_25, check_26, check_27, check_28, check_29, checks, verify_refusal, verify, verify_scratch}
use Rattle.spec_protocol.proofs.Then.{then_assoc}
use Rattle.spec_protocol.specs.Laid.{Laid}
use Rattle.layout_sections.proofs.Then.{goes_on}
use Rattle.layout_regions.specs.declared.Regions.{Regions}
use Rattle.layout_regions.specs.Laid as Places
use Rattle.relation_env_params.specs.declared.env_params.EnvironmentParameters.{EnvironmentParameters}
use Rattle.relation_env_params.specs.Parameters.{parameters_of}
use Rattle.layout_sizes.specs.Sizes.{Sized}
use Rattle.admission_slices.specs.Admission.{Verifiable}
use Rattle.admission_slices.proofs.Fit.{refusal_none}
use Rattle.admission_slices.proofs.Stages.{stops_at}
use Rattle.core_workspace.specs.Ready.{Ready, Drawn}
use Rattle.core_workspace.specs.Holds.{Unchanged}
use Rattle.core_workspace.proofs.Unchanged.{unchanged_clear}
use Rattle.verifier_common.specs.Work.{Sent}
use Rattle.verifier_common.specs.Answers.{cells_left}
use Rattle.verifier_norms.specs.Order.{norms}
use Rattle.verifier_relations.specs.Order.{relations}
use Rattle.verifier_commitments.specs.Order.{commitments}
use Rattle.verifier.specs.Order.{rest, all_checks}
use Rattle.verifier_common.proofs.Sent.{reckoned}

-- two pairs of answers after another answer
pairs-after : (x a b c d : Answer) → x then ((a then b) then (c then d)) ≡ x then a then b then c then d
pairs-after x a b c d = sym (then_assoc x (a then b) (c then d)) ∙ ap (λ y. y then (c then d)) (sym (then_assoc x a b)) ∙ sym (then_assoc (x then a then b) c d)

-- three answers and two after another answer
five_after : (x a b c d e : Answer) → x then (((a then b) then c) then (d then e)) ≡ x then a then b then c then d then e
five_after x a b c d e =
    sym (then_assoc x ((a then b) then c) (d then e))
    ∙ ap (λ y. y then (d then e)) (sym (then_assoc x (a then b) c) ∙ ap (λ y. y then c) (sym (then_assoc x a b)))
    ∙ sym (then_assoc (x then a then b then c) d e)

-- the checks of the commitments, as `check_commitments` groups them
abbrev pub of_commitments : Public → Message → Answer
of_commitments X M = ((t_norm X M.t then g_norm X M.g) then check_28 X M) then (h_norm X M.h then check_29 X M)

-- the checks of no randomness, and of parameters alone, are those of the protocol
norms_are : (J R T : List ℕ) → norms J R T ≡ check_21 (public J R) (message (parameters J) T) then check_22 (public J R) (message (parameters J) T) then check_23 (public J R)
    (message (parameters J) T)
unfolding check_21 check_23
norms_are J R T = refl

cells_are : (J R T : List ℕ) → cells_left (parameters J) T ≡ cells_left_of (public J R) (message (parameters J) T).t (message (parameters J) T).g (message (parameters J) T).h
unfolding cells_left_of
cells_are J R T = refl

commitments_are : (J R T : List ℕ) → commitments J T ≡ of_commitments (public J R) (message (parameters J) T)
unfolding t_norm g_norm h_norm check_28 check_29 u₁_of u₂_of
commitments_are J R T = refl

-- the groups of checks, and then the number of cells, are all checks in order
pub groups_are : (J R T : List ℕ) → norms J R T then rest J R T then accepted (cells_left (parameters J) T) ≡ all_checks J R T
unfolding checks
groups_are J R T =
    let X = public J R in
    let M = message (parameters J) T in
    let one = check_21 X M then check_22 X M then check_23 X M in
    ap₂ (λ a n. a then accepted n)
    (ap₂ (λ a b. a then (relations J R T then b)) (norms_are J R T) (commitments_are J R T)
    ∙ sym (then_assoc one (relations J R T) (of_commitments X M))
    ∙ ap (λ y. y then of_commitments X M) (pairs-after one (check_24 X M) (check_25 X M) (check_26 X M) (check_27 X M))
    ∙ five_after (one then check_24 X M then check_25 X M then check_26 X M then check_27 X M) (t_norm X M.t) (g_norm X M.g) (check_28 X M) (h_norm X M.h) (check_29 X M))
    (cells_are J R T)

-- after all checks, the number of cells
abbrev pub last : (J T : List ℕ) → Answer
last J T = accepted (cells_left (parameters J) T)

-- 21 to 23, the checks after them, and then the number
pub all_after : (J R T : List ℕ) → norms J R T then (rest J R T then last J T) ≡ all_checks J R T
all_after J R T = sym (then_assoc (norms J R T) (rest J R T) (last J T)) ∙ groups_are J R T

-- a call that is refused nothing before its work
module _ (J R T : List ℕ) (params : EnvironmentParameters) where
  -- its sections of the randomness lie within it
  pub all-drawn : Laid R 0 (take 7 (randomness_sections (parameters J))) → Drawn 7 J R
  all-drawn laid k h = omega (arith, laid.inside k h)

  module _ (scratch : ℕ) (v : Verifiable J R T scratch params) where
    -- what its checks stand on
    pub sent_of : Sent J R T params
    sent_of = record {
      posed = record { same = v.handed.same; sound = v.handed.sound; job = v.handed.job; transcript = v.transcript };
      drawn = all-drawn v.handed.randomness;
    }

    -- its parameters can be reckoned with
    pub call_sized : Sized (parameters_of params)
    call_sized = reckoned sent_of.posed

    -- and regions be laid out
    pub few_regions : (params.rank ≤ 64) × (params.multiplicity ≤ 16) × (params.kappa ≤ 16) × (params.const_agg_length ≤ 32)
    few_regions =
        let w = call_sized.within in
        (w.n.1, w.r.1, w.κ.1, w.L.1)

    -- with the regions of its scratch
    pub ready_of : (regions : Regions) (S : List ℕ) → length S ≡ scratch → Places.Laid params.rank params.multiplicity params.kappa params.const_agg_length regions
        → Ready J params regions S
    ready_of regions S e laid = record {
      same = v.handed.same;
      sound = v.handed.sound;
      job = v.handed.job;
      laid = subst (λ Q. Places.Laid Q.n Q.r Q.κ Q.L regions) v.handed.same laid;
      room = subst (λ n. scratch_need (parameters J) ≤ n) (sym e) v.handed.scratch_fits;
    }

    -- the length that is cleared
    pub need_is : (n : ℕ) → n ≡ scratch_need (parameters_of params) → n ≡ scratch_need (parameters J)
    need_is n e = e ∙ ap scratch_need v.handed.same

    -- it lies within the scratch
    pub need_within : (n : ℕ) (S' : List ℕ) → n ≡ scratch_need (parameters_of params) → length S' ≡ scratch → n ≤ length S'
    need_within n S' e f = subst (λ m. n ≤ m) (sym f) (subst (λ m. m ≤ scratch) (sym (need_is n e)) v.handed.scratch_fits)

    -- the scratch at the end
    pub cleared : (n : ℕ) (S S' S'' : List ℕ) → n ≡ scratch_need (parameters_of params) → length S ≡ scratch → Unchanged (scratch_need (parameters J)) S S'
        → S'' ≡ splice S' 0 (replicate n 0) → S'' ≡ zeroed (scratch_need (parameters J)) S
    cleared n S S' S'' e f unchanged g =
        g
        ∙ ap (λ m. splice S' 0 (replicate m 0)) (need_is n e)
        ∙ unchanged_clear (scratch_need (parameters J)) S S' unchanged (subst (λ m. scratch_need (parameters J) ≤ m) (sym f) v.handed.scratch_fits)

-- a slice whose first words are set to zero keeps its length
pub length-zeroed : (need : ℕ) (S S' : List ℕ) → S' ≡ zeroed need S → need ≤ length S → length S' ≡ length S
length-zeroed need S S' e h = omega (arith, ap length e, length-append (replicate {A = ℕ} need 0) (drop need S), length-replicate {A = ℕ} need 0, length-drop need S)

-- the call's answer and scratch by what is refused before the work
module _ (J R T S : List ℕ) where
  -- a refusal
  pub refused-verdict : (r : Refusal) → of_refusal r ≡ verify_refusal J R T (length S) → of_refusal r ≡ verify J R T (length S)
  unfolding verify
  refused-verdict r e = stops_at r (checks (public J R) (message (parameters J) T)) e

  pub refused-scratch : (r : Refusal) → of_refusal r ≡ verify_refusal J R T (length S) → S ≡ verify_scratch J R T S
  unfolding verify_scratch
  refused-scratch r e =
      let Z = zeroed (scratch_need (parameters J)) S in
      refusal_none r Z S ∙ ap (λ a. result_of a Z S) e

  -- nothing
  module _ (e : fine ≡ verify_refusal J R T (length S)) where
    pub worked-verdict : {a : Answer} → a ≡ checks (public J R) (message (parameters J) T) → a ≡ verify J R T (length S)
    unfolding verify
    worked-verdict f = goes_on e f

    pub worked-scratch : {S' : List ℕ} → S' ≡ zeroed (scratch_need (parameters J)) S → S' ≡ verify_scratch J R T S
    unfolding verify_scratch
    worked-scratch f =
        let Z = zeroed (scratch_need (parameters J)) S in
        f ∙ ap (λ a. result_of a Z S) e
