-- What the prover's calls make, refuse and leave in the buffers.
use mathlib.Core.Path.{◌≡◌, refl, sym, ap, subst, ◌∙◌}
use mathlib.Core.List.{List, [], ◌∷◌, ◌++◌}
use Prim.Native.Nat.{ℕ, zero, suc, ◌+◌, ◌*◌, ◌≤◌, ◌<◌}
use native.Mathlib.Omega.{arith}
use lib.ListN.{length, take, drop, replicate, length-replicate}
use lib.Seq.{get_or-take, length-take-le}
use Rattle.math.specs.lists.Part.{splice}
use Rattle.math.proofs.lists.Splice.{splice_eq}
use Rattle.spec_leaves.specs.declared.answers.Refusal.{Refusal}
use Rattle.spec_leaves.specs.Answer.{Answer, fine, result_of, of_refusal}
use Rattle.spec_protocol.specs.Parameters.{parameters}
use Rattle.spec_protocol.specs.Layout.{Section, canonical, span, start, randomness_sections, witness_sections, scratch_need}
use Rattle.spec_protocol.specs.Views.{public, witness}
use Rattle.spec_protocol.specs.Prover.{Call, made_sections, prove_refusal, work_refusal, zeroed, prove, prove_output, prove_scratch}
use Rattle.spec_protocol.proofs.Accepted.{length-made}
use Rattle.spec_protocol.specs.Laid.{nth}
use Rattle.spec_protocol.specs.Laid as Sections
use Rattle.layout_sections.proofs.Then.{goes_on}
use Rattle.layout_regions.specs.declared.Regions.{Regions}
use Rattle.layout_regions.specs.Laid as Places
use Rattle.relation_env_params.specs.declared.env_params.EnvironmentParameters.{EnvironmentParameters}
use Rattle.admission_slices.specs.declared.calls.Call.TheVariants as C
use Rattle.admission_slices.specs.declared.calls.Call as Code
use Rattle.admission_slices.specs.Admission.{Provable, call_of}
use Rattle.admission_slices.proofs.Stages.{stops_at}
use Rattle.admission_slices.proofs.Fit.{refusal_none}
use Rattle.core_workspace.specs.Ready.{Drawn}
use Rattle.prover_commit.specs.Refusals.{work, makes}
use Rattle.prover_commit.specs.Work.{WorkGiven}
use Rattle.prover.specs.Worked.{worked}

-- the first place is 0
at_zero : (a b : ℕ) → a ≤ b → 0 + a ≤ b
at_zero a b h = omega arith

from_zero : (a b c : ℕ) → 0 + a + b ≤ c → a + b ≤ c
from_zero a b c h = omega arith

none_before : (a b : ℕ) → a ≡ b → 0 + a ≡ b
none_before a b h = omega arith

-- a refusal that is an answer: that answer's result part
pub refused_is {ℓ} : {A : Type ℓ} (r : Refusal) {a : Answer} (value none : A) → of_refusal r ≡ a → none ≡ result_of a value none
refused_is r value none e = refusal_none r value none ∙ ap (λ x. result_of x value none) e

-- an output with what a call makes at its start
pub output-made : (J R W : List ℕ) (call : Call) (O : List ℕ) → span (made_sections call (parameters J)) ≤ length O
    → splice O 0 (makes J R W call) ≡ makes J R W call ++ drop (span (made_sections call (parameters J))) O
output-made J R W call O h =
    let M = makes J R W call in
    let size : length M ≡ span (made_sections call (parameters J)) = length-made call (public J R) (witness (parameters J) W) in
    splice_eq O 0 M (at_zero (length M) (length O) (subst (λ n. n ≤ length O) (sym size) h)) ∙ ap (λ n. M ++ drop n O) (none_before (length M) (span (made_sections call (parameters J))) size)

-- a call is handed at most the seven sections
pub handed-few : (call : Code.Call) → (call_of call).handed ≤ 7
handed-few C.Whole = omega arith
handed-few C.Round1 = omega arith
handed-few C.Round2 = omega arith
handed-few C.Round3 = omega arith
handed-few C.Round4 = omega arith
handed-few C.Round5 = omega arith

-- the first words of an output set to zero
pub output-zeroed : (need : ℕ) (O : List ℕ) → need ≤ length O → splice O 0 (replicate need 0) ≡ zeroed need O
output-zeroed need O h =
    let size : length (replicate {A = ℕ} need 0) ≡ need = length-replicate need 0 in
    splice_eq O 0 (replicate need 0) (at_zero (length (replicate {A = ℕ} need 0)) (length O) (subst (λ n. n ≤ length O) (sym size) h))
    ∙ ap (λ n. replicate need 0 ++ drop n O) (none_before (length (replicate {A = ℕ} need 0)) need size)

-- where the words of section k stand in the first m sections
start-take : (ss : List Section) (m k : ℕ) → k < m → start (take m ss) k ≡ start ss k
unfolding start
start-take ss zero k h = absurd (omega arith)
start-take [] (suc m) k h = refl
start-take (x ∷ ss) (suc m) zero h = refl
start-take (x ∷ ss) (suc m) (suc k) h = ap (λ n. 1 + x.count + n) (start-take ss m k (omega arith))

-- sections that are laid out lie within the words
pub laid-drawn : (m : ℕ) (J R : List ℕ) → m ≤ 7 → Sections.Laid R 0 (take m (randomness_sections (parameters J))) → Drawn m J R
laid-drawn m J R h l k b =
    let ss = randomness_sections (parameters J) in
    let size : length (take m ss) ≡ m = length-take-le m ss h in
    subst (λ n. n + (nth ss k).count ≤ length R) (start-take ss m k b)
    (subst (λ x. start (take m ss) k + x.count ≤ length R) (get_or-take m ss k (canonical 0) b)
    (from_zero (start (take m ss) k) (nth (take m ss) k).count (length R) (l.inside k (subst (λ n. k < n) (sym size) b))))

-- a call that is refused nothing before its work, with the regions of its scratch
pub given_of : (call : Call) (J R W : List ℕ) (params : EnvironmentParameters) (regions : Regions) (S : List ℕ) (output : ℕ) → call.handed ≤ 7
    → Provable call J R W (length S) output params → Places.Laid params.rank params.multiplicity params.kappa params.const_agg_length regions
    → WorkGiven J W params regions S × Drawn call.handed J R
given_of call J R W params regions S output few h places = (
  record {
    ready = record {
      same = h.handed.same;
      sound = h.handed.sound;
      job = h.handed.job;
      laid = subst (λ Q. Places.Laid Q.n Q.r Q.κ Q.L regions) h.handed.same places;
      room = h.handed.scratch_fits;
    };
    witness = from_zero (start (witness_sections (parameters J)) 0) (64 * ((parameters J).r * (parameters J).n)) (length W) (h.witness.inside 0 (omega arith));
  },
  laid-drawn call.handed J R few h.handed.randomness,
)

module _ (call : Call) (J R W S O : List ℕ) where
  -- a call that is refused before its work
  module _ (r : Refusal) (e : of_refusal r ≡ prove_refusal call J R W (length S) (length O)) where
    pub refused-answer : of_refusal r ≡ prove call J R W (length S) (length O)
    unfolding prove
    refused-answer = stops_at r (work_refusal (public J R) call (witness (parameters J) W)) e

    pub refused-output : O ≡ prove_output call J R W S O
    unfolding prove_output
    refused-output = refused_is r (worked call J R W O) O e

    pub refused-scratch : S ≡ prove_scratch call J R W S O
    unfolding prove_scratch
    refused-scratch = refused_is r (zeroed (scratch_need (parameters J)) S) S e

  -- a call that is not
  module _ (e : fine ≡ prove_refusal call J R W (length S) (length O)) where
    pub worked-answer : work J R W call ≡ prove call J R W (length S) (length O)
    unfolding prove
    worked-answer = goes_on e refl

    pub worked-output : worked call J R W O ≡ prove_output call J R W S O
    unfolding prove_output
    worked-output = ap (λ a. result_of a (worked call J R W O) O) e

    pub worked-scratch : zeroed (scratch_need (parameters J)) S ≡ prove_scratch call J R W S O
    unfolding prove_scratch
    worked-scratch = ap (λ a. result_of a (zeroed (scratch_need (parameters J)) S) S) e
