use mathlib.Core.Path.{◌≡◌, sym, ap, ap₂, subst, ◌∙◌}
use mathlib.Core.List.{List}
use Prim.Native.Nat.{ℕ, ◌+◌, ◌*◌, ◌≤◌}
use native.Mathlib.Nat.{mul-le-mul_right}
use native.Mathlib.Omega.{arith}
use Rattle.math.specs.lists.Table.{padded}
use Rattle.math.proofs.lists.Padded.{padded-none, padded-next}
use Rattle.spec_leaves.specs.Answer.{Answer, ◌then◌}
use Rattle.spec_protocol.specs.Parameters.{Parameters, parameters}
use Rattle.spec_protocol.specs.Layout.{scratch_need, randomness_refusal, transcript_refusal}
use Rattle.spec_protocol.specs.Unchanged.{Unchanged}
use Rattle.spec_protocol.specs.Many.{many_need, part_refusal, randomness_part, transcript_part, RowsDone, row_count}
use Rattle.relation_env_params.specs.Parameters.{parameters_of}
use Rattle.admission_slices.proofs.Ready.{job-sized}
use Rattle.core_workspace.proofs.Unchanged.{unchanged_refl, unchanged_trans, unchanged_weaken}
use Rattle.verify_many.specs.Windows.{unused_verdict}
use Rattle.verify_many.proofs.Windows.{same-window}
use Rattle.verify_many.proofs.verdicts.all.verdicts.Invariants.{of_part}
use Rattle.verify_many.proofs.verdicts.all.verdicts.Goals as goal

-- what is found of randomness and transcript together
found_part : (P P' : Parameters) (count : ℕ) (R T : List ℕ) (m : ℕ) (x sent : Answer) → P' ≡ P → x ≡ randomness_refusal P' 7 (randomness_part P' count R m) then sent
    → sent ≡ transcript_refusal P (transcript_part P count T m) → x ≡ part_refusal P count R T m
unfolding part_refusal
found_part P P' count R T m x sent e f g = f ∙ ap₂ (λ P y. randomness_refusal P 7 (randomness_part P count R m) then y) e g

pub loop-m-init : goal.loop-m-init
loop-m-init c =
    let a = c.args in
    (omega arith, c.eight-out.ensures ∙ padded-none 8 unused_verdict (of_part a.job.now a.count a.randomness.now a.transcripts.now), unchanged_refl _ _)

pub check_part-one-requires : goal.check_part-one-requires
check_part-one-requires c =
    let g = c.requires.many_given.0 in
    (c.loop-m-test.true, g.few, job-sized c.args.job.now (parameters_of c.args.params) (sym g.fit) g.same)

pub verdict-v-requires : goal.verdict-v-requires
verdict-v-requires c =
    let l = c.loop-m in
    let a = c.args in
    let P = parameters a.job.now in
    let k = l.invariant.2 in
    let g = c.requires.many_given.0 in
    let taken = c.loop-m-test.true in
    let same = sym (same-window a.scratch.now l.scratch l.m (scratch_need P) k) in record {
      many_given = (record { fit = g.fit; same = g.same; few = g.few; room = subst (λ n. many_need P a.count ≤ n) (sym k.size) g.room }, taken);
      found_value = found_part P (parameters_of a.params) a.count a.randomness.now a.transcripts.now l.m _ _ g.same c.check_part-one.ensures (c.requires.many_given.1 l.m taken);
      ready_if_passing = λ pass. subst (λ w. RowsDone a.job.now (transcript_part P a.count a.transcripts.now l.m) w (row_count P)) same (c.requires.rows_ready l.m taken pass);
    }

pub loop-m-preserved : goal.loop-m-preserved
loop-m-preserved c =
    let l = c.loop-m in
    let a = c.args in
    let P = parameters a.job.now in
    let e = c.verdict-v.ensures in
    let more : l.m * scratch_need P ≤ (l.m + 1) * scratch_need P = mul-le-mul_right (scratch_need P) (omega arith) in (
      omega arith,
      padded-next 8 unused_verdict (of_part a.job.now a.count a.randomness.now a.transcripts.now) l.out l.m c.verdict-v.result
          l.invariant.1 (omega (arith, c.requires.many_given.0.few)) e.value,
      unchanged_trans (many_need P (l.m + 1)) a.scratch.now l.scratch _ (unchanged_weaken (many_need P l.m) (many_need P (l.m + 1)) a.scratch.now l.scratch more l.invariant.2) e.unchanged,
    )

pub returns : goal.returns
returns c =
    let l = c.loop-m in
    let a = c.args in
    let P = parameters a.job.now in
    let n : l.m ≡ a.count = omega arith in record {
      value = l.invariant.1 ∙ ap (λ k. padded 8 k unused_verdict (of_part a.job.now a.count a.randomness.now a.transcripts.now)) n;
      unchanged = subst (λ k. Unchanged (many_need P k) a.scratch.now l.scratch) n l.invariant.2;
    }

pub shape_of-scratch : goal.shape_of-scratch
shape_of-scratch c = c.loop-m.invariant.2.size
