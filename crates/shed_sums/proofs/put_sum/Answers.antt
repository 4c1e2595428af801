use mathlib.Core.Path.{◌≡◌, refl, sym, ap, ◌∙◌}
use Prim.Native.Nat.{ℕ, ◌+◌}
use native.Mathlib.Omega.{arith}
use lib.ListN.{length, get_or, set, length-set}
use Rattle.math.specs.lists.Table.{table}
use Rattle.math.specs.lists.Part.{splice}
use Rattle.math.proofs.lists.Splice.{splice-nil}
use Rattle.math.proofs.lists.Fill.{splice-table-next}
use Rattle.math.proofs.lists.Table.{length-table}
use Rattle.spec_leaves.specs.Zq.{zadd}
use Rattle.spec_protocol.specs.Layout.{span}
use Rattle.spec_sheds.specs.Runs.{p_section, p_sum}
use Rattle.spec_sheds.proofs.Stored.{section_put}
use Rattle.shed_sums.proofs.put_sum.Goals.{At-loop-j}
use Rattle.shed_sums.proofs.put_sum.Goals as goal

-- the output keeps its length
kept : (c : At-loop-j) → length c.loop-j.output ≡ length c.args.output.now
kept c = c.loop-j.invariant.1 ∙ simp length-set

pub loop-j-init : goal.loop-j-init
unfolding table
loop-j-init c = (sym (splice-nil _ _), refl)

pub loop-j-preserved : goal.loop-j-preserved
loop-j-preserved c =
    let s = c.args in
    let l = c.loop-j in
    let f : ℕ → ℕ = λ j. zadd (get_or s.p.now (1 + j) 0) (get_or s.other.now (1 + j) 0) in (
      ap (λ w. set w (1 + l.j) c.add.result.0) l.invariant.0 ∙ splice-table-next (set s.output.now 0 256) 1 l.j f c.add.result.0 c.add.ensures,
      simp length-set (l.invariant.1 ∙ simp length-set),
    )

pub returns : goal.returns
unfolding span p_sum
returns c =
    let l = c.loop-j in
    let f : ℕ → ℕ = λ j. zadd (get_or c.args.p.now (1 + j) 0) (get_or c.args.other.now (1 + j) 0) in
    let n : l.j ≡ 256 = omega arith in
    section_put p_section c.args.output.now _ 256 (table 256 f) (length-table 256 f) (omega arith) (omega (arith, c.requires.2))
    (l.invariant.0 ∙ ap (λ k. splice (set c.args.output.now 0 256) 1 (table k f)) n)

pub shape_of-output : goal.shape_of-output
shape_of-output c = kept (goal.at.shape_of-output c).At-loop-j

pub bounds-output-j : goal.bounds-output-j
bounds-output-j c = omega (arith, kept (goal.at.bounds-output-j c).At-loop-j)
