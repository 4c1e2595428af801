use mathlib.Core.Path.{◌≡◌, ap, ◌∙◌}
use Prim.Native.Nat.{◌*◌}
use native.Mathlib.Omega.{arith}
use Rattle.math.specs.lists.Part.{part}
use Rattle.spec_leaves.specs.Ring.{words, element}
use Rattle.spec_protocol.specs.Formulas.{◌⊗◌, sum}
use Rattle.ring_inner_product.specs.Run.{run}
use Rattle.ring_rq_matrix.proofs.Word.{stands_for, total-none, total_product-next}
use Rattle.core_challenge_sums.specs.Lines.{combined_line}
use Rattle.core_challenge_sums.proofs.Columns.{row_within}
use Rattle.core_challenge_sums.proofs.weigh.Invariants.{line_of}
use Rattle.core_challenge_sums.proofs.weigh.Goals as goal

pub line-requires : goal.line-requires
line-requires c =
    let s = c.args in
    let l = c.loop-k in
    let p = c.requires in
    ((omega (arith, row_within s.from.now s.constraints (s.r * s.n) l.k p.0.0 (omega arith)), p.0.1, p.0.2, p.0.3), p.1)

pub load-requires : goal.load-requires
load-requires c =
    let l = c.loop-k in
    omega (arith, c.requires.0.4.within l.k (omega arith))

pub overflow_add-at : goal.overflow_add-at
overflow_add-at c =
    let s = c.args in
    let l = c.loop-k in
    omega (arith, row_within s.from.now s.constraints (s.r * s.n) l.k c.requires.0.0 (omega arith), c.requires.0.0.1)

pub overflow_add-place : goal.overflow_add-place
overflow_add-place c =
    let x = c.requires.0.4 in
    omega (arith, x.few, x.first)

pub loop-k-preserved : goal.loop-k-preserved
loop-k-preserved c =
    let s = c.args in
    let l = c.loop-k in
    let x = line_of s.from.now s.constraints.at s.constraints.step s.r s.n s.powers.now s.z.now in
    let line =
    stands_for _ (combined_line s.from.now l.at s.r s.n s.powers.now s.z.now) c.line.ensures
    ∙ ap (λ at. combined_line s.from.now at s.r s.n s.powers.now s.z.now) l.invariant.1 in
    let weight = ap element c.load.ensures ∙ ap (λ at. element (part s.weights.now at 64)) l.invariant.2 in (
      omega arith,
      omega arith,
      omega arith,
      total_product-next _ _ _ _ _ l.k x (run s.weights.now s.weights_at 64) c.add-next.ensures c.mul-weighed.ensures l.invariant.3 line weight,
    )

pub returns : goal.returns
returns c =
    let s = c.args in
    let l = c.loop-k in
    let done : l.k ≡ s.constraints.count = omega arith in
    let x = line_of s.from.now s.constraints.at s.constraints.step s.r s.n s.powers.now s.z.now in
    l.invariant.3 ∙ ap (λ k. words (sum k (λ j. x j ⊗ run s.weights.now s.weights_at 64 j))) done

pub loop-k-init : goal.loop-k-init
loop-k-init c = (omega arith, omega arith, omega arith, total-none _ _ c.zero-total.ensures)
