use mathlib.Core.Path.{◌≡◌, ap, ◌∙◌}
use native.Mathlib.Omega.{arith}
use Rattle.math.specs.lists.Part.{part}
use Rattle.spec_leaves.specs.Ring.{words, element}
use Rattle.ring_inner_product.specs.Run.{run}
use Rattle.spec_protocol.specs.Formulas.{◌⊗◌, sum, dot}
use Rattle.ring_rq_matrix.proofs.Place.{rows-within, run-vector}
use Rattle.ring_rq_matrix.proofs.Word.{stands_for, total-none, total_product-next}
use Rattle.ring_rq_matrix.proofs.sum_of_lines.Invariants.{line_of}
use Rattle.ring_rq_matrix.proofs.sum_of_lines.Goals as goal

pub inner_product-requires : goal.inner_product-requires
inner_product-requires c =
    let s = c.args in
    omega (arith, rows-within c.loop-i.i s.r s.n (omega arith))

pub overflow_add-row : goal.overflow_add-row
overflow_add-row c =
    let s = c.args in
    omega (arith, rows-within c.loop-i.i s.r s.n (omega arith))

pub loop-i-preserved : goal.loop-i-preserved
loop-i-preserved c =
    let s = c.args in
    let l = c.loop-i in
    let z = run s.z.now s.z_at 64 in
    let line =
    stands_for _ (dot s.n (run s.phi.now l.row 64) z) c.inner_product.ensures
    ∙ ap (λ f. dot s.n f z) (run-vector s.phi.now s.phi_at s.n l.i l.row l.invariant.1) in
    let weight = ap element c.load.ensures ∙ ap (λ at. element (part s.c.now at 64)) l.invariant.2 in (
      omega arith,
      omega arith,
      omega arith,
      total_product-next _ _ _ _ _ l.i (line_of s.phi.now s.phi_at s.z.now s.z_at s.n) (run s.c.now s.c_at 64) c.add-next.ensures
          c.mul-line.ensures l.invariant.3 line weight,
    )

pub returns : goal.returns
returns c =
    let s = c.args in
    let l = c.loop-i in
    let done : l.i ≡ s.r = omega arith in
    l.invariant.3 ∙ ap (λ k. words (sum k (λ j. line_of s.phi.now s.phi_at s.z.now s.z_at s.n j ⊗ run s.c.now s.c_at 64 j))) done

pub loop-i-init : goal.loop-i-init
loop-i-init c = (omega arith, omega arith, omega arith, total-none _ _ c.zero-total.ensures)
