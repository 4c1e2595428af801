use mathlib.Core.Path.{◌≡◌, refl, sym, ap, subst, ◌∙◌}
use Prim.Native.Nat.{◌+◌}
use native.Mathlib.Omega.{arith}
use lib.ListN.{length}
use Rattle.ring_rq_matrix.proofs.Place.{rows-within, triangular-suc, triangle-within}
use Rattle.load_constraints.specs.Sums.{plus, Placed, Reduced}
use Rattle.load_constraints.proofs.Plus.{placed-plus, length-plus, reduced-plus}
use Rattle.load_constraints.specs.Terms.{rows_of}
use Rattle.load_constraints.proofs.Order.{rows_none, rows_next}
use Rattle.load_constraints.proofs.add_triangle.Goals as goal

pub loop-i-init : goal.loop-i-init
loop-i-init c =
    let s = c.args in
    let h = c.requires in
    (omega arith, refl, rows_none s.job.now s.t s.base0 s.base s.m h.0 s.s.now s.s_at s.n h.1, refl)

pub add_row-requires : goal.add_row-requires
add_row-requires c =
    let s = c.args in
    let h = c.requires in
    let l = c.loop-i in
    let F = rows_of s.job.now s.base0 s.m s.s.now s.s_at s.n l.i in
    let G = rows_of s.job.now s.base s.m s.s.now s.s_at s.n l.i in
    let below = triangle-within l.i s.r (omega arith) in (
      subst (λ job. Placed job s.t s.base0 s.base s.m) (sym l.invariant.2) (placed-plus s.job.now s.t s.base0 s.base s.m h.0 F G),
      subst (λ job. Reduced job s.t) (sym l.invariant.2) (reduced-plus s.job.now s.t s.base0 s.base s.m h.0 F G),
      omega arith,
      omega (arith, rows-within l.i s.r s.n (omega arith)),
      omega arith,
      omega arith,
    )

pub loop-i-preserved : goal.loop-i-preserved
loop-i-preserved c =
    let s = c.args in
    let h = c.requires in
    let l = c.loop-i in
    let next = rows_next s.job.now s.t s.base0 s.base s.m h.0 l.job _ s.s.now s.s_at s.n l.i l.row
    (omega (arith, triangle-within l.i s.r (omega arith))) l.invariant.1 l.invariant.2 c.add_row.ensures in (
      omega arith,
      omega (arith, triangular-suc l.i),
      next,
      ap length next
          ∙ length-plus s.job.now s.t s.base0 s.base s.m h.0 (rows_of s.job.now s.base0 s.m s.s.now s.s_at s.n (l.i + 1))
          (rows_of s.job.now s.base s.m s.s.now s.s_at s.n (l.i + 1)),
    )

pub returns : goal.returns
returns c =
    let s = c.args in
    let l = c.loop-i in
    let done : l.i ≡ s.r = omega arith in
    l.invariant.2 ∙ ap (λ i. plus s.job.now s.t (rows_of s.job.now s.base0 s.m s.s.now s.s_at s.n i)
    (rows_of s.job.now s.base s.m s.s.now s.s_at s.n i)) done

pub overflow_add-row : goal.overflow_add-row
overflow_add-row c = omega (arith, triangle-within c.loop-i.i c.args.r (omega arith))
