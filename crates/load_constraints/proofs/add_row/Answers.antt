use mathlib.Core.Path.{◌≡◌, refl, sym, ap, subst, ◌∙◌}
use Prim.Native.Nat.{◌+◌}
use native.Mathlib.Omega.{arith}
use lib.ListN.{length}
use Rattle.ring_rq_matrix.proofs.Word.{stands_for}
use Rattle.load_constraints.specs.Sums.{terms, plus, Placed}
use Rattle.load_constraints.proofs.Plus.{placed-plus, length-plus}
use Rattle.load_constraints.specs.Terms.{weight_of}
use Rattle.load_constraints.proofs.Order.{terms-none, terms-next}
use Rattle.load_constraints.proofs.add_row.Goals as goal

pub loop-j-init : goal.loop-j-init
loop-j-init c =
    let s = c.args in
    let h = c.requires in
    (omega arith, terms-none s.job.now s.t s.base0 s.base s.m h.0 s.row (weight_of s.s.now s.s_at s.n s.i) h.1, refl)

pub add_term-requires : goal.add_term-requires
add_term-requires c =
    let s = c.args in
    let l = c.loop-j in
    let ω = weight_of s.s.now s.s_at s.n s.i in (
      subst (λ job. Placed job s.t s.base0 s.base s.m) (sym l.invariant.1)
          (placed-plus s.job.now s.t s.base0 s.base s.m c.requires.0 (terms s.job.now s.base0 s.m s.row l.j ω)
          (terms s.job.now s.base s.m s.row l.j ω)),
      omega arith,
    )

pub loop-j-preserved : goal.loop-j-preserved
loop-j-preserved c =
    let s = c.args in
    let l = c.loop-j in
    let ω = weight_of s.s.now s.s_at s.n s.i in
    let next = terms-next s.job.now s.t s.base0 s.base s.m c.requires.0 l.job _
    s.row l.j ω _ (omega arith) l.invariant.1 c.add_term.ensures (stands_for _ (ω l.j) c.weight-w.ensures) in (
      omega arith,
      next,
      ap length next ∙ length-plus s.job.now s.t s.base0 s.base s.m c.requires.0
          (terms s.job.now s.base0 s.m s.row (l.j + 1) ω) (terms s.job.now s.base s.m s.row (l.j + 1) ω),
    )

pub returns : goal.returns
returns c =
    let s = c.args in
    let l = c.loop-j in
    let ω = weight_of s.s.now s.s_at s.n s.i in
    let done : l.j ≡ s.i + 1 = omega arith in
    l.invariant.1 ∙ ap (λ j. plus s.job.now s.t (terms s.job.now s.base0 s.m s.row j ω) (terms s.job.now s.base s.m s.row j ω)) done
