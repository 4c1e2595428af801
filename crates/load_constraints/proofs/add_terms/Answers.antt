use mathlib.Core.Path.{◌≡◌, refl, sym, ap, subst, ◌∙◌}
use Prim.Native.Nat.{◌+◌}
use native.Mathlib.Omega.{arith}
use lib.ListN.{length}
use native.Mathlib.Nat.{zero-add}
use Rattle.spec_leaves.specs.Ring.{element}
use Rattle.ring_inner_product.specs.Run.{run}
use Rattle.load_constraints.specs.Sums.{term, terms, plus, Placed}
use Rattle.load_constraints.proofs.Plus.{placed-plus, length-plus}
use Rattle.load_constraints.proofs.Order.{terms-none, terms-next}
use Rattle.load_constraints.proofs.add_terms.Goals as goal

pub loop-e-init : goal.loop-e-init
loop-e-init c =
    let s = c.args in
    let h = c.requires in
    (omega arith, terms-none s.job.now s.t s.base0 s.base s.m h.0 0 (run s.s.now s.s_at 64) h.1, refl)

pub add_term-requires : goal.add_term-requires
add_term-requires c =
    let s = c.args in
    let l = c.loop-e in
    let ω = run s.s.now s.s_at 64 in (
      subst (λ job. Placed job s.t s.base0 s.base s.m) (sym l.invariant.1)
          (placed-plus s.job.now s.t s.base0 s.base s.m c.requires.0 (terms s.job.now s.base0 s.m 0 l.e ω)
          (terms s.job.now s.base s.m 0 l.e ω)),
      omega arith,
    )

pub loop-e-preserved : goal.loop-e-preserved
loop-e-preserved c =
    let s = c.args in
    let l = c.loop-e in
    let ω = run s.s.now s.s_at 64 in
    let w = c.load.result.coeffs in
    let next = terms-next s.job.now s.t s.base0 s.base s.m c.requires.0 l.job _
    0 l.e ω w (omega arith) l.invariant.1
    (c.add_term.ensures ∙ ap (λ q. plus l.job s.t (term l.job s.base0 s.m q w) (term l.job s.base s.m q w)) (sym (zero-add l.e)))
    (ap element c.load.ensures) in (
      omega arith,
      next,
      ap length next ∙ length-plus s.job.now s.t s.base0 s.base s.m c.requires.0
          (terms s.job.now s.base0 s.m 0 (l.e + 1) ω) (terms s.job.now s.base s.m 0 (l.e + 1) ω),
    )

pub returns : goal.returns
returns c =
    let s = c.args in
    let l = c.loop-e in
    let ω = run s.s.now s.s_at 64 in
    let done : l.e ≡ s.m = omega arith in
    l.invariant.1 ∙ ap (λ e. plus s.job.now s.t (terms s.job.now s.base0 s.m 0 e ω) (terms s.job.now s.base s.m 0 e ω)) done
