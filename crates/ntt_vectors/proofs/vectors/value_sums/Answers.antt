use mathlib.Core.Path.{◌≡◌, ap, ◌∙◌}
use Prim.Native.Nat.{ℕ, ◌+◌}
use native.Mathlib.Omega.{arith}
use lib.ListN.{length, length-replicate}
use Rattle.ntt_vectors.specs.NttForm.{value_sums}
use Rattle.ntt_vectors.proofs.ValueSums.{length-sums, sums_none, sums_next, sums-room}
use Rattle.ntt_vectors.proofs.vectors.value_sums.Goals as goal

pub loop-m-init : goal.loop-m-init
loop-m-init c = (omega arith, omega arith, omega arith, sums_none _ _ _ _, length-replicate {A = ℕ} 64 0)

pub add_values-requires : goal.add_values-requires
add_values-requires c =
    let l = c.loop-m in
    let p = c.requires in
    let s = c.args in (
      l.invariant.4,
      omega (arith, p.0.within l.m (omega arith)),
      omega (arith, p.1.within l.m (omega arith)),
      sums-room s.x.now s.x_at s.y.now s.y_at l.m s.n p.0 p.1 p.2 (omega arith) l.sums l.i l.j l.invariant.3 l.invariant.1 l.invariant.2,
    )

pub overflow_add-i : goal.overflow_add-i
overflow_add-i c =
    let l = c.loop-m in
    omega (arith, c.requires.0.within l.m (omega arith))

pub overflow_add-j : goal.overflow_add-j
overflow_add-j c =
    let l = c.loop-m in
    omega (arith, c.requires.1.within l.m (omega arith))

pub loop-m-preserved : goal.loop-m-preserved
loop-m-preserved c =
    let l = c.loop-m in
    let s = c.args in
    let e = sums_next s.x.now s.x_at s.y.now s.y_at l.m l.sums _ l.i l.j l.invariant.3 l.invariant.1 l.invariant.2 c.add_values.ensures in
    (omega arith, omega arith, omega arith, e, ap length e ∙ length-sums s.x.now s.x_at s.y.now s.y_at (l.m + 1))

pub returns : goal.returns
returns c =
    let s = c.args in
    let l = c.loop-m in
    let n : l.m ≡ s.n = omega arith in
    l.invariant.3 ∙ ap (value_sums s.x.now s.x_at s.y.now s.y_at) n
