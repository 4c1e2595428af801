use mathlib.Core.Path.{◌≡◌, refl, sym, ◌∙◌, ap, ap₂}
use Prim.Native.Nat.{ℕ, ◌+◌}
use native.Mathlib.Omega.{arith}
use Rattle.math.specs.lists.Sum.{Σ}
use Rattle.math.proofs.lists.Sum.{Σ-suc}
use Rattle.spec_leaves.specs.Ring.{element}
use Rattle.ring_inner_product.specs.Run.{run}
use Rattle.spec_protocol.specs.Conditions.{two_parts_norm}
use Rattle.spec_protocol.proofs.Norms.{parts_of-table}
use Rattle.ring_digit_norms.proofs.parts.two_parts_norm.Goals as goal

pub loop-m-init : goal.loop-m-init
unfolding Σ
loop-m-init c = (omega arith, refl, omega arith)

pub loop-m-preserved : goal.loop-m-preserved
loop-m-preserved c =
    let s = c.args in
    let l = c.loop-m in
    let f : ℕ → ℕ = λ k. two_parts_norm s.base (run s.from.now s.at 64 k) in
    let cell = c.settled.ensures.0 ∙ ap element c.load.ensures in (
      omega arith,
      c.add_two_parts_norm-total.ensures.0 ∙ ap₂ ◌+◌ l.invariant.1 (ap (two_parts_norm s.base) cell) ∙ sym (Σ-suc l.m f),
      omega arith,
    )

pub returns : goal.returns
returns c =
    let s = c.args in
    let l = c.loop-m in
    let n : l.m ≡ s.count = omega arith in
    let f = run s.from.now s.at 64 in (
      l.invariant.1 ∙ ap (λ k. Σ k (λ m. two_parts_norm s.base (f m))) n ∙ sym (parts_of-table s.base s.count f),
      omega arith,
    )

pub add_two_parts_norm-total-requires : goal.add_two_parts_norm-total-requires
add_two_parts_norm-total-requires c = (omega arith, omega arith, c.settled.ensures.1)
