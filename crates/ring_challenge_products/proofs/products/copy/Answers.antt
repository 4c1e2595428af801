use mathlib.Core.Path.{◌≡◌, refl, sym, ap, ◌∙◌}
use Prim.Native.Nat.{ℕ, ◌+◌}
use native.Mathlib.Omega.{arith}
use lib.ListN.{get_or, set, length-set}
use Rattle.math.specs.lists.Table.{table}
use Rattle.math.specs.lists.Part.{splice}
use Rattle.math.proofs.lists.Splice.{splice-nil}
use Rattle.math.proofs.lists.Fill.{splice-table-next}
use Rattle.ring_challenge_products.proofs.products.copy.Goals as goal

pub loop-m-init : goal.loop-m-init
unfolding table
loop-m-init c = (omega arith, sym (splice-nil _ _), refl)

pub loop-m-preserved : goal.loop-m-preserved
loop-m-preserved c =
    let l = c.loop-m in
    let s = c.args in
    let f : ℕ → ℕ = λ i. get_or s.from.now i 0 in (
      omega arith,
      ap (λ w. set w (s.at + l.m) (f l.m)) l.invariant.1 ∙ splice-table-next s.e.now s.at l.m f (f l.m) refl,
      simp length-set l.invariant.2,
    )

pub returns : goal.returns
returns c =
    let l = c.loop-m in
    let s = c.args in
    let n : l.m ≡ s.count = omega arith in
    l.invariant.1 ∙ ap (λ m. splice s.e.now s.at (table m (λ i. get_or s.from.now i 0))) n
