use mathlib.Core.Path.{◌≡◌, refl, sym, ◌∙◌, ap}
use Prim.Native.Nat.{ℕ, ◌+◌, ◌%◌}
use native.Mathlib.Omega.{arith}
use lib.ListN.{get_or, set, length-set}
use Rattle.math.specs.lists.Table.{table}
use Rattle.math.specs.lists.Part.{splice}
use Rattle.math.proofs.lists.Splice.{splice-nil}
use Rattle.math.proofs.lists.Fill.{splice-table-next}
use Rattle.spec_leaves.specs.Zq.{Q}
use Rattle.ring_digit_products.proofs.forms.store_shifted.Goals as goal

pub loop-m-init : goal.loop-m-init
unfolding table
loop-m-init c = (omega arith, sym (splice-nil _ _), refl)

pub shift-requires : goal.shift-requires
shift-requires c = (omega (arith, c.from.ensures), c.requires.0)

pub loop-m-preserved : goal.loop-m-preserved
loop-m-preserved c =
    let s = c.args in
    let l = c.loop-m in
    let f : ℕ → ℕ = λ j. (get_or s.a j 0 + s.half) % Q in (
      omega arith,
      ap (λ w. set w (s.to + l.m) c.shift.result) l.invariant.1
          ∙ splice-table-next s.forms.now s.to l.m f c.shift.result (c.shift.ensures ∙ ap (λ x. (x + s.half) % Q) c.from.ensures),
      simp length-set l.invariant.2,
    )

pub returns : goal.returns
returns c =
    let s = c.args in
    let l = c.loop-m in
    let n : l.m ≡ 64 = omega arith in
    l.invariant.1 ∙ ap (λ m. splice s.forms.now s.to (table m (λ j. (get_or s.a j 0 + s.half) % Q))) n
