use mathlib.Core.Path.{◌≡◌, refl, sym, ◌∙◌, ap}
use mathlib.Core.List.{List, flat_map}
use Prim.Native.Nat.{ℕ, ◌*◌}
use native.Mathlib.Omega.{arith}
use lib.ListN.{length}
use Rattle.math.specs.lists.Table.{table}
use Rattle.math.specs.lists.Part.{part, splice}
use Rattle.math.proofs.lists.Splice.{splice-nil, length-splice}
use Rattle.ring_digit_products.specs.Forms.{shifted}
use Rattle.ring_digit_products.proofs.Shifted.{forms-next}
use Rattle.ring_digit_products.proofs.forms.store_forms.Goals as goal

pub loop-m-init : goal.loop-m-init
unfolding table flat_map
loop-m-init c = (omega arith, sym (splice-nil _ _), refl)

pub loop-m-preserved : goal.loop-m-preserved
loop-m-preserved c =
    let l = c.loop-m in
    let s = c.args in
    let e : ℕ → List ℕ = λ q. part s.v.now (64 * q) 64 in
    let stored = forms-next s.half e s.forms.now l.forms _ l.m l.invariant.1
    (c.store_form.ensures ∙ ap (λ a. splice l.forms (128 * l.m) (shifted s.half a)) c.load.ensures) in
    (omega arith, stored, ap length stored ∙ length-splice _ _ _)

pub returns : goal.returns
returns c =
    let l = c.loop-m in
    let s = c.args in
    let n : l.m ≡ s.n = omega arith in
    l.invariant.1 ∙ ap (λ m. splice s.forms.now 0 (flat_map (shifted s.half) (table m (λ q. part s.v.now (64 * q) 64)))) n

pub store_form-requires : goal.store_form-requires
store_form-requires c = (omega arith, omega arith)
