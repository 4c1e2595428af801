use mathlib.Core.Path.{◌≡◌, ap, ap₂}
use Prim.Native.Nat.{◌+◌, ◌*◌}
use native.Mathlib.Omega.{arith}
use lib.ListN.{get_or}
use Rattle.math.proofs.lists.Padded.{padded-none, padded-next, padded_done}
use Rattle.ntt_product.specs.NttForm.{values_added}
use Rattle.ntt_product.proofs.ntt_form.add_values.Goals as goal

pub loop-k-init : goal.loop-k-init
loop-k-init c = (omega arith, padded-none 64 0 _)

pub overflow_mul-out : goal.overflow_mul-out
overflow_mul-out c =
    let s = c.args in
    let k = c.loop-k.k in
    let e : c.from.result * c.from-in-loop-k.result ≡ get_or s.x k 0 * get_or s.y k 0 = ap₂ ◌*◌ c.from.ensures c.from-in-loop-k.ensures in
    omega (arith, c.requires k (omega arith))

pub overflow_add-out : goal.overflow_add-out
overflow_add-out c =
    let s = c.args in
    let k = c.loop-k.k in
    let e : c.from.result * c.from-in-loop-k.result ≡ get_or s.x k 0 * get_or s.y k 0 = ap₂ ◌*◌ c.from.ensures c.from-in-loop-k.ensures in
    omega (arith, c.requires k (omega arith))

pub loop-k-preserved : goal.loop-k-preserved
loop-k-preserved c =
    let s = c.args in
    let k = c.loop-k.k in
    let e : c.from.result * c.from-in-loop-k.result ≡ get_or s.x k 0 * get_or s.y k 0 = ap₂ ◌*◌ c.from.ensures c.from-in-loop-k.ensures in
    (omega arith, padded-next 64 0 _ _ _ _ c.loop-k.invariant.1 (omega arith) (ap (λ p. get_or s.s k 0 + p) e))

pub returns : goal.returns
unfolding values_added
returns c = padded_done 64 0 _ _ _ c.loop-k.invariant.1 (omega arith)
