-- `crt` meets its contract.
use mathlib.Core.Path.{◌≡◌, ◌∙◌, ap, ap₂}
use Prim.Native.Nat.{◌+◌, ◌*◌, ◌%◌}
use native.Mathlib.Nat.{mod-lt}
use native.Mathlib.Omega.{arith}
use Rattle.spec_leaves.specs.Zq.{Q}
use Rattle.ntt_product.specs.Crt.{middle_of, top_of, pair_Q, crt_of}
use Rattle.ntt_product.proofs.crt.crt.Goals as goal

pub returns : goal.returns
unfolding crt_of
returns c =
    let s = c.args in
    let m : c.remainder-middle.result ≡ middle_of s.first s.second = c.remainder-middle.ensures in
    let t : c.remainder-top.result ≡ top_of s.first (middle_of s.first s.second) s.third = c.remainder-top.ensures ∙ ap (λ x. top_of s.first x s.third) m in
    (ap₂ (λ x y. (s.first + 134217089 * x + pair_Q * y) % Q) m t, mod-lt _ (omega arith))
