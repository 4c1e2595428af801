use mathlib.Core.Path.{◌∙◌, ap, ap₂}
use native.Mathlib.Omega.{arith}
use lib.ListN.{get_or}
use Rattle.math.proofs.lists.Padded.{padded-none, padded-next, padded_done}
use Rattle.ntt_product.specs.Crt.{crt_of, crt_all_of}
use Rattle.ntt_product.proofs.crt.crt_all.Goals as goal

pub loop-k-init : goal.loop-k-init
loop-k-init c = (omega arith, padded-none 64 0 _)

pub crt-requires : goal.crt-requires
crt-requires c =
    let h = c.requires in
    let k = c.loop-k.k in (
      omega (arith, c.from.ensures, h.first k (omega arith)),
      omega (arith, c.from-in-loop-k.ensures, h.second k (omega arith)),
      omega
          (arith, c.from-in-loop-k-2.ensures, h.third k (omega arith)),
    )

pub overflow_cast-out : goal.overflow_cast-out
overflow_cast-out c = omega (arith, c.crt.ensures.1)

pub loop-k-preserved : goal.loop-k-preserved
loop-k-preserved c =
    let s = c.args in
    let l = c.loop-k in (
      omega arith,
      padded-next 64 0 _ _ _ _ l.invariant.1 (omega arith)
          (c.crt.ensures.0
          ∙ ap₂ (λ x y. crt_of x y c.from-in-loop-k-2.result) c.from.ensures c.from-in-loop-k.ensures
          ∙ ap (crt_of (get_or s.first l.k 0) (get_or s.second l.k 0)) c.from-in-loop-k-2.ensures),
    )

pub returns : goal.returns
unfolding crt_all_of
returns c = padded_done 64 0 _ _ _ c.loop-k.invariant.1 (omega arith)
