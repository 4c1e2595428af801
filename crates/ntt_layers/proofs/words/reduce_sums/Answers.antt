use mathlib.Core.Path.{◌∙◌, ap}
use native.Mathlib.Omega.{arith}
use Rattle.math.proofs.lists.Padded.{padded-none, padded-next, padded_done}
use Rattle.ntt_layers.specs.Fold.{reduced}
use Rattle.ntt_layers.specs.Words.{reduced_sum, reduced_of}
use Rattle.ntt_layers.proofs.words.reduce_sums.Goals as goal

pub loop-k-init : goal.loop-k-init
loop-k-init c = (omega arith, padded-none 64 0 _)

pub loop-k-preserved : goal.loop-k-preserved
unfolding reduced_sum
loop-k-preserved c =
    let d = c.args.prime.delta in
    let l = c.loop-k in
    (omega arith, padded-next 64 0 _ _ _ _ l.invariant.1 (omega arith) (c.reduce.ensures.0 ∙ ap (reduced d) c.fold_sum.ensures.0))

pub returns : goal.returns
unfolding reduced_of
returns c = padded_done 64 0 _ _ _ c.loop-k.invariant.1 (omega arith)
