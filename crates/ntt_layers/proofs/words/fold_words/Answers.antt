use native.Mathlib.Omega.{arith}
use Rattle.math.proofs.lists.Padded.{padded-none, padded-next, padded_done}
use Rattle.ntt_layers.specs.Words.{folded_of}
use Rattle.ntt_layers.proofs.words.fold_words.Goals as goal

pub loop-k-init : goal.loop-k-init
loop-k-init c = (omega arith, padded-none 64 0 _)

pub loop-k-preserved : goal.loop-k-preserved
loop-k-preserved c = (omega arith, padded-next 64 0 _ _ _ _ c.loop-k.invariant.1 (omega arith) c.fold_word.ensures)

pub returns : goal.returns
unfolding folded_of
returns c = padded_done 64 0 _ _ _ c.loop-k.invariant.1 (omega arith)
