-- `inverse` meets its contract.
use mathlib.Core.Path.{◌∙◌, ap, ap₂}
use Prim.Native.Nat.{◌+◌}
use Rattle.math.specs.lists.Part.{part}
use Rattle.ntt_product.specs.NttForm.{inverse_ntt_of}
use Rattle.ntt_vectors.specs.Sums.{inverse_from}
use Rattle.ntt_vectors.proofs.sums.inverse.Goals as goal

pub returns : goal.returns
unfolding inverse_from
returns c =
    let s = c.args in
    c.inverse.ensures
    ∙ ap₂ (λ a b. inverse_ntt_of a b c.load-third.result) c.load-first.ensures c.load-second.ensures
    ∙ ap (inverse_ntt_of (part s.sums.now s.at 64) (part s.sums.now (s.at + 64) 64)) c.load-third.ensures
