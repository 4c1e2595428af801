-- `remainder` meets its contract.
use mathlib.Core.Path.{◌∙◌, ap}
use Prim.Native.Nat.{◌%◌}
use Rattle.ntt_layers.specs.Fold.{prime}
use Rattle.ntt_layers.proofs.Folds.{reduced-mod}
use Rattle.ntt_layers.proofs.fold.PseudoMersenne.remainder.Goals as goal

pub returns : goal.returns
returns c =
    let s = c.args in
    c.from.ensures ∙ c.rest.ensures ∙ ap (λ x. x % prime s.self.delta) c.reduce.ensures.0 ∙ reduced-mod s.self.delta s.z c.args.self.small
