-- `reduce` meets its contract.
use mathlib.Core.Path.{◌≡◌, ◌∙◌, ap}
use native.Mathlib.Omega.{arith}
use Rattle.ntt_layers.specs.Fold.{fold, reduced}
use Rattle.ntt_layers.proofs.Folds.{fold-once, reduced-bound}
use Rattle.ntt_layers.proofs.fold.PseudoMersenne.reduce.Goals as goal

pub fold-requires-2 : goal.fold-requires-2
fold-requires-2 c = omega (arith, c.fold.ensures, fold-once c.args.self.delta c.args.z c.args.self.small c.requires)

pub returns : goal.returns
unfolding reduced
returns c =
    let s = c.args in
    let h = c.requires in
    let e : c.fold-2.result ≡ reduced s.self.delta s.z = c.fold-2.ensures ∙ ap (fold s.self.delta) c.fold.ensures in
    (e, omega (arith, reduced-bound s.self.delta s.z s.self.small h))
