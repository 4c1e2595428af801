-- `mix` meets its contract.
use mathlib.Core.Path.{◌∙◌, sym, ap₂}
use Rattle.math.specs.algebra.Ops.{dot}
use Rattle.spec_leaves.specs.Rq.{radd}
use Rattle.spec_leaves.specs.Ring.{RqOps}
use Rattle.spec_leaves.proofs.Bridge.{words-add}
use Rattle.ring_inner_product.specs.Run.{run, strided}
use Rattle.core_aggregate.specs.Weighed.{mixed}
use Rattle.core_aggregate.proofs.mix.Goals as goal

pub returns : goal.returns
unfolding mixed
returns c =
    let s = c.args in
    c.add.ensures
    ∙ ap₂ radd c.inner_product-first.ensures c.inner_product-second.ensures
    ∙ sym (words-add (dot RqOps s.constraints.count (run s.weights.now s.alpha 64) (strided s.job.now s.constraints))
    (dot RqOps s.aggregated.count (run s.weights.now s.beta 64) (strided s.source.now s.aggregated)))
