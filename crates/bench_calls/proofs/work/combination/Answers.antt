-- `combination` meets its contract.
use mathlib.Core.Path.{◌∙◌, ap}
use native.Mathlib.Nat.{zero-add}
use native.Mathlib.Omega.{arith}
use lib.ListN.{length, get_or}
use Rattle.math.specs.lists.Part.{splice}
use Rattle.spec_leaves.specs.Ring.{words, scale}
use Rattle.ring_inner_product.specs.Run.{run}
use Rattle.spec_protocol.specs.Formulas.{sum}
use Rattle.core_aggregate.proofs.Grid.{row-run}
use Rattle.bench_calls.proofs.Sizes.{combination_sizes}
use Rattle.bench_calls.proofs.work.combination.Goals as goal

pub linear_combination-requires : goal.linear_combination-requires
linear_combination-requires c =
    let a = c.args in
    let h = combination_sizes (length a.x.now) (length a.factors.now) (length a.out.now) a.n c.requires in
    (row-run a.x.now 0 a.n (omega (arith, h)) (omega (arith, h)) (omega (arith, h)), omega (arith, h))

pub store-requires : goal.store-requires
store-requires c =
    let a = c.args in
    omega (arith, combination_sizes (length a.x.now) (length a.factors.now) (length a.out.now) a.n c.requires)

pub returns : goal.returns
returns c =
    let a = c.args in
    c.store.ensures
    ∙ ap (splice a.out.now 0)
    (c.linear_combination.ensures ∙ ap (λ f. words (sum a.n f)) (λ i m. scale (run a.x.now 0 64 m) (get_or a.factors.now (zero-add m i) 0)))
