-- `inner_product` meets its contract.
use mathlib.Core.Path.{◌∙◌, ap}
use native.Mathlib.Omega.{arith}
use lib.ListN.{length}
use Rattle.math.specs.lists.Part.{splice}
use Rattle.core_aggregate.proofs.Grid.{row-run}
use Rattle.bench_calls.proofs.Sizes.{inner_product_sizes}
use Rattle.bench_calls.proofs.work.inner_product.Goals as goal

pub inner_product-requires : goal.inner_product-requires
inner_product-requires c =
    let a = c.args in
    let h = inner_product_sizes (length a.x.now) (length a.y.now) (length a.out.now) a.n c.requires in (
      row-run a.x.now 0 a.n (omega (arith, h)) (omega (arith, h)) (omega (arith, h)),
      row-run a.y.now 0 a.n (omega (arith, h)) (omega (arith, h)) (omega (arith, h)),
    )

pub store-requires : goal.store-requires
store-requires c =
    let a = c.args in
    omega (arith, inner_product_sizes (length a.x.now) (length a.y.now) (length a.out.now) a.n c.requires)

pub returns : goal.returns
returns c = c.store.ensures ∙ ap (splice c.args.out.now 0) c.inner_product.ensures
