-- `store_of_a` meets its contract.
use mathlib.Core.Path.{ap, ◌∙◌}
use native.Mathlib.Omega.{arith}
use Prim.Native.Nat.{◌+◌, ◌*◌, ◌≤◌, ◌^◌}
use Rattle.math.specs.lists.Part.{splice}
use Rattle.verifier_common.proofs.Sent.{reckoned}
use Rattle.verify_many_windows.proofs.Products.{a_bounds, a_requires, a_is}
use Rattle.verify_many_windows.proofs.row.store_of_a.Goals.{After-of_job}
use Rattle.verify_many_windows.proofs.row.store_of_a.Goals as goal

-- the row's place is small
bounds : (c : After-of_job)
    → let s = c.args in
    (s.k * s.params.rank ≤ 1024) × (c.of_job.result + 64 * (s.k * s.params.rank) ≤ 2 ^ 62)
bounds c =
    a_bounds _ _ _ c.requires.0 _ _ (omega arith) c.of_job.ensures c.requires.1

pub of_job-requires : goal.of_job-requires
of_job-requires c = (reckoned c.requires.0, omega arith)

pub of_transcript-z_at-requires : goal.of_transcript-z_at-requires
of_transcript-z_at-requires c = (reckoned c.requires.0, omega arith)

pub inner_product-product-requires : goal.inner_product-product-requires
inner_product-product-requires c =
    a_requires _ _ _ c.requires.0 _ _ _ (omega arith) (omega arith) c.of_job.ensures c.of_transcript-z_at.ensures c.requires.1

pub returns : goal.returns
returns c =
    c.store.ensures
    ∙ ap (splice c.args.scratch.now c.args.place)
    (a_is _ _ _ c.requires.0 _ _ c.args.k _ c.of_job.ensures c.of_transcript-z_at.ensures
    c.inner_product-product.ensures)

pub overflow_mul-row : goal.overflow_mul-row
overflow_mul-row c = omega (arith, (bounds (goal.at.overflow_mul-row c).After-of_job).0)

pub overflow_mul-row-2 : goal.overflow_mul-row-2
overflow_mul-row-2 c = omega (arith, (bounds (goal.at.overflow_mul-row-2 c).After-of_job).0)

pub overflow_add-row : goal.overflow_add-row
overflow_add-row c = omega (arith, (bounds (goal.at.overflow_add-row c).After-of_job).1)
