use mathlib.Core.Path.{◌≡◌, ap, subst, ◌∙◌}
use mathlib.Core.List.{List}
use Prim.Native.Nat.{ℕ, ◌%◌, ◌^◌}
use native.Mathlib.Omega.{arith}
use lib.ListN.{get_or, length-replicate}
use Rattle.math.specs.lists.Sum.{Σ}
use Rattle.math.specs.lists.Part.{part}
use Rattle.math.proofs.lists.Table.{table_ext}
use Rattle.spec_leaves.specs.Zq.{Q}
use Rattle.spec_leaves.specs.Rq.{coeff}
use Rattle.ring_inner_product.proofs.Totals.{totals_none, totals_next}
use Rattle.ring_challenge_products.specs.Powers.{powers_product}
use Rattle.ring_challenge_products.specs.Sums.{Extension}
use Rattle.ring_challenge_products.proofs.Grown.{row_added, row_of}
use Rattle.ring_challenge_products.proofs.products.inner_product.Invariants.{product_of}
use Rattle.ring_challenge_products.proofs.products.inner_product.Goals as goal

pub add_row-requires : goal.add_row-requires
add_row-requires c =
    let l = c.loop-i in (
      record { count = l.invariant.3; each = λ k h. omega (arith, l.invariant.2.bound k h, c.requires.1.few) },
      row_of c.args.powers.now l.i c.args.r c.requires.0 (omega arith),
      c.extend-e.ensures.entries,
    )

pub overflow_add-j : goal.overflow_add-j
overflow_add-j c =
    let run = c.requires.1 in
    omega (arith, run.within c.loop-i.i (omega arith), run.few, run.near, run.first)

pub loop-i-preserved : goal.loop-i-preserved
loop-i-preserved c =
    let l = c.loop-i in
    let grown = c.add_row.ensures in
    let a = c.load.ensures ∙ ap (λ at. part c.args.x.now at 64) l.invariant.1 in
    let e = subst (Extension _) a c.extend-e.ensures in (
      omega arith,
      omega arith,
      totals_next (2 ^ 39) l.totals _ l.i (product_of c.args.powers.now c.args.x.now c.args.x_at c.args.x_step) l.invariant.2
          (row_added l.totals _ c.args.powers.now l.i _ _ (row_of c.args.powers.now l.i c.args.r c.requires.0 (omega arith)) e grown),
      grown.count,
    )

pub returns : goal.returns
unfolding powers_product
returns c =
    let s = c.args in
    let l = c.loop-i in
    let f : ℕ → List ℕ = product_of s.powers.now s.x.now s.x_at s.x_step in
    let n : l.i ≡ s.r = omega arith in
    c.reduce.ensures
    ∙ table_ext 64 (λ k. get_or l.totals k 0 % Q) (λ k. Σ s.r (λ i. coeff (f i) k) % Q) (λ k h. l.invariant.2.value k h ∙ ap (λ m. Σ m (λ i. coeff (f i) k) % Q) n)

pub loop-i-init : goal.loop-i-init
loop-i-init c = (omega arith, omega arith, totals_none _ _, length-replicate {A = ℕ} 64 0)

pub load-requires : goal.load-requires
load-requires c = omega (arith, c.requires.1.within c.loop-i.i (omega arith))

pub overflow_mul-i : goal.overflow_mul-i
overflow_mul-i c = omega (arith, c.requires.1.few)
