use Rattle.std.proofs.Common.{ℕ, ◌%◌, ◌^◌, ◌<◌, get_or, ap, ◌∙◌, arith, w32, Fits, rules}
use Rattle.math.proofs.lists.Table.{length-table, table-get_or}
use Rattle.math.proofs.lists.Padded.{padded-none, padded-next, padded_done}
use Rattle.spec_leaves.specs.Zq.{Q}
use Rattle.spec_leaves.specs.Rq.{rmul, coeff}
use Rattle.ring_rq_product.proofs.Coefficient.{product_at, kernel_fits}
use Rattle.ring_rq_product.proofs.product.multiply.Goals as goal

-- The step: what is stored at k is the product's coefficient k, so that k + 1 coefficients are finished.
pub loop-k-preserved : goal.loop-k-preserved
loop-k-preserved c =
    let l = c.loop-k in (
      omega arith,
      λ a b forms. padded-next 64 0 _ _ _ _ (l.invariant.1 a b forms) (omega arith) (ap (λ t. t % Q) c.dot.ensures ∙ product_at _ _ a b forms l.k (omega arith)),
    )

pub dot-requires : goal.dot-requires
dot-requires c =
    let s = c.args in
    let fits = kernel_fits s.a s.b _ _ c.reverse-x.ensures c.extend-y.ensures
    (λ i l. let f : Fits w32 (get_or s.a i 0) = search rules in omega arith)
    (λ i l. let f : Fits w32 (get_or s.b i 0) = search rules in omega arith) in
    (fits.0, omega (arith, fits.1), fits.2, fits.3)

-- After the last coefficient the product is finished.
pub returns : goal.returns
unfolding rmul
returns c =
    let a = c.args.a in
    let b = c.args.b in
    let words : (i : ℕ) → i < 64 → coeff a i < 2 ^ 32 = λ i l. let f : Fits w32 (get_or a i 0) = search rules in omega arith in
    padded_done 64 0 _ _ _ (c.loop-k.invariant.1 a b (c.reverse-x.ensures, c.extend-y.ensures, words)) (omega arith)
    ∙ table-get_or 64 (rmul a b) 0 (length-table 64 _)

pub loop-k-init : goal.loop-k-init
loop-k-init c = (omega arith, λ a b forms. padded-none 64 0 _)
