-- One more product with digits in the totals.
use mathlib.Core.Path.{◌≡◌, sym, ◌∙◌, ap, subst}
use mathlib.Core.List.{List}
use Prim.Native.Nat.{ℕ, ◌+◌, ◌*◌, ◌≤◌, ◌<◌, ◌^◌}
use native.Mathlib.Nat.{zero-add}
use native.Mathlib.Omega.{arith}
use lib.ListN.{length, get_or}
use Rattle.math.specs.lists.Table.{table}
use Rattle.math.specs.lists.Part.{part}
use Rattle.math.proofs.lists.Splice.{get_d_part}
use Rattle.spec_leaves.specs.Zq.{Q, size}
use Rattle.spec_leaves.specs.Rq.{coeff, rmul}
use Rattle.ring_rq_product.specs.Product.{AllWords, reversed}
use Rattle.ring_rq_product.specs.Sums.{Added}
use Rattle.ring_inner_product.proofs.Totals.{Totals, totals_next, product_of}
use Rattle.ring_digit_products.specs.Forms.{Formed, SmallDigits}
use Rattle.ring_digit_products.specs.Small.{products_sum, complement, Factors}
use Rattle.ring_digit_products.proofs.Values.{product_added}
use Rattle.ring_digit_products.proofs.Shifted.{form_small}

module _ (v forms : List ℕ) (half n m : ℕ) (f : Formed forms half v n) (d : SmallDigits half v n) (h : half ≤ 2 ^ 15) (less : m < n) where
  -- the coefficients of element m
  canonical : (i : ℕ) → i < 64 → coeff (part v (64 * m) 64) i < Q
  canonical i l = rw (get_d_part 0 v (64 * m) 64 i l) (d.canonical (64 * m + i) (omega arith))

  within : (i : ℕ) → i < 64 → size (coeff (part v (64 * m) 64) i) ≤ half
  within i l = rw (get_d_part 0 v (64 * m) 64 i l) (d.within (64 * m + i) (omega arith))

  -- what the products ask of the factors
  pub factors : (x : List ℕ) (start : ℕ) → AllWords x → length x ≡ 64 → start ≤ 2 ^ 54 → Factors x forms (128 * m) 128 start
  factors x start words count first = record {
    words = words;
    count = count;
    within = omega (arith, f.room);
    small = form_small (part v (64 * m) 64) forms (128 * m) half (f.each m less) h canonical within;
    first = first;
  }

  -- one more product
  pub totals_more : (matrix : List ℕ) (at : ℕ) (b x totals next : List ℕ) → b ≡ part matrix (at + 64 * m) 64 → x ≡ reversed b → Factors x forms (128 * m) 128 (complement x half)
      → next ≡ table 64 (λ k. get_or totals k 0 + (complement x half + products_sum x forms (128 * m + k + 1)))
      → Totals (2 ^ 55) totals m (product_of matrix at 64 v 0 64) → Totals (2 ^ 55) next (m + 1) (product_of matrix at 64 v 0 64)
  totals_more matrix at b x totals next eb ex fx en t =
      let same : rmul b (part v (64 * m) 64) ≡ product_of matrix at 64 v 0 64 m =
      ap (λ w. rmul w (part v (64 * m) 64)) eb ∙ ap (λ p. rmul (part matrix (at + 64 * m) 64) (part v p 64)) (sym (zero-add (64 * m))) in
      totals_next (2 ^ 55) totals next m (product_of matrix at 64 v 0 64) t
      (subst (λ e. Added (2 ^ 55) totals e next) same
      (product_added totals (part v (64 * m) 64) b x forms next (128 * m) half ex (f.each m less) (λ i l. omega (arith, canonical i l)) fx en))
