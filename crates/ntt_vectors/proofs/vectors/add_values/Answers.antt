-- `add_values` meets its contract.
use mathlib.Core.Path.{◌≡◌, sym, ◌∙◌, ap, subst}
use mathlib.Core.List.{List}
use Prim.Native.Nat.{ℕ, ◌+◌, ◌*◌, ◌<◌, ◌^◌}
use native.Mathlib.Nat.{zero-add}
use native.Mathlib.Omega.{arith}
use lib.ListN.{length, get_or}
use Rattle.math.specs.lists.Table.{table}
use Rattle.math.specs.lists.Part.{splice}
use Rattle.math.proofs.lists.Table.{is_table}
use Rattle.math.proofs.lists.Splice.{length-splice}
use Rattle.math.proofs.lists.Fill.{get_or-splice-table}
use Rattle.ntt_vectors.specs.NttForm.{values_added}
use Rattle.ntt_vectors.specs.Sums.{product_added}
use Rattle.ntt_vectors.proofs.vectors.add_values.Goals as goal

-- all 64
whole : (sums x y result : List ℕ) (x-at y-at : ℕ) → length sums ≡ 64 → result ≡ splice sums 0 (table 64 (product_added sums 0 x x-at y y-at)) → result ≡ values_added sums x x-at y y-at
unfolding values_added
whole sums x y result x-at y-at n e =
    let f : ℕ → ℕ = product_added sums 0 x x-at y y-at in
    is_table 64 result (λ k. get_or sums k 0 + get_or x (x-at + k) 0 * get_or y (y-at + k) 0) 0 (ap length e ∙ length-splice sums 0 (table 64 f) ∙ n)
    (λ k h. ap (λ r. get_or r k 0) e ∙ ap (λ i. get_or (splice sums 0 (table 64 f)) i 0) (sym (zero-add k))
    ∙ get_or-splice-table sums 0 64 f k 0 h (omega arith)
    ∙ ap (λ i. get_or sums i 0 + get_or x (x-at + k) 0 * get_or y (y-at + k) 0) (zero-add k))

pub add_products-requires : goal.add_products-requires
add_products-requires c =
    let s = c.args in (
      omega arith,
      omega arith,
      omega arith,
      λ k h. subst (λ i. get_or s.sums.now i 0 + get_or s.x.now (s.x_at + k) 0 * get_or s.y.now (s.y_at + k) 0 < 2 ^ 64) (sym (zero-add k)) (c.requires.3 k h),
    )

pub returns : goal.returns
returns c =
    let s = c.args in
    whole s.sums.now s.x.now s.y.now _ s.x_at s.y_at (omega arith) c.add_products.ensures
