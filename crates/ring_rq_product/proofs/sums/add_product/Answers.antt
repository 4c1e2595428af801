use Rattle.std.proofs.Common.{◌≡◌, ℕ, ◌+◌, ◌*◌, ◌%◌, ◌^◌, ◌<◌, List, get_or, ap, ◌∙◌, arith, w32, Fits, rules}
use Rattle.math.specs.lists.Table.{table}
use Rattle.math.proofs.lists.Table.{get_or-table}
use Rattle.math.proofs.lists.Padded.{padded-none, padded_done}
use Rattle.spec_leaves.specs.Zq.{Q}
use Rattle.spec_leaves.specs.Rq.{coeff, rmul}
use Rattle.spec_leaves.proofs.Modulo.{add_remainder}
use Rattle.ring_rq_product.specs.Product.{extended, reversed, folded, growth}
use Rattle.ring_rq_product.specs.Sums.{Added}
use Rattle.ring_rq_product.proofs.Fours.{padded_four}
use Rattle.ring_rq_product.proofs.Halves.{growth-small, folded-small}
use Rattle.ring_rq_product.proofs.Coefficient.{product_at, kernel_fits}
use Rattle.ring_rq_product.proofs.sums.add_product.Invariants.{with_kernel}
use Rattle.ring_rq_product.proofs.sums.add_product.Goals as goal

-- such sums have the product added
added : (sums a b x y result : List ℕ) → x ≡ reversed b → y ≡ extended a → ((i : ℕ) → i < 64 → coeff a i < 2 ^ 32) → ((i : ℕ) → i < 64 → coeff b i < 2 ^ 32)
    → result ≡ table 64 (with_kernel sums x y) → Added growth sums (rmul a b) result
unfolding with_kernel
added sums a b x y result ex ey wa wb e = record {
  value = λ k h.
      ap (λ r. get_or r k 0 % Q) e
      ∙ ap (λ v. v % Q) (get_or-table 64 (with_kernel sums x y) k 0 h)
      ∙ add_remainder Q (get_or sums k 0) (folded x y (k + 1)) _ (product_at x y a b (ex, ey, wa) k h);
  bound = λ k h.
      let f = kernel_fits a b x y ex ey wa wb in
      omega (arith, ap (λ r. get_or r k 0) e ∙ get_or-table 64 (with_kernel sums x y) k 0 h, folded-small x y (k + 1) (omega arith) (omega arith) f.2 f.3);
}

-- sum k + off, from what the kernel gives
sum_at : (sums x y : List ℕ) (k off r : ℕ) → r ≡ folded x y (k + 1 + off) → get_or sums (k + off) 0 + r ≡ with_kernel sums x y (k + off)
unfolding with_kernel
sum_at sums x y k off r e =
    let place : k + 1 + off ≡ k + off + 1 = omega arith in
    ap (λ t. get_or sums (k + off) 0 + t) (e ∙ ap (folded x y) place)

pub four-f-requires : goal.four-f-requires
four-f-requires c =
    let s = c.args in
    let l = c.loop-b in
    let f = kernel_fits s.a s.b _ _ c.reverse-x.ensures c.extend-y.ensures
    (λ i l. let f : Fits w32 (get_or s.a i 0) = search rules in omega arith)
    (λ i l. let f : Fits w32 (get_or s.b i 0) = search rules in omega arith) in
    (f.0, omega arith, f.2, f.3)

pub overflow_add-out : goal.overflow_add-out
overflow_add-out c =
    let l = c.loop-b in
    let room = c.requires (4 * l.b) (omega arith) in
    omega (arith, growth-small, c.four-f.ensures.a_le_growth.0, room)

pub overflow_add-out-in-loop-b-2 : goal.overflow_add-out-in-loop-b-2
overflow_add-out-in-loop-b-2 c =
    let l = c.loop-b in
    let room = c.requires (4 * l.b + 1) (omega arith) in
    omega (arith, growth-small, c.four-f.ensures.a_le_growth.1, room)

pub overflow_add-out-in-loop-b-5 : goal.overflow_add-out-in-loop-b-5
overflow_add-out-in-loop-b-5 c =
    let l = c.loop-b in
    let room = c.requires (4 * l.b + 2) (omega arith) in
    omega (arith, growth-small, c.four-f.ensures.a_le_growth.2, room)

pub overflow_add-out-in-loop-b-8 : goal.overflow_add-out-in-loop-b-8
overflow_add-out-in-loop-b-8 c =
    let l = c.loop-b in
    let room = c.requires (4 * l.b + 3) (omega arith) in
    omega (arith, growth-small, c.four-f.ensures.a_le_growth.3, room)

pub loop-b-preserved : goal.loop-b-preserved
unfolding with_kernel
loop-b-preserved c =
    let s = c.args in
    let l = c.loop-b in
    let f = c.four-f.ensures in (
      omega arith,
      padded_four _ l.out l.b _ _ _ _ l.invariant.1 (omega arith) (ap (λ t. get_or s.sums (4 * l.b) 0 + t) f.a_value.0) (sum_at s.sums _ _ (4 * l.b) 1 _ f.a_value.1)
          (sum_at s.sums _ _ (4 * l.b) 2 _ f.c_value.0) (sum_at s.sums _ _ (4 * l.b) 3 _ f.c_value.1),
    )

pub returns : goal.returns
returns c =
    let s = c.args in
    let n : 4 * c.loop-b.b ≡ 64 = omega arith in
    added s.sums s.a s.b _ _ _ c.reverse-x.ensures c.extend-y.ensures
    (λ i l. let f : Fits w32 (get_or s.a i 0) = search rules in omega arith)
    (λ i l. let f : Fits w32 (get_or s.b i 0) = search rules in omega arith)
    (padded_done 64 0 _ _ _ c.loop-b.invariant.1 n)

pub loop-b-init : goal.loop-b-init
loop-b-init c = (omega arith, padded-none 64 0 _)
