use mathlib.Core.Path.{◌≡◌, ◌∙◌, ap}
use mathlib.Core.List.{List}
use Prim.Native.Nat.{ℕ, ◌+◌, ◌*◌, ◌≤◌}
use native.Mathlib.Omega.{arith}
use lib.ListN.{get_or}
use Rattle.math.proofs.lists.Padded.{padded-none, padded_done}
use Rattle.ring_rq_product.proofs.Fours.{padded_four}
use Rattle.ring_digit_products.specs.Small.{products_sum, Factors}
use Rattle.ring_digit_products.proofs.small.add_products.Invariants.{entry}
use Rattle.ring_digit_products.proofs.small.add_products.Goals as goal

-- the factors for four sums
later : (x y : List ℕ) (at start k : ℕ) → Factors x y at 128 start → k ≤ 60 → Factors x y (at + k + 1) 67 start
later x y at start k f h = record {
  words = f.words;
  count = f.count;
  within = omega (arith, f.within);
  small = λ j l. let place : at + k + 1 + j ≡ at + (k + 1 + j) = omega arith in omega (arith, ap (λ i. get_or y i 0) place, f.small (k + 1 + j) (omega arith));
  first = f.first;
}

-- an entry `off` places on from what the four sums say
entry_at : (sums x y : List ℕ) (at start k off sum : ℕ) → sum ≡ start + products_sum x y (at + k + 1 + off) → get_or sums (k + off) 0 + sum ≡ entry sums x y at start (k + off)
entry_at sums x y at start k off sum e =
    let place : at + k + 1 + off ≡ at + (k + off) + 1 = omega arith in
    ap (λ t. get_or sums (k + off) 0 + t) (e ∙ ap (λ p. start + products_sum x y p) place)

pub four-f-requires : goal.four-f-requires
four-f-requires c =
    let s = c.args in
    later s.x.now s.y.now s.at s.start (4 * c.loop-b.b) c.requires.0 (omega arith)

pub overflow_add-out : goal.overflow_add-out
overflow_add-out c = omega (arith, c.requires.1 (4 * c.loop-b.b) (omega arith), c.four-f.ensures.a_bound.0)

pub overflow_add-out-in-loop-b-2 : goal.overflow_add-out-in-loop-b-2
overflow_add-out-in-loop-b-2 c = omega (
  arith,
  c.requires.1 (4 * c.loop-b.b + 1) (omega arith),
  c.four-f.ensures.a_bound.1,
)

pub overflow_add-out-in-loop-b-5 : goal.overflow_add-out-in-loop-b-5
overflow_add-out-in-loop-b-5 c = omega (
  arith,
  c.requires.1 (4 * c.loop-b.b + 2)
      (omega arith),
  c.four-f.ensures.a_bound.2,
)

pub overflow_add-out-in-loop-b-8 : goal.overflow_add-out-in-loop-b-8
overflow_add-out-in-loop-b-8 c = omega (
  arith,
  c.requires.1 (4 * c.loop-b.b + 3)
      (omega arith),
  c.four-f.ensures.a_bound.3,
)

pub loop-b-preserved : goal.loop-b-preserved
loop-b-preserved c =
    let l = c.loop-b in
    let s = c.args in
    let f = c.four-f.ensures in
    let entry_of = entry_at s.sums s.x.now s.y.now s.at s.start (4 * l.b) in (
      omega arith,
      padded_four (entry s.sums s.x.now s.y.now s.at s.start) l.out l.b _ _ _ _ l.invariant.1 (omega arith)
          (ap (λ t. get_or s.sums (4 * l.b) 0 + t) f.a_value.0) (entry_of 1 _ f.a_value.1) (entry_of 2 _ f.c_value.0) (entry_of 3 _ f.c_value.1),
    )

pub returns : goal.returns
returns c =
    let l = c.loop-b in
    let n : 4 * l.b ≡ 64 = omega arith in
    padded_done 64 0 _ _ (4 * l.b) l.invariant.1 n

pub loop-b-init : goal.loop-b-init
loop-b-init c = (omega arith, padded-none 64 0 _)

pub overflow_add-at : goal.overflow_add-at
overflow_add-at c = omega (arith, c.requires.0.within)

pub overflow_add-at-in-loop-b : goal.overflow_add-at-in-loop-b
overflow_add-at-in-loop-b c = omega (arith, c.requires.0.within)
