use Rattle.std.proofs.Common.{◌≡◌, ℕ, ◌+◌, ◌^◌, ◌<◌, ◌≤◌, List, length, get_or, ◌∙◌, arith}
use Rattle.ring_rq_product.specs.Product.{AllWords, folded, growth, halves_sum}
use Rattle.ring_rq_product.proofs.Halves.{Begun, begun_none, begun_small, begun_next, begun_folded, folded-small}
use Rattle.ring_rq_product.proofs.product.four.Goals as goal

-- what a product asks, of y from a place on
asked : (x y : List ℕ) (at from i sum upper : ℕ) → (length x ≡ 64) × (at + 67 ≤ length y) × AllWords x × AllWords y → Begun x y from i sum upper → i < 64 → from ≤ at + 3
    → (upper ≤ 2 ^ 62) × (get_or x i 0 < 2 ^ 32) × (get_or y (from + i) 0 < 2 ^ 32)
asked x y at from i sum upper h b l p = (omega (arith, begun_small x y from i sum upper b), h.2 i (omega arith), h.3 (from + i) (omega arith))

-- what the joining asks
few : (x y : List ℕ) (from i sum upper : ℕ) → i ≤ 64 → Begun x y from i sum upper → upper ≤ 2 ^ 38
few x y from i sum upper l b = omega (arith, begun_small x y from i sum upper b)

pub add-a-requires : goal.add-a-requires
add-a-requires c =
    let l = c.loop-i in
    asked c.args.x.now c.args.y.now c.args.at c.args.at l.i _ _ c.requires l.invariant.1 (omega arith) (omega arith)

pub add-b-requires : goal.add-b-requires
add-b-requires c =
    let l = c.loop-i in
    asked c.args.x.now c.args.y.now c.args.at (c.args.at + 1) l.i _ _ c.requires l.invariant.2 (omega arith) (omega arith)

pub add-c-requires : goal.add-c-requires
add-c-requires c =
    let l = c.loop-i in
    asked c.args.x.now c.args.y.now c.args.at (c.args.at + 2) l.i _ _ c.requires l.invariant.3 (omega arith) (omega arith)

pub add-d-requires : goal.add-d-requires
add-d-requires c =
    let l = c.loop-i in
    asked c.args.x.now c.args.y.now c.args.at (c.args.at + 3) l.i _ _ c.requires l.invariant.4 (omega arith) (omega arith)

pub loop-i-preserved : goal.loop-i-preserved
loop-i-preserved c =
    let l = c.loop-i in
    let s = c.args in
    let first = c.add-a.ensures in
    let second = c.add-b.ensures in
    let third = c.add-c.ensures in
    let fourth = c.add-d.ensures in (
      omega arith,
      begun_next s.x.now s.y.now s.at l.i _ _ _ _ l.invariant.1 first,
      begun_next s.x.now s.y.now (s.at + 1) l.i _ _ _ _ l.invariant.2 second,
      begun_next s.x.now s.y.now (s.at + 2) l.i _ _ _ _ l.invariant.3 third,
      begun_next s.x.now s.y.now (s.at + 3) l.i _ _ _ _ l.invariant.4 fourth,
    )

pub returns : goal.returns
returns c =
    let l = c.loop-i in
    let s = c.args in
    let h = c.requires in
    let n : l.i ≡ 64 = omega arith in
    let all : (at sum upper r : ℕ) → Begun s.x.now s.y.now at l.i sum upper → r ≡ halves_sum sum upper → r ≡ folded s.x.now s.y.now at
    = λ at sum upper r b e. e ∙ begun_folded s.x.now s.y.now at sum upper (rw n at b) in
    let most : (at r : ℕ) → r ≡ folded s.x.now s.y.now at → at + 64 ≤ length s.y.now → r ≤ growth
    = λ at r e w. omega (arith, folded-small s.x.now s.y.now at (omega arith) w h.2 h.3) in
    let a = all s.at _ _ _ l.invariant.1 c.join.ensures in
    let b = all (s.at + 1) _ _ _ l.invariant.2 c.join-2.ensures in
    let t = all (s.at + 2) _ _ _ l.invariant.3 c.join-3.ensures in
    let d = all (s.at + 3) _ _ _ l.invariant.4 c.join-4.ensures in
    record { a_value = (a, b); c_value = (t, d); a_le_growth = (most _ _ a (omega arith), most _ _ b (omega arith), most _ _ t (omega arith), most _ _ d (omega arith)) }

pub loop-i-init : goal.loop-i-init
loop-i-init c = (omega arith, begun_none _ _ _, begun_none _ _ _, begun_none _ _ _, begun_none _ _ _)

pub join-requires : goal.join-requires
join-requires c = few _ _ _ _ _ _ (omega arith) c.loop-i.invariant.1

pub join-requires-2 : goal.join-requires-2
join-requires-2 c = few _ _ _ _ _ _ (omega arith) c.loop-i.invariant.2

pub join-requires-3 : goal.join-requires-3
join-requires-3 c = few _ _ _ _ _ _ (omega arith) c.loop-i.invariant.3

pub join-requires-4 : goal.join-requires-4
join-requires-4 c = few _ _ _ _ _ _ (omega arith) c.loop-i.invariant.4
