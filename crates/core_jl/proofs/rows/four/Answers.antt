use mathlib.Core.Path.{◌≡◌, ◌∙◌, ap}
use mathlib.Core.List.{List, [], ◌∷◌}
use Prim.Native.Nat.{ℕ, ◌+◌, ◌*◌, ◌≤◌}
use native.Mathlib.Omega.{arith}
use Rattle.math.specs.lists.Table.{table}
use Rattle.core_jl.specs.Rows.{flipped_row}
use Rattle.core_jl.proofs.Made.{Words, Begun, begun_none, begun_next, begun_all}
use Rattle.core_jl.proofs.rows.four.Goals as goal

-- what one more word asks of the halves
room : (R : List ℕ) (at : ℕ) (W : List ℕ) (wt m low high negatives : ℕ) → Begun R at W wt m low high negatives → m ≤ 65535
    → (low ≤ 4294836225) × (high ≤ 4294836225) × (negatives ≤ 65535)
room R at W wt m low high negatives b l = (omega (arith, b.low-le), omega (arith, b.high_le), omega (arith, b.negatives_le))

-- four numbers as a table
listed : (f : ℕ → ℕ) (a b c d : ℕ) → a ≡ f 0 → b ≡ f 1 → c ≡ f 2 → d ≡ f 3 → a ∷ b ∷ c ∷ d ∷ [] ≡ table 4 f
unfolding table
listed f a b c d p q r s = cc

pub loop-m-preserved : goal.loop-m-preserved
loop-m-preserved c =
    let l = c.loop-m in
    let s = c.args in
    let words : Words s.witness.now = λ k. omega (arith, c.type_inv.witness k) in (
      omega arith,
      begun_next s.randomness.now _ s.witness.now s.wt l.m _ _ _ _ _ _ words l.invariant.1 c.with-a.ensures,
      begun_next s.randomness.now _ s.witness.now s.wt l.m _ _ _ _ _ _ words l.invariant.2 c.with-b.ensures,
      begun_next s.randomness.now _ s.witness.now s.wt l.m _ _ _ _ _ _ words l.invariant.3 c.with-c.ensures,
      begun_next s.randomness.now _ s.witness.now s.wt l.m _ _ _ _ _ _ words l.invariant.4 c.with-d.ensures,
    )

pub returns : goal.returns
returns c =
    let l = c.loop-m in
    let s = c.args in
    let n : l.m ≡ s.count = omega arith in
    let R = s.randomness.now in
    let W = s.witness.now in
    let first = begun_all R _ W s.wt s.count l.m _ _ _ _ l.invariant.1 n c.sum.ensures in
    let second = begun_all R _ W s.wt s.count l.m _ _ _ _ l.invariant.2 n c.sum-2.ensures in
    let third = begun_all R _ W s.wt s.count l.m _ _ _ _ l.invariant.3 n c.sum-3.ensures in
    let fourth = begun_all R _ W s.wt s.count l.m _ _ _ _ l.invariant.4 n c.sum-4.ensures in
    let first_place : s.at ≡ s.at + 0 * s.count = omega arith in
    let second_place : s.at + s.count ≡ s.at + 1 * s.count = omega arith in
    listed (λ t. flipped_row R (s.at + t * s.count) W s.wt s.count) _ _ _ _
    (first ∙ ap (λ p. flipped_row R p W s.wt s.count) first_place)
    (second ∙ ap (λ p. flipped_row R p W s.wt s.count) second_place) third fourth

pub loop-m-init : goal.loop-m-init
loop-m-init c = (omega arith, begun_none _ _ _ _, begun_none _ _ _ _, begun_none _ _ _ _, begun_none _ _ _ _)

pub with-a-requires : goal.with-a-requires
with-a-requires c = room _ _ _ _ _ _ _ _ c.loop-m.invariant.1 (omega arith)

pub with-b-requires : goal.with-b-requires
with-b-requires c = room _ _ _ _ _ _ _ _ c.loop-m.invariant.2 (omega arith)

pub with-c-requires : goal.with-c-requires
with-c-requires c = room _ _ _ _ _ _ _ _ c.loop-m.invariant.3 (omega arith)

pub with-d-requires : goal.with-d-requires
with-d-requires c = room _ _ _ _ _ _ _ _ c.loop-m.invariant.4 (omega arith)

pub sum-requires : goal.sum-requires
sum-requires c = omega (arith, c.loop-m.invariant.1.negatives_le)

pub sum-requires-2 : goal.sum-requires-2
sum-requires-2 c = omega (arith, c.loop-m.invariant.2.negatives_le)

pub sum-requires-3 : goal.sum-requires-3
sum-requires-3 c = omega (arith, c.loop-m.invariant.3.negatives_le)

pub sum-requires-4 : goal.sum-requires-4
sum-requires-4 c = omega (arith, c.loop-m.invariant.4.negatives_le)
