use mathlib.Core.Path.{◌≡◌, refl, sym, ◌∙◌, ap, ap₂}
use mathlib.Core.List.{List}
use Prim.Native.Nat.{ℕ, ◌+◌, ◌*◌, ◌≤◌, ◌<◌, ◌^◌}
use native.Mathlib.Nat.{zero-add, mul-le-mul_right}
use native.Mathlib.Omega.{arith}
use lib.ListN.{length, get_or}
use Rattle.math.specs.lists.Table.{table}
use Rattle.math.specs.lists.Part.{splice}
use Rattle.math.proofs.lists.Table.{get_or-table}
use Rattle.math.proofs.lists.Splice.{splice-nil, length-splice}
use Rattle.math.proofs.lists.Fill.{table_more, unfilled, filled}
use Rattle.core_jl.specs.Rows.{flipped_row, raised, row_added, SumsRoom}
use Rattle.core_jl.proofs.Made.{Words, row_small}
use Rattle.core_jl.proofs.rows.add_vector.Goals as goal

-- four rows end where all rows do, or before
four_within : (q width : ℕ) → q < 64 → 4 * q * width + 4 * width ≤ 256 * width
four_within q width h =
    let rows : 4 * q + 4 ≤ 256 = omega arith in
    omega (arith, mul-le-mul_right width rows)

module _ (l R : List ℕ) (at : ℕ) (W : List ℕ) (wt width : ℕ) (sums rows : List ℕ) (q : ℕ) (e : sums ≡ splice l 0 (table (4 * q) (row_added l R at W wt width)))
    (v : rows ≡ table 4 (λ t. flipped_row R (at + 4 * q * width + t * width) W wt width)) where
  -- a sum that the table has not reached, and the row that is added
  sum_is : (t : ℕ) → get_or sums (4 * q + t) 0 ≡ get_or l (4 * q + t) 0
  sum_is t = unfilled l sums (4 * q) (4 * q + t) (row_added l R at W wt width) 0 e (omega arith)

  row_is : (t : ℕ) → t < 4 → get_or rows t 0 ≡ flipped_row R (at + 4 * q * width + t * width) W wt width
  row_is t h = ap (λ f. get_or f t 0) v ∙ get_or-table 4 (λ t. flipped_row R (at + 4 * q * width + t * width) W wt width) t 0 h

  room : SumsRoom l → Words W → width ≤ 65536 → q < 64 → (t : ℕ) → t < 4 → raised sums (4 * q) rows t < 2 ^ 64
  room h u b f t i =
      omega (
        arith,
        sum_is t,
        row_is t i,
        h.1 (4 * q + t) (omega arith),
        row_small R (at + 4 * q * width + t * width) W wt width u,
        mul-le-mul_right 8589934590 b,
      )

  -- the next four rows added
  four_more : splice sums (4 * q) (table 4 (raised sums (4 * q) rows)) ≡ splice l 0 (table (4 * (q + 1)) (row_added l R at W wt width))
  four_more =
      let next : 4 * q + 4 ≡ 4 * (q + 1) = omega arith in
      ap₂ (λ b p. splice b p (table 4 (raised sums (4 * q) rows))) e (sym (zero-add (4 * q)))
      ∙ table_more l 0 (4 * q) 4 (row_added l R at W wt width) (raised sums (4 * q) rows) (λ t h.
      let place : at + 4 * q * width + t * width ≡ at + (4 * q + t) * width = omega arith in
      ap₂ (λ x y. x + y) (sum_is t) (row_is t h ∙ ap (λ p. flipped_row R p W wt width) place))
      ∙ ap (λ n. splice l 0 (table n (row_added l R at W wt width))) next

pub loop-q-init : goal.loop-q-init
unfolding table
loop-q-init c = (sym (splice-nil _ _), refl)

pub overflow_mul-q-in-loop-q : goal.overflow_mul-q-in-loop-q
overflow_mul-q-in-loop-q c = omega (arith, four_within c.loop-q.q c.args.width (omega arith))

pub overflow_add-at : goal.overflow_add-at
overflow_add-at c = omega (arith, four_within c.loop-q.q c.args.width (omega arith))

pub four-rows-requires : goal.four-rows-requires
four-rows-requires c =
    let h = c.requires in
    (omega (arith, h.0, four_within c.loop-q.q c.args.width (omega arith)), h.1, h.2)

pub raise-requires : goal.raise-requires
raise-requires c =
    let s = c.args in
    let h = c.requires in
    let l = c.loop-q in
    let words : Words s.witness.now = λ k. omega (arith, c.type_inv.witness k) in (
      omega (arith, h.3.0, l.invariant.1),
      room s.sums.now s.randomness.now s.at s.witness.now s.wt s.width l.sums _ l.q l.invariant.0 c.four-rows.ensures h.3 words h.2 (omega arith),
    )

pub loop-q-preserved : goal.loop-q-preserved
loop-q-preserved c =
    let s = c.args in
    let l = c.loop-q in
    let stored = c.raise.ensures ∙ four_more s.sums.now s.randomness.now s.at s.witness.now s.wt s.width l.sums _ l.q l.invariant.0 c.four-rows.ensures in
    (stored, ap length stored ∙ length-splice _ _ _)

pub returns : goal.returns
returns c =
    let s = c.args in
    let l = c.loop-q in
    let n : 4 * l.q ≡ 256 = omega arith in
    filled 256 (4 * l.q) s.sums.now l.sums (row_added s.sums.now s.randomness.now s.at s.witness.now s.wt s.width) 0 l.invariant.0 n c.requires.3.0

pub shape_of-sums : goal.shape_of-sums
shape_of-sums c = c.loop-q.invariant.1
