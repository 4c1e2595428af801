use mathlib.Core.Path.{◌≡◌, sym, ◌∙◌, ap}
use mathlib.Core.List.{List}
use Prim.Native.Nat.{ℕ, ◌+◌, ◌-◌, ◌*◌}
use native.Mathlib.Nat.{sub_self}
use native.Mathlib.Omega.{arith}
use lib.ListN.{length, length-replicate}
use Rattle.math.specs.lists.Table.{table}
use Rattle.math.proofs.lists.Table.{length-table}
use Rattle.math.proofs.lists.Rows.{rows-within}
use Rattle.core_jl.specs.Run.{made_sum}
use Rattle.core_jl.proofs.Places.{matrices-within}
use Rattle.core_jl.proofs.Made.{Words, none_made, made-next, made-room}
use Rattle.core_jl.proofs.rows.sum_run.Goals as goal

pub loop-i-init : goal.loop-i-init
loop-i-init c =
    let s = c.args in
    let none = none_made s.randomness.now s.pi_at s.witness.now s.s_at s.n s.first in
    let made : ℕ → List ℕ = λ k. table 256 (made_sum s.randomness.now s.pi_at s.witness.now s.s_at s.n s.first k) in
    (omega arith, c.requires.1 ∙ none ∙ ap made (sym (sub_self s.first)))

-- what the places of vector i need
pub overflow_add-at : goal.overflow_add-at
overflow_add-at c =
    let s = c.args in
    omega (arith, matrices-within c.loop-i.i s.end (64 * s.n) (omega arith))

pub overflow_add-wt : goal.overflow_add-wt
overflow_add-wt c =
    let s = c.args in
    omega (arith, rows-within c.loop-i.i s.end (64 * s.n) (omega arith))

pub add_vector-requires : goal.add_vector-requires
add_vector-requires c =
    let s = c.args in
    let h = c.requires.0 in
    let l = c.loop-i in
    let words : Words s.witness.now = λ k. omega (arith, c.type_inv.witness k) in (
      omega (arith, matrices-within l.i s.end (64 * s.n) (omega arith)),
      omega (arith, rows-within l.i s.end (64 * s.n) (omega arith)),
      omega arith,
      made-room s.randomness.now s.pi_at s.witness.now s.s_at s.n s.first l.sums (l.i - s.first) words h.narrow (omega (arith, h.few)) l.invariant.1,
    )

pub loop-i-preserved : goal.loop-i-preserved
loop-i-preserved c =
    let s = c.args in
    let l = c.loop-i in
    let next : l.i - s.first + 1 ≡ l.i + 1 - s.first = omega arith in (
      omega arith,
      c.add_vector.ensures
          ∙ made-next s.randomness.now s.pi_at s.witness.now s.s_at s.n s.first l.sums (l.i - s.first) l.i l.invariant.1 (omega arith)
          ∙ ap (λ k. table 256 (made_sum s.randomness.now s.pi_at s.witness.now s.s_at s.n s.first k)) next,
    )

pub shape_of-sums : goal.shape_of-sums
shape_of-sums c =
    let made = ap length c.loop-i.invariant.1 ∙ length-table 256 _ in
    made ∙ sym (ap length c.requires.1 ∙ length-replicate {A = ℕ} 256 0)

pub returns : goal.returns
returns c =
    let s = c.args in
    let l = c.loop-i in
    let all : l.i - s.first ≡ s.end - s.first = omega arith in
    l.invariant.1 ∙ ap (λ k. table 256 (made_sum s.randomness.now s.pi_at s.witness.now s.s_at s.n s.first k)) all

pub overflow_mul-at-in-loop-i : goal.overflow_mul-at-in-loop-i
overflow_mul-at-in-loop-i c = omega (arith, matrices-within c.loop-i.i c.args.end (64 * c.args.n) (omega arith))

pub overflow_mul-wt : goal.overflow_mul-wt
overflow_mul-wt c = omega (arith, rows-within c.loop-i.i c.args.end (64 * c.args.n) (omega arith))
