use mathlib.Core.Path.{◌≡◌, refl, ap, ◌∙◌}
use Prim.Native.Nat.{ℕ, ◌+◌}
use native.Mathlib.Omega.{arith}
use Rattle.math.specs.lists.Table.{table}
use Rattle.math.specs.lists.Part.{splice}
use Rattle.spec_leaves.specs.Rq.{Element}
use Rattle.spec_leaves.specs.Ring.{words}
use Rattle.spec_protocol.specs.Formulas.{flat}
use Rattle.spec_protocol.proofs.Stored.{stored-none}
use Rattle.ring_rq_matrix.proofs.Place.{rows-within}
use Rattle.ring_rq_matrix.proofs.Fill.{length_filled, fill_next}
use Rattle.core_garbage_ntt.specs.NttLines.{both_ways}
use Rattle.core_garbage_ntt.proofs.Square.{cell-sum, both-before}
use Rattle.core_garbage_ntt.proofs.h.h_row.Goals as goal

pub load-requires : goal.load-requires
load-requires c = omega (
  arith,
  rows-within c.args.i c.args.r
      c.args.r (omega arith),
)

pub load-requires-in-loop-j : goal.load-requires-in-loop-j
load-requires-in-loop-j c = omega (
  arith,
  rows-within c.loop-j.j c.args.r
      c.args.r (omega arith),
)

pub loop-j-preserved : goal.loop-j-preserved
loop-j-preserved c =
    let s = c.args in
    let l = c.loop-j in
    let f : ℕ → Element = both_ways s.scratch.now s.square s.r s.i in
    let sum = cell-sum l.scratch _ _ _ s.square s.r s.i l.j l.across l.down c.add-sum.ensures
    c.load.ensures c.load-in-loop-j.ensures l.invariant.1 l.invariant.2 in
    let same = both-before s.scratch.now l.scratch s.out_at (flat (table l.j f)) s.square s.r s.i l.j l.invariant.4 (omega arith) (omega arith) (omega arith) in
    let stored = c.store.ensures in (
      omega arith,
      omega arith,
      omega arith,
      omega arith,
      fill_next s.scratch.now s.out_at _ _ _ l.j l.place f l.invariant.4 l.invariant.3 (sum ∙ ap words same) stored,
      length_filled _ _ _ _ stored ∙ l.invariant.5,
    )

pub returns : goal.returns
returns c =
    let s = c.args in
    let l = c.loop-j in
    let done : l.j ≡ s.i + 1 = omega arith in
    l.invariant.4 ∙ ap (λ k. splice s.scratch.now s.out_at (flat (table k (both_ways s.scratch.now s.square s.r s.i)))) done

pub overflow_add-down : goal.overflow_add-down
overflow_add-down c = omega (arith, rows-within c.args.i c.args.r c.args.r (omega arith))

pub loop-j-init : goal.loop-j-init
loop-j-init c = (omega arith, omega arith, omega arith, omega arith, stored-none _ _ _, refl)

pub overflow_add-across : goal.overflow_add-across
overflow_add-across c = omega (
  arith,
  rows-within c.args.i
      c.args.r
      c.args.r (omega arith),
)

pub overflow_add-down-in-loop-j : goal.overflow_add-down-in-loop-j
overflow_add-down-in-loop-j c = omega (
  arith,
  rows-within c.loop-j.j
      c.args.r
      c.args.r (omega arith),
)
