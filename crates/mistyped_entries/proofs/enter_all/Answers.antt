use mathlib.Core.Path.{sym, subst}
use Prim.Native.Nat.{◌+◌, ◌*◌, ◌≤◌, ◌<◌}
use native.Mathlib.Omega.{arith}
use lib.ListN.{length}
use Rattle.mistyped_solve.specs.Congruence.{Found}
use Rattle.mistyped_solve.specs.Rows.{Supplies}
use Rattle.verifier_common.proofs.Sent.{reckoned}
use Rattle.mistyped_entries.specs.Entered.{entered_count, Entered}
use Rattle.mistyped_entries.proofs.Row.{few-rows, few_indexes, weight_within, index-within, canonical-lacking}
use Rattle.mistyped_entries.proofs.Listing.{entered_none, entered_next, entered_length}
use Rattle.mistyped_entries.proofs.enter_all.Goals.{After-enter-arg-1, In-loop-i}
use Rattle.mistyped_entries.proofs.enter_all.Goals as goal

-- a turn's index
below : (c : In-loop-i) → c.loop-i.i < c.args.params.constraint_l
below c = omega arith

-- two more words lie within the list
room : (c : After-enter-arg-1) → 2 * c.loop-i.count + 2 ≤ length c.loop-i.list
room c =
    let l = c.loop-i in
    omega (arith, l.invariant.3.few, entered_length l.invariant.3, c.requires.1)

pub loop-i-init : goal.loop-i-init
loop-i-init c = (omega arith, c.of_randomness-psi.ensures, c.rows_lacking-rows.ensures, entered_none _ _ _ _)

pub smallest_for-found-requires : goal.smallest_for-found-requires
smallest_for-found-requires c =
    let w = c.requires.0 in
    let l = c.loop-i in record {
      rows_bound = (few-rows w, weight_within w _ l.invariant.1 l.i (omega arith));
      by_index = canonical-lacking c.args.job.now c.args.randomness.now c.args.transcript.now c.args.params.const_agg_length (few-rows w)
          c.rows_lacking-rows.result l.invariant.2;
    }

pub loop-i-preserved : goal.loop-i-preserved
loop-i-preserved c =
    let l = c.loop-i in
    let a = c.args in
    let w = c.requires.0 in
    let psi = c.of_randomness-psi.result in
    let f = c.smallest_for-found in
    let e = c.enter-count in
    let found = subst (λ r. Found (Supplies a.randomness.now (psi + l.i) a.params.constraint_l r a.params.const_agg_length) f.result) l.invariant.2 f.ensures in
    let next = entered_next w psi l.invariant.1 l.i (below (goal.at.loop-i-preserved c).In-loop-i) (few-rows w) a.list.now l.count l.list f.result
    (omega (arith, room (goal.at.loop-i-preserved c).After-enter-arg-1, entered_length l.invariant.3)) found l.invariant.3 in (
      omega (arith, below (goal.at.loop-i-preserved c).In-loop-i),
      l.invariant.1,
      l.invariant.2,
      subst (λ n. Entered a.job.now a.randomness.now a.transcript.now (l.i + 1) a.list.now n e.new.list) (sym e.ensures.value)
          (subst (λ x. Entered a.job.now a.randomness.now a.transcript.now (l.i + 1) a.list.now (entered_count f.result l.count) x) (sym e.ensures.list_after) next),
    )

pub returns : goal.returns
returns c =
    let l = c.loop-i in
    let s = c.args in
    subst (λ n. Entered s.job.now s.randomness.now s.transcript.now n s.list.now l.count l.list) (omega arith) l.invariant.3

pub rows_lacking-rows-requires : goal.rows_lacking-rows-requires
rows_lacking-rows-requires c = c.requires.0

pub of_randomness-psi-requires : goal.of_randomness-psi-requires
of_randomness-psi-requires c = (reckoned c.requires.0.posed, omega arith)

pub overflow_add-psi : goal.overflow_add-psi
overflow_add-psi c = omega (arith, index-within c.requires.0 _ c.loop-i.invariant.1 c.loop-i.i (omega arith))

pub overflow_cast-i : goal.overflow_cast-i
overflow_cast-i c = omega (arith, few_indexes c.requires.0)

pub enter-count-requires : goal.enter-count-requires
enter-count-requires c = room (goal.at.enter-count-requires c).After-enter-arg-1

pub shape_of-list : goal.shape_of-list
shape_of-list c = entered_length c.loop-i.invariant.3
