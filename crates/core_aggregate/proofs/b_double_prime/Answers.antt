use mathlib.Core.Path.{refl, ◌∙◌, ap, ap₂}
use Prim.Native.Nat.{◌+◌, ◌*◌, ◌≤◌, ◌<◌}
use native.Mathlib.Nat.{mul-le-mul}
use native.Mathlib.Omega.{arith}
use lib.ListN.{length}
use Rattle.math.proofs.lists.Splice.{length-splice}
use Rattle.spec_leaves.specs.Ring.{words}
use Rattle.spec_protocol.specs.Parameters.{triangular}
use Rattle.spec_protocol.proofs.Stored.{stored-none, stored_next, stored-all}
use Rattle.core_aggregate.specs.Weighed.{formed}
use Rattle.core_aggregate.proofs.Rows.{row_within, row_next}
use Rattle.core_aggregate.proofs.Formed.{formed-before}
use Rattle.core_aggregate.proofs.b_double_prime.Goals.{After-slice_known-in-loop-k-1}
use Rattle.core_aggregate.proofs.b_double_prime.Goals as goal

-- where a'' and φ'' of the turn's k end
abbrev Ends : After-slice_known-in-loop-k-1 → Type 0
Ends c =
    let s = c.before.before.before.before.before.before.before.before.before.before.before.args in
    let l = c.loop-k in
    (s.a_at + 64 * (l.k * triangular s.r) + 64 * triangular s.r ≤ s.to) × (s.phi_at + 64 * (l.k * (s.r * s.n)) + 64 * (s.r * s.n) ≤ s.to)

ends : (c : After-slice_known-in-loop-k-1) → Ends c
ends c =
    let s = c.args in
    let h = c.requires in
    let l = c.loop-k in
    let more : l.k < s.count = omega arith in
    (row_within s.a_at l.k s.count (triangular s.r) s.to more h.0, row_within s.phi_at l.k s.count (s.r * s.n) s.to more h.2)

pub overflow_mul-width : goal.overflow_mul-width
overflow_mul-width c = let h = c.requires in omega (arith, mul-le-mul h.5 h.6)

pub form-e-requires : goal.form-e-requires
form-e-requires c =
    let s = c.args in
    let h = c.requires in
    let l = c.loop-k in
    let more : l.k < s.count = omega arith in
    record {
      squares = omega (arith, row_within s.a_at l.k s.count (triangular s.r) s.to more h.0);
      products = omega (arith, h.1);
      lines = omega (arith, row_within s.phi_at l.k s.count (s.r * s.n) s.to more h.2);
      vectors = h.4;
      few = h.5;
      narrow = h.6;
    }

pub overflow_add-a : goal.overflow_add-a
overflow_add-a c = omega (arith, (ends (goal.at.overflow_add-a c).After-slice_known-in-loop-k-1).0)

pub overflow_add-phi : goal.overflow_add-phi
overflow_add-phi c = omega (arith, (ends (goal.at.overflow_add-phi c).After-slice_known-in-loop-k-1).1)

pub loop-k-preserved : goal.loop-k-preserved
loop-k-preserved c =
    let s = c.args in
    let h = c.requires in
    let l = c.loop-k in
    let T = c.cells-cells.ensures in
    let e = c.form-e.ensures
    ∙ ap₂ (λ a phi. words (formed l.scratch a s.g_at phi s.r s.n s.witness.now s.s_at)) l.invariant.1 l.invariant.2
    ∙ ap words (formed-before s.scratch.now (s.a_at + 64 * (l.k * triangular s.r)) s.g_at (s.phi_at + 64 * (l.k * (s.r * s.n))) s.r s.n s.witness.now
    s.s_at s.to _ (ends (goal.at.loop-k-preserved c).After-slice_known-in-loop-k-1).0 h.1 (ends (goal.at.loop-k-preserved c).After-slice_known-in-loop-k-1).1 l.scratch l.invariant.3) in
    let w = c.store.ensures ∙ stored_next _ _ _ l.k _ _ l.invariant.3 e in (
      omega arith,
      ap (λ t. l.a + 64 * t) T ∙ row_next s.a_at l.k (triangular s.r) l.a l.invariant.1,
      row_next s.phi_at l.k (s.r * s.n) l.phi l.invariant.2,
      w,
      ap length w
          ∙ length-splice _ _ _,
    )

pub loop-k-init : goal.loop-k-init
loop-k-init c = (omega arith, omega arith, omega arith, stored-none _ _ _, refl)

pub overflow_mul-a : goal.overflow_mul-a
overflow_mul-a c = omega (arith, (ends (goal.at.overflow_mul-a c).After-slice_known-in-loop-k-1).0)

pub overflow_mul-phi : goal.overflow_mul-phi
overflow_mul-phi c = omega (arith, (ends (goal.at.overflow_mul-phi c).After-slice_known-in-loop-k-1).1)

pub returns : goal.returns
returns c = stored-all _ _ _ _ _ _ c.loop-k.invariant.3 (omega arith)
