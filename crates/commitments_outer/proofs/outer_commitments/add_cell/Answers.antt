-- `add_cell` meets its contract: the digits are read back from where they are stored, and those that are not stored are zero.
use mathlib.Core.Path.{◌≡◌, refl, ◌∙◌, ap}
use Prim.Native.Nat.{ℕ, ◌+◌, ◌*◌, ◌≤◌, ◌<◌}
use native.Mathlib.Omega.{arith}
use lib.ListN.{length}
use Rattle.math.specs.lists.Part.{part, splice}
use Rattle.math.proofs.lists.Table.{table_ext}
use Rattle.math.proofs.lists.Splice.{length-splice}
use Rattle.math.proofs.algebra.Dot.{dot_ext}
use Rattle.spec_leaves.specs.Rq.{Element}
use Rattle.spec_leaves.specs.Ring.{RqOps, element}
use Rattle.spec_leaves.proofs.RqRing.{rq_ring}
use Rattle.ring_inner_product.specs.Run.{run}
use Rattle.spec_protocol.specs.Formulas.{◌⊕◌, dot, flat, digit_element}
use Rattle.spec_protocol.proofs.Region.{elements_stored}
use Rattle.ring_digit_products.proofs.Shifted.{formed}
use Rattle.commitments_outer.proofs.SmallParts.{digits-small}
use Rattle.commitments_outer.proofs.Used.{dot_used}
use Rattle.commitments_outer.proofs.outer_commitments.add_cell.Goals as goal

pub returns : goal.returns
returns c =
    let s = c.args in
    let p = c.requires in
    let f : ℕ → Element = digit_element s.base (element (part s.from.now s.at 64)) in
    let taken = c.decompose_used-used in
    let digits = taken.new.to in
    let used = taken.result in
    let row : ℕ → ℕ → Element = λ k. run s.matrix.now (s.m_at + s.m_step * k) 64 in
    let out = run s.out.now s.out_at 64 in
    let room : 64 * used ≤ length s.digits.now = omega (arith, taken.ensures.upper_bound.0, p.4, p.5.0) in
    let read : (m : ℕ) → m < used → run digits 0 64 m ≡ f m = λ m h. ap (λ w. run w 0 64 m) taken.ensures.upper_bound.1 ∙ elements_stored s.digits.now 0 used f (omega arith) m h in
    let rest : (k : ℕ) → dot used (row k) f ≡ dot s.parts (row k) f = λ k. dot_used RqOps rq_ring used s.parts (row k) f taken.ensures.upper_bound.0 taken.ensures.by_index in record {
      out_after = c.add_products.ensures
          ∙ ap (λ t. splice s.out.now s.out_at (flat t))
          (table_ext s.rows (λ k. out k ⊕ dot used (row k) (run digits 0 64)) (λ k. out k ⊕ dot s.parts (row k) f)
          (λ k h. ap (◌⊕◌ (out k)) (dot_ext RqOps used (row k) (row k) (run digits 0 64) f (λ m q. refl) read ∙ rest k)));
      buffers = (
        ap length taken.ensures.upper_bound.1 ∙ length-splice s.digits.now 0 _ ∙ p.5.0,
        ap length c.store_forms.ensures ∙ length-splice s.forms.now 0 _ ∙ p.5.1,
      );
    }

pub add_products-requires : goal.add_products-requires
add_products-requires c =
    let s = c.args in
    let p = c.requires in
    let taken = c.decompose_used-used in
    let digits = taken.new.to in
    let used = taken.result in
    let stored = taken.ensures.upper_bound.1 in
    let long = ap length stored ∙ length-splice s.digits.now 0 _ in
    let half = c.wide-half.ensures.0 in
    let forms = formed c.wide-half.result (λ m. part digits (64 * m) 64) s.forms.now _ digits used
    c.store_forms.ensures (omega arith) (λ m l. refl) in (
      record { within = λ k q. omega (arith, p.0.within k q, taken.ensures.upper_bound.0); near = p.0.near },
      omega (arith, long),
      p.2,
      record {
        few = omega arith;
        formed = forms;
        small = λ h. rw half (digits-small s.base used (element (part s.from.now s.at 64)) s.digits.now digits stored (omega arith) p.3 (omega (arith, half, h)));
      },
    )
