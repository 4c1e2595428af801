-- Words with 1 added to one: entries and elements that differ in one by a unit.
use mathlib.Core.Path.{◌≡◌, sym, ap, ap₂, subst, ◌∙◌}
use mathlib.Core.List.{List}
use Prim.Native.Nat.{ℕ, zero, suc, ◌+◌, ◌*◌, ◌%◌, ◌<◌}
use native.Mathlib.Nat.{add-zero}
use native.Mathlib.Omega.{arith}
use lib.ListN.{length, get_or}
use lib.Seq.{get_or-set_same, get_or-set_other}
use Rattle.math.proofs.lists.Splice.{get_d_part}
use Rattle.math.specs.algebra.Ops.{Ops}
use Rattle.math.proofs.algebra.Ring.{CRing, add_neg_cancel, neg_dist}
use Rattle.math.proofs.algebra.Antiperiodic.{const_F}
use Rattle.spec_leaves.specs.Zq.{Q}
use Rattle.spec_leaves.specs.Ring.{residue, ZqOps, RqOps, words, element}
use Rattle.spec_leaves.proofs.ZqRing.{zq_ring, residue-reduced, residue-add}
use Rattle.spec_leaves.proofs.RqRing.{rq_ring, element_path, coefficient-element, coefficient-radd, coefficient-scalar}
use Rattle.spec_protocol.specs.Layout.{part}
use Rattle.spec_protocol.specs.Views.{element_at}
use Rattle.spec_protocol.specs.Formulas.{◌⊕◌}
use Rattle.theorem_soundness.specs.Weights.{IsUnit}
use Rattle.theorem_soundness.proofs.Units.{unit-neg}
use Rattle.theorem_extraction.specs.Fork.{◌⊖◌}
use Rattle.theorem_extraction.specs.Tree.{DifferAt}
use Rattle.theorem_extraction.specs.Honest.{raised}
use Rattle.theorem_extraction.proofs.HonestRandomness.{stored_elsewhere}

-- a − (a + 1) = −1 is a unit
less_one_more : (O : Ops) (R : CRing O) (a : O.Carrier) → IsUnit O (O.add a (O.neg (O.add a O.one)))
less_one_more O R a =
    subst (IsUnit O) (sym (ap (O.add a) (neg_dist O R a O.one) ∙ add_neg_cancel O R a (O.neg O.one))) (unit-neg O R O.one (O.one, R.mul-one O.one))

module _ (A : List ℕ) where
  raised_there : (p : ℕ) → p < length A → residue (get_or (raised p A) p 0) ≡ ZqOps.add (residue (get_or A p 0)) (residue 1)
  unfolding raised
  raised_there p h = ap residue (get_or-set_same A p ((get_or A p 0 + 1) % Q) 0 h) ∙ residue-reduced (get_or A p 0 + 1) ∙ residue-add (get_or A p 0) 1

  -- entries
  pub raised-words : (at : ℕ → ℕ) (n x : ℕ) → ((i : ℕ) → at i ≡ at x → i ≡ x) → at x < length A
      → DifferAt ZqOps n x (λ i. residue (get_or A (at i) 0)) (λ i. residue (get_or (raised (at x) A) (at i) 0))
  unfolding raised
  raised-words at n x apart h = record {
    others = λ i l d. ap residue (sym (get_or-set_other A (at x) (at i) ((get_or A (at x) 0 + 1) % Q) 0 (λ e. d (apart i e))));
    unit = subst (λ w. IsUnit ZqOps (ZqOps.add (residue (get_or A (at x) 0)) (ZqOps.neg w))) (sym (raised_there (at x) h)) (less_one_more ZqOps zq_ring (residue (get_or A (at x) 0)));
  }

  -- an element with 1 added to its constant coefficient
  raised-element : (p : ℕ) → p < length A → element (part (raised p A) p 64) ≡ element (part A p 64) ⊕ RqOps.one
  unfolding raised const_F
  raised-element p h = element_path (element (part (raised p A) p 64)) (element (part A p 64) ⊕ RqOps.one) (λ q l.
      coefficient-element (part (raised p A) p 64) q l
      ∙ ap residue (get_d_part 0 (raised p A) p 64 q l)
      ∙ go q
      ∙ sym (coefficient-radd (words (element (part A p 64))) (words RqOps.one) q l
      ∙ ap₂ ZqOps.add (coefficient-element (part A p 64) q l ∙ ap residue (get_d_part 0 A p 64 q l)) (coefficient-scalar 1 q l)))
    where
      go : (q : ℕ) → residue (get_or (raised p A) (p + q) 0) ≡ ZqOps.add (residue (get_or A (p + q) 0)) (const_F ZqOps (residue 1) q)
      go zero = ap (λ i. residue (get_or (raised p A) i 0)) (add-zero p) ∙ raised_there p h ∙ ap (λ i. ZqOps.add (residue (get_or A i 0)) (residue 1)) (sym (add-zero p))
      go (suc q) = ap residue (get_or-set_other A p (p + suc q) ((get_or A p 0 + 1) % Q) 0 (λ e. omega arith)) ∙ sym (zq_ring.add-nil (residue (get_or A (p + suc q) 0)))

  -- elements
  pub raised_elements : (from n k : ℕ) → from + 64 * k < length A → DifferAt RqOps n k (λ i. element_at A from i) (λ i. element_at (raised (from + 64 * k) A) from i)
  unfolding raised
  raised_elements from n k h = record {
    others = λ i l d. ap element (sym (stored_elsewhere (from + 64 * k) ((get_or A (from + 64 * k) 0 + 1) % Q) A (from + 64 * i) 64 (λ m a b e. d (omega arith))));
    unit = subst (λ y. IsUnit RqOps (element_at A from k ⊖ y)) (sym (raised-element (from + 64 * k) h)) (less_one_more RqOps rq_ring (element_at A from k));
  }
