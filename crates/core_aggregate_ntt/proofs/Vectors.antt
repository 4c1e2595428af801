-- A run of elements more of the pass: the elements of φ, and the inner products of every k.
use mathlib.Core.Path.{◌≡◌, sym, ap, ap₂, subst, ◌∙◌}
use mathlib.Core.List.{List}
use Prim.Native.Nat.{ℕ, ◌+◌, ◌*◌, ◌≤◌}
use native.Mathlib.Omega.{arith}
use lib.ListN.{length}
use Rattle.math.specs.lists.Table.{table}
use Rattle.math.specs.lists.Part.{part, splice}
use Rattle.math.proofs.lists.Table.{length-table, table_ext, table_split}
use Rattle.math.proofs.lists.Splice.{splice-append, part-splice-before}
use Rattle.math.specs.algebra.Ops as Ops
use Rattle.math.proofs.algebra.Ring.{add-nil, add_assoc}
use Rattle.math.proofs.algebra.Dot.{dot_ext, dot_split}
use Rattle.spec_leaves.specs.Rq.{Element}
use Rattle.spec_leaves.specs.Ring.{RqOps, element}
use Rattle.spec_leaves.proofs.RqRing.{rq_ring}
use Rattle.ring_inner_product.specs.declared.Strided.{Strided}
use Rattle.ring_inner_product.specs.Run.{Run, run, further}
use Rattle.spec_protocol.specs.Views.{element_at}
use Rattle.spec_protocol.specs.Formulas.{◌⊕◌, dot, flat}
use Rattle.spec_protocol.proofs.Flat.{length-flat}
use Rattle.spec_protocol.proofs.Region.{elements_stored}
use Rattle.spec_protocol.proofs.Stored.{flat_append}
use Rattle.core_aggregate_ntt.specs.Terms.{ntt_mixed}
use Rattle.core_aggregate_ntt.proofs.Mixed.{ntt_mixed-before}
use Rattle.core_aggregate_ntt.specs.Pass.{PassRoom, column_mixed, φ_mixed, with_line, with_lines, HasLines}
use Rattle.core_aggregate_ntt.proofs.OnePassForms.{run-same}

-- n more elements stored after the first m
stored_more : (l before : List ℕ) (at m n : ℕ) (f : ℕ → Element) → before ≡ splice l at (flat (table m f))
    → splice before (at + 64 * m) (flat (table n (λ i. f (m + i)))) ≡ splice l at (flat (table (m + n) f))
stored_more l before at m n f e =
    let place : at + 64 * m ≡ at + length (flat (table m f)) = omega (arith, length-flat (table m f), length-table m f) in
    ap₂ (λ x p. splice x p (flat (table n (λ i. f (m + i))))) e place
    ∙ splice-append l at (flat (table m f)) (flat (table n (λ i. f (m + i))))
    ∙ ap (splice l at) (sym (flat_append (table m f) (table n (λ i. f (m + i)))) ∙ ap flat (sym (table_split m n f)))

module _ (J : List ℕ) (x : Strided) (S : List ℕ) (y : Strided) (to : ℕ) (weights W : List ℕ) (s-at width : ℕ) (T : List ℕ) (h : PassRoom J x S y to weights W s-at width T) where
  -- the room of n elements after the first c
  pub run_room : (S' T' : List ℕ) (c n : ℕ) → c + n ≤ width → length S' ≡ length S → length T' ≡ length T
      → PassRoom J (further x c) S' (further y c) (to + 64 * c) weights W (s-at + 64 * c) n T'
  run_room S' T' c n l size sums =
      record {
        in_job = λ m b.
            let there : x.at + 64 * c + 64 * m ≡ x.at + 64 * (c + m) = omega arith in
            subst (λ p. Run J p x.step x.count) (sym there) (h.in_job (c + m) (omega arith));
        in_scratch = λ m b.
            let there : y.at + 64 * c + 64 * m ≡ y.at + 64 * (c + m) = omega arith in
            subst (λ p. Run S' p y.step y.count) (sym there) (run-same S S' (further y (c + m)) size (h.in_scratch (c + m) (omega arith)));
        before = λ m k b d. omega (arith, h.before (c + m) k (omega arith) d);
        near = (omega (arith, h.near.0), omega (arith, h.near.1));
        room = omega (arith, h.room);
        vectors = omega (arith, h.vectors);
        values = h.values;
        few = h.few;
        forms = h.forms;
        sums = omega (arith, h.sums);
      }

  module _ (S' : List ℕ) (c n : ℕ) (l : c + n ≤ width) (stored : S' ≡ splice S to (φ_mixed J x S y weights c)) where
    -- its elements of φ
    pub run-stored : (S'' : List ℕ) → S'' ≡ splice S' (to + 64 * c) (φ_mixed J (further x c) S' (further y c) weights n) → S'' ≡ splice S to (φ_mixed J x S y weights (c + n))
    run-stored S'' made =
        made
        ∙ ap (λ cells. splice S' (to + 64 * c) (flat cells)) (table_ext n (column_mixed J (further x c) S' (further y c) weights) (λ m. column_mixed J x S y weights (c + m)) (λ m b.
        let here : x.at + 64 * c + 64 * m ≡ x.at + 64 * (c + m) = omega arith in
        let there : y.at + 64 * c + 64 * m ≡ y.at + 64 * (c + m) = omega arith in
        ap₂ (λ p q. ntt_mixed J (from_place x p) S' (from_place y q) weights) here there
        ∙ ntt_mixed-before J (further x (c + m)) S S' (further y (c + m)) weights to (φ_mixed J x S y weights c) stored (λ k d. h.before (c + m) k (omega arith) d)))
        ∙ stored_more S S' to c n (column_mixed J x S y weights) stored
      where
        from_place : Strided → ℕ → Strided
        from_place x p = record { at = p; step = x.step; count = x.count }

    -- its inner products
    pub run-lines : (T' T'' : List ℕ) → length T' ≡ length T → HasLines T' T S y W s-at c → T'' ≡ with_lines T' S' (further y c) W (s-at + 64 * c) n → HasLines T'' T S y W s-at (c + n)
    run-lines T' T'' size held made k d =
        ap (λ t. element_at t 0 k) made
        ∙ elements_stored T' 0 y.count (with_line T' S' (further y c) W (s-at + 64 * c) n) (omega (arith, h.sums)) k d
        ∙ ap₂ ◌⊕◌ (held k d)
        (dot_ext RqOps n (run S' (y.at + 64 * c + y.step * k) 64) (λ m. run S (y.at + y.step * k) 64 (c + m)) (run W (s-at + 64 * c) 64) (λ m. run W s-at 64 (c + m))
        (λ m b.
        let there : y.at + 64 * c + y.step * k + 64 * m ≡ y.at + y.step * k + 64 * (c + m) = omega arith in
        let ends : y.at + 64 * c + y.step * k + 64 * m + 64 ≤ to = omega (arith, h.before (c + m) k (omega arith) d) in
        ap element (ap (λ s. part s (y.at + 64 * c + y.step * k + 64 * m) 64) stored
        ∙ part-splice-before 0 S to (φ_mixed J x S y weights c) (y.at + 64 * c + y.step * k + 64 * m) 64 ends ∙ ap (λ p. part S p 64) there))
        (λ m b. let there : s-at + 64 * c + 64 * m ≡ s-at + 64 * (c + m) = omega arith in ap (λ p. element (part W p 64)) there))
        ∙ add_assoc RqOps rq_ring (element_at T 0 k) (dot c (run S (y.at + y.step * k) 64) (run W s-at 64)) (dot n (λ m. run S (y.at + y.step * k) 64 (c + m)) (λ m. run W s-at 64 (c + m)))
        ∙ ap (λ x. element_at T 0 k ⊕ x) (sym (dot_split RqOps rq_ring c n (run S (y.at + y.step * k) 64) (run W s-at 64)))

  -- no element yet
  pub lines_start : HasLines T T S y W s-at 0
  unfolding Ops.dot Ops.sum
  lines_start k d = sym (add-nil RqOps rq_ring (element_at T 0 k))
