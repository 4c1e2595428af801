-- `a_double_prime` meets its contract.
use mathlib.Core.Path.{◌≡◌, sym, ap, ap₂, ◌∙◌}
use mathlib.Core.List.{List}
use Prim.Native.Nat.{ℕ, ◌+◌, ◌*◌, ◌≤◌, ◌<◌}
use native.Mathlib.Omega.{arith}
use lib.ListN.{length, replicate, length-replicate, get_or-replicate}
use Rattle.math.specs.lists.Part.{part, splice}
use Rattle.math.proofs.lists.Table.{is_table}
use Rattle.math.proofs.lists.Splice.{splice_again, length_part, get_d_part, part-splice-within}
use Rattle.math.proofs.lists.Rows.{index_below}
use Rattle.math.proofs.algebra.Ring.{nil-add}
use Rattle.spec_leaves.specs.Rq.{Element, rzero}
use Rattle.spec_leaves.specs.Ring.{RqOps, element}
use Rattle.spec_leaves.proofs.RqRing.{rq_ring}
use Rattle.spec_protocol.specs.Formulas.{flat, rows, ◌⊕◌}
use Rattle.spec_protocol.proofs.Flat.{length-flat, length-rows}
use Rattle.spec_protocol.proofs.Region.{rows_ext}
use Rattle.core_aggregate_psi.specs.Grid.{added, weighed}
use Rattle.core_aggregate.proofs.a_double_prime.Goals as goal

module _ (l cleared : List ℕ) (to n : ℕ) (e : cleared ≡ splice l to (replicate (64 * n) 0)) (room : to + 64 * n ≤ length l) where
  size : length {A = ℕ} (replicate (64 * n) 0) ≡ 64 * n
  size = length-replicate {A = ℕ} (64 * n) 0

  -- the words of a cleared element
  zeros : (m : ℕ) → m < n → part cleared (to + 64 * m) 64 ≡ rzero
  unfolding rzero
  zeros m h =
      ap (λ b. part b (to + 64 * m) 64) e
      ∙ part-splice-within 0 l to (replicate (64 * n) 0) (64 * m) 64 (omega (arith, size)) (omega (arith, size))
      ∙ is_table 64 (part (replicate (64 * n) 0) (64 * m) 64) (λ q. 0) 0
      (length_part (replicate (64 * n) 0) (64 * m) 64 (omega (arith, size)))
      (λ q k. get_d_part 0 (replicate (64 * n) 0) (64 * m) 64 q k ∙ get_or-replicate {A = ℕ} (64 * n) (64 * m + q) 0 0 (omega arith))

  -- an element added to a cleared one
  added_alone : (m : ℕ) (x : Element) → m < n → element (part cleared (to + 64 * m) 64) ⊕ x ≡ x
  added_alone m x h = ap (λ w. element w ⊕ x) (zeros m h) ∙ nil-add RqOps rq_ring x

-- rows of weighed elements added to a cleared region
rows_alone : (l cleared : List ℕ) (to : ℕ) (words : List ℕ) (at width count : ℕ) (numbers : List ℕ) (row k : ℕ)
    → cleared ≡ splice l to (replicate (64 * (k * width)) 0) → to + 64 * (k * width) ≤ length l
    → splice cleared to (flat (rows k width (λ i. added cleared (to + 64 * (i * width)) words at width count numbers (row + i * count))))
    ≡ splice l to (flat (rows k width (λ i. weighed words at width count numbers (row + i * count))))
rows_alone l cleared to words at width count numbers row k e room =
    ap₂ (λ b t. splice b to (flat t)) e (rows_ext k width sums alone (λ i c p q.
    let place : to + 64 * (i * width) + 64 * c ≡ to + 64 * (i * width + c) = omega arith in
    ap (λ p. element (part cleared p 64) ⊕ alone i c) place ∙ added_alone l cleared to (k * width) e room (i * width + c) (alone i c) (index_below k width i c p q)))
    ∙ splice_again 0 l to (replicate (64 * (k * width)) 0) (flat (rows k width alone))
    (size l cleared to (k * width) e room ∙ sym (length-flat (rows k width alone) ∙ ap (λ m. 64 * m) (length-rows k alone width)))
    (omega (arith, size l cleared to (k * width) e room))
  where
    alone : ℕ → ℕ → Element
    alone i = weighed words at width count numbers (row + i * count)

    sums : ℕ → ℕ → Element
    sums i = added cleared (to + 64 * (i * width)) words at width count numbers (row + i * count)

pub add_weighed_rows-requires : goal.add_weighed_rows-requires
add_weighed_rows-requires c =
    let h = c.requires in
    (h.0, h.1, omega (arith, h.2, c.clear_run.auto.words))

pub returns : goal.returns
returns c =
    let s = c.args in
    c.add_weighed_rows.ensures ∙ rows_alone s.out.now _ s.to s.job.now s.at s.width s.count s.numbers.now s.row s.aggregations c.clear_run.ensures c.requires.2
