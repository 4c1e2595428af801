-- A row of a matrix times a vector: linear over vectors, and over two matrices side by side.
use mathlib.Core.Path.{◌≡◌, ap, ap₂, ◌∙◌}
use mathlib.Core.Bool.{cond}
use mathlib.Core.List.{List, ◌++◌}
use Prim.Native.Nat.{ℕ, ◌+◌, ◌-◌}
use native.Mathlib.Omega.{arith}
use lib.ListN.{length, length-append, get_or-append}
use lib.Seq.{get_or-append-add}
use borrow.Author.Tests.{lt-ltb, le-ltb}
use Rattle.math.specs.lists.Table.{table}
use Rattle.math.proofs.lists.Table.{length-table, get_or-table}
use Rattle.math.specs.algebra.Ops as Ops
use Rattle.math.proofs.algebra.Sum.{sum_ext, sum_split}
use Rattle.math.proofs.algebra.Dot.{dot-sub_right}
use Rattle.spec_leaves.specs.Rq.{Element}
use Rattle.spec_leaves.specs.Ring.{RqOps}
use Rattle.spec_leaves.proofs.RqRing.{rq_ring}
use Rattle.spec_protocol.specs.Formulas.{◌⊕◌, ◌⊗◌, sum, times}
use Rattle.spec_binding.specs.Openings.{nil, neg, entry, difference, beside}

-- a row times a difference is the difference of the row's products
pub times-difference : (M : ℕ → ℕ → Element) (v w : List Element) (k : ℕ) → length v ≡ length w → times M (difference v w) k ≡ times M v k ⊕ neg (times M w k)
unfolding times difference Ops.dot
times-difference M v w k e =
    let n = length v in
    let d : ℕ → Element = λ m. entry v m ⊕ neg (entry w m) in
    ap (λ c. sum c (λ m. M k m ⊗ entry (table n d) m)) (length-table n d)
    ∙ sum_ext RqOps n (λ m. M k m ⊗ entry (table n d) m) (λ m. M k m ⊗ d m) (λ m l. ap (◌⊗◌ (M k m)) (get_or-table n d m nil l))
    ∙ dot-sub_right RqOps rq_ring n (M k) (entry v) (entry w)
    ∙ ap (λ c. sum n (λ m. M k m ⊗ entry v m) ⊕ neg (sum c (λ m. M k m ⊗ entry w m))) e

-- a row of two matrices side by side times two vectors joined
pub times-beside : (width : ℕ) (M N : ℕ → ℕ → Element) (v w : List Element) (k : ℕ) → length v ≡ width → times (beside width M N) (v ++ w) k ≡ times M v k ⊕ times N w k
unfolding times beside
times-beside width M N v w k e =
    let row = beside width M N k in
    ap (λ c. sum c (λ m. row m ⊗ entry (v ++ w) m)) (length-append v w)
    ∙ sum_split RqOps rq_ring (length v) (length w) (λ m. row m ⊗ entry (v ++ w) m)
    ∙ ap₂ ◌⊕◌
    (sum_ext RqOps (length v) (λ m. row m ⊗ entry (v ++ w) m) (λ m. M k m ⊗ entry v m) (λ m l.
    ap₂ ◌⊗◌ (ap (λ t. cond t (M k m) (N k (m - width))) (lt-ltb m width (omega arith))) (get_or-append v w nil m l)))
    (sum_ext RqOps (length w) (λ m. row (length v + m) ⊗ entry (v ++ w) (length v + m)) (λ m. N k m ⊗ entry w m) (λ m l.
    ap₂ ◌⊗◌ (ap (λ t. cond t (M k (length v + m)) (N k (length v + m - width))) (le-ltb (length v + m) width (omega arith)) ∙ ap (N k) (omega arith)) (get_or-append-add v w m nil)))
