-- The norm of a difference of vectors that are given by their entries, and of a difference of differences.
use mathlib.Core.Path.{◌≡◌, sym, ap, ap₂, subst, ◌∙◌}
use Prim.Native.Nat.{ℕ, ◌+◌, ◌*◌, ◌≤◌}
use native.Mathlib.Omega.{arith}
use Rattle.math.specs.lists.Table.{table}
use Rattle.math.proofs.lists.Table.{length-table, get_or-table, table_ext}
use Rattle.math.specs.algebra.Ops.{Ops}
use Rattle.math.proofs.algebra.Ring.{CRing, ring}
use Rattle.spec_leaves.specs.Rq.{Element}
use Rattle.spec_leaves.specs.Ring.{RqOps}
use Rattle.spec_leaves.proofs.RqRing.{rq_ring}
use Rattle.spec_protocol.specs.Formulas.{◌⊕◌, norm_of}
use Rattle.spec_binding.specs.Openings.{nil, neg, entry, difference}
use Rattle.spec_binding.proofs.Norm.{norm_of-difference}

-- the difference of two tables
difference-table : (n : ℕ) (v w : ℕ → Element) → difference (table n v) (table n w) ≡ table n (λ m. v m ⊕ neg (w m))
unfolding difference
difference-table n v w =
    ap (λ k. table k (λ m. entry (table n v) m ⊕ neg (entry (table n w) m))) (length-table n v)
    ∙ table_ext n (λ m. entry (table n v) m ⊕ neg (entry (table n w) m)) (λ m. v m ⊕ neg (w m)) (λ m l. ap₂ (λ x y. x ⊕ neg y) (get_or-table n v m nil l) (get_or-table n w m nil l))

-- the norm of a difference is at most twice the norms' sum
pub difference-norm : (n : ℕ) (v w : ℕ → Element) → norm_of (table n (λ m. v m ⊕ neg (w m))) ≤ 2 * (norm_of (table n v) + norm_of (table n w))
difference-norm n v w =
    subst (λ l. norm_of l ≤ 2 * (norm_of (table n v) + norm_of (table n w))) (difference-table n v w) (norm_of-difference (table n v) (table n w) (length-table n v ∙ sym (length-table n w)))

-- of two vectors within a limit it is at most four times the limit
pub difference-within : (n limit : ℕ) (v w : ℕ → Element) → norm_of (table n v) ≤ limit → norm_of (table n w) ≤ limit → norm_of (table n (λ m. v m ⊕ neg (w m))) ≤ 4 * limit
difference-within n limit v w h k = omega (arith, difference-norm n v w)

-- x − y − (z − w) is x − y − z + w
regroup : (O : Ops) (R : CRing O) (x y z w : O.Carrier) → O.add (O.add x (O.neg y)) (O.neg (O.add z (O.neg w))) ≡ O.add (O.add (O.add x (O.neg y)) (O.neg z)) w
regroup O R x y z w = simp (ring, R)

-- the norm of x − y − z + w of four vectors is at most four times the norms' sum
pub four_norm : (n : ℕ) (x y z w : ℕ → Element)
    → norm_of (table n (λ m. x m ⊕ neg (y m) ⊕ neg (z m) ⊕ w m)) ≤ 4 * (norm_of (table n x) + norm_of (table n y) + norm_of (table n z) + norm_of (table n w))
four_norm n x y z w =
    let same = table_ext n (λ m. (x m ⊕ neg (y m)) ⊕ neg (z m ⊕ neg (w m))) (λ m. x m ⊕ neg (y m) ⊕ neg (z m) ⊕ w m) (λ m l. regroup RqOps rq_ring (x m) (y m) (z m) (w m)) in
    omega (arith, ap norm_of same, difference-norm n (λ m. x m ⊕ neg (y m)) (λ m. z m ⊕ neg (w m)), difference-norm n x y, difference-norm n z w)
