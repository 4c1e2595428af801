-- Two vectors with the same image under a matrix: their difference is a short vector that it sends to zero.
use mathlib.Core.Path.{◌≡◌, sym, ap, ◌∙◌}
use mathlib.Core.List.{List}
use Prim.Native.Nat.{ℕ, ◌*◌, ◌≤◌, ◌<◌}
use native.Mathlib.Omega.{arith}
use lib.ListN.{length}
use lib.Seq.{ext_get_or}
use Rattle.math.proofs.lists.Table.{length-table, get_or-table}
use Rattle.math.proofs.algebra.Ring.{add-neg, eq_of_sub_nil}
use Rattle.spec_leaves.specs.Rq.{Element}
use Rattle.spec_leaves.specs.Ring.{RqOps}
use Rattle.spec_leaves.proofs.RqRing.{rq_ring}
use Rattle.spec_protocol.specs.Formulas.{◌⊕◌, norm_of, times}
use Rattle.spec_binding.specs.Openings.{nil, neg, entry, difference, ShortKernel}
use Rattle.spec_binding.proofs.Norm.{norm_of-difference}
use Rattle.spec_binding.proofs.Row.{times-difference}

-- a difference has as many entries as the first vector
length-difference : (v w : List Element) → length (difference v w) ≡ length v
unfolding difference
length-difference v w = length-table (length v) (λ m. entry v m ⊕ neg (entry w m))

-- vectors of the same length whose difference is zero are the same
same-vector : (v w : List Element) (columns : ℕ) → length v ≡ columns → length w ≡ columns → ((m : ℕ) → m < columns → entry (difference v w) m ≡ nil) → v ≡ w
unfolding difference
same-vector v w columns e f zero =
    ext_get_or nil v w (e ∙ sym f) (λ m l. eq_of_sub_nil RqOps rq_ring (entry v m) (entry w m) (sym (get_or-table (length v) (λ m. entry v m ⊕ neg (entry w m)) m nil l) ∙ zero m (omega arith)))

-- two different vectors with the same products, each with a norm of at most a limit
pub short_kernel : (M : ℕ → ℕ → Element) (rows columns limit : ℕ) (v w : List Element) → length v ≡ columns → length w ≡ columns → (v ≡ w → ⊥)
    → ((k : ℕ) → k < rows → times M v k ≡ times M w k)
    → norm_of v ≤ limit
    → norm_of w ≤ limit
    → ShortKernel M rows columns (4 * limit) (difference v w)
short_kernel M rows columns limit v w e f differ same h k = record {
  size = length-difference v w ∙ e;
  nonzero = λ zero. differ (same-vector v w columns e f zero);
  to_zero = λ row l. times-difference M v w row (e ∙ sym f) ∙ ap (λ x. x ⊕ neg (times M w row)) (same row l) ∙ add-neg RqOps rq_ring (times M w row);
  short = omega (arith, norm_of-difference v w (e ∙ sym f));
}
