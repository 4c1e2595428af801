-- The norm of a difference of two vectors.
use mathlib.Core.Path.{◌≡◌, sym, ap, ◌∙◌}
use mathlib.Core.List.{List}
use Prim.Native.Nat.{ℕ, ◌+◌, ◌*◌, ◌≤◌, ◌<◌}
use native.Mathlib.Omega.{arith}
use lib.ListN.{length}
use Rattle.math.specs.lists.Sum.{Σ}
use Rattle.math.proofs.lists.Table.{table-get_or}
use Rattle.math.proofs.lists.Sum.{Σ-add, Σ-mul-left, Σ-le}
use Rattle.spec_leaves.specs.Zq.{zsub}
use Rattle.spec_leaves.specs.Norm.{square, norm}
use Rattle.spec_leaves.specs.Rq.{Element, coeff, rsub}
use Rattle.spec_leaves.specs.Ring.{words}
use Rattle.spec_leaves.proofs.Bridge.{coeff-canonical, words-sub}
use Rattle.spec_protocol.specs.Formulas.{◌⊕◌, norm_of}
use Rattle.spec_protocol.proofs.Norms.{norm-table, norm_of-table}
use Rattle.spec_protocol.proofs.Flat.{length-words}
use Rattle.spec_binding.specs.Openings.{nil, neg, entry, difference}
use Rattle.spec_binding.proofs.Size.{square_of-difference}

-- a sum of terms that are each at most twice two others'
Σ-twice : (n : ℕ) (d f g : ℕ → ℕ) → ((i : ℕ) → i < n → d i ≤ 2 * f i + 2 * g i) → Σ n d ≤ 2 * Σ n f + 2 * Σ n g
Σ-twice n d f g h =
    omega (arith, Σ-le n d (λ i. 2 * f i + 2 * g i) h, Σ-add n (λ i. 2 * f i) (λ i. 2 * g i), Σ-mul-left n 2 f, Σ-mul-left n 2 g)

-- the norm of an element, over its 64 coefficients
pub norm_of-words : (e : Element) → norm (words e) ≡ Σ 64 (λ k. square (coeff (words e) k))
unfolding norm
norm_of-words e = ap (λ n. Σ n (λ k. square (coeff (words e) k))) (length-words e)

-- of one entry
norm_of-entry : (x y : Element) → norm (words (x ⊕ neg y)) ≤ 2 * norm (words x) + 2 * norm (words y)
unfolding rsub
norm_of-entry x y =
    let d = norm-table 64 (λ k. zsub (coeff (words x) k) (coeff (words y) k)) in
    omega (
      arith,
      ap norm (words-sub x y) ∙ d,
      norm_of-words x,
      norm_of-words y,
      Σ-twice 64 (λ k. square (zsub (coeff (words x) k) (coeff (words y) k))) (λ k. square (coeff (words x) k)) (λ k. square (coeff (words y) k))
          (λ k l. square_of-difference (coeff (words x) k) (coeff (words y) k) (coeff-canonical x k) (coeff-canonical y k)),
    )

-- the norm of a vector, over its entries
norm_of-vector : (n : ℕ) (v : List Element) → length v ≡ n → norm_of v ≡ Σ n (λ m. norm (words (entry v m)))
norm_of-vector n v e = ap norm_of (sym (table-get_or n v nil e)) ∙ norm_of-table n (entry v)

-- the norm of a difference is at most twice the norms' sum
pub norm_of-difference : (v w : List Element) → length v ≡ length w → norm_of (difference v w) ≤ 2 * (norm_of v + norm_of w)
unfolding difference
norm_of-difference v w e =
    omega (
      arith,
      norm_of-table (length v) (λ m. entry v m ⊕ neg (entry w m)),
      norm_of-vector (length v) v (λ i. length v),
      norm_of-vector (length v) w (sym e),
      Σ-twice (length v) (λ m. norm (words (entry v m ⊕ neg (entry w m)))) (λ m. norm (words (entry v m))) (λ m. norm (words (entry w m))) (λ m l. norm_of-entry (entry v m) (entry w m)),
    )
