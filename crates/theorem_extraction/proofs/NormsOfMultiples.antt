-- The norm of a vector times an element: it grows by at most the square of the sum of the element's sizes.
use mathlib.Core.Path.{ap}
use Prim.Native.Nat.{ℕ, ◌*◌, ◌≤◌}
use native.Mathlib.Omega.{arith}
use Rattle.math.specs.lists.Table.{table}
use Rattle.math.proofs.lists.Sum.{Σ-le, Σ-mul-left}
use Rattle.spec_leaves.specs.Zq.{size}
use Rattle.spec_leaves.specs.Norm.{norm}
use Rattle.spec_leaves.specs.Rq.{Element}
use Rattle.spec_leaves.specs.Ring.{words}
use Rattle.spec_leaves.proofs.Challenge.{total}
use Rattle.spec_protocol.specs.Formulas.{◌⊗◌, norm_of}
use Rattle.spec_protocol.proofs.Norms.{norm_of-table}
use Rattle.theorem_extraction.proofs.NormsOfProducts.{product_norm}

-- each entry of a vector
pub product_norm_of : (S : ℕ) (d : Element) (n : ℕ) (v : ℕ → Element) → total size (words d) ≤ S → norm_of (table n (λ m. d ⊗ v m)) ≤ S * S * norm_of (table n v)
product_norm_of S d n v h =
    omega (
      arith,
      norm_of-table n (λ m. d ⊗ v m),
      Σ-le n (λ m. norm (words (d ⊗ v m))) (λ m. S * S * norm (words (v m))) (λ m l. product_norm S d (v m) h),
      Σ-mul-left n (S * S) (λ m. norm (words (v m))),
      ap (λ x. S * S * x) (norm_of-table n v),
    )
