-- The squared norm of a part of a list.
use Rattle.std.proofs.Common.{◌≡◌, ℕ, ◌+◌, ◌≤◌, List, length, get_or, ap, ◌∙◌}
use Rattle.math.specs.lists.Part.{part}
use Rattle.math.specs.lists.Sum.{Σ}
use Rattle.math.proofs.lists.Sum.{Σ_ext}
use Rattle.math.proofs.lists.Splice.{length_part, get_d_part}
use Rattle.spec_leaves.specs.Norm.{square, norm}

-- the squares of the words from a place on
pub norm-part : (l : List ℕ) (at n : ℕ) → at + n ≤ length l → norm (part l at n) ≡ Σ n (λ i. square (get_or l (at + i) 0))
unfolding norm
norm-part l at n h =
    ap (λ k. Σ k (λ i. square (get_or (part l at n) i 0))) (length_part l at n h)
    ∙ Σ_ext n (λ i. square (get_or (part l at n) i 0)) (λ i. square (get_or l (at + i) 0)) (λ i m. ap square (get_d_part 0 l at n i m))
