-- The challenges of a randomness and z, over the words of slices.
use Rattle.std.specs.Prelude.{List, ℕ, ◌+◌, ◌*◌}
use Rattle.math.specs.lists.Table.{table}
use Rattle.math.specs.lists.Part.{part}
use Rattle.spec_leaves.specs.Rq.{Element}
use Rattle.spec_leaves.specs.Ring.{element}
use Rattle.spec_leaves.specs.Challenge.{challenge}
use Rattle.ring_inner_product.specs.Run.{run}
use Rattle.spec_protocol.specs.Formulas.{◌⊗◌, sum}
use Rattle.ring_rq_matrix.specs.Region.{vector}

-- r challenges, of the sign words and the shuffle words that stand one after the other from two places on
abbrev pub challenges : List ℕ → (signs shuffle r : ℕ) → List Element
challenges words signs shuffle r = table r (λ i. element (challenge (part words (signs + 41 * i) 41) (part words (shuffle + 63 * i) 63)))

-- Σ s_i·c_i of r vectors s_i of n elements and r factors
abbrev pub z_of : List ℕ → ℕ → List ℕ → (c-at r n : ℕ) → List Element
z_of s s-at c c-at r n = table n (λ m. sum r (λ i. vector s s-at n i m ⊗ run c c-at 64 i))
