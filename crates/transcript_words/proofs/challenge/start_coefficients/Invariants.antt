-- `start_coefficients` meets its contract. The invariant: the first k coefficients are the definition's, and the later ones zero.
use mathlib.Core.Path.{◌≡◌}
use Prim.Native.Nat.{◌≤◌}
use Rattle.math.specs.lists.Table.{padded}
use Rattle.spec_leaves.specs.Challenge.{start_coeff}
use Rattle.transcript_words.proofs.challenge.start_coefficients.Given as goal

abbrev pub invariant-loop-k : goal.invariant-loop-k
invariant-loop-k l = (l.k ≤ 41) × (l.coeffs ≡ padded 64 l.k 0 (start_coeff l.signs))
