-- The garbage polynomials of vectors that a slice holds in NTT form.
use Rattle.std.specs.Prelude.{List, ℕ, ◌+◌, ◌*◌}
use Rattle.spec_leaves.specs.Rq.{Element}
use Rattle.ntt_vectors.specs.NttForm.{ntt_dot}

-- the inner product of the vectors i and j in NTT form
abbrev pub ntt_gram : List ℕ → ℕ → ℕ → ℕ → ℕ → Element
ntt_gram slice at n i j = ntt_dot slice (at + 192 * (i * n)) slice (at + 192 * (j * n)) n
