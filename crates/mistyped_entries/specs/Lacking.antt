-- What the rows of check 22 lack.
use Rattle.std.specs.Prelude.{List, ℕ}
use Rattle.math.specs.lists.Table.{padded}
use Rattle.spec_protocol.specs.Parameters.{parameters}
use Rattle.spec_protocol.specs.Views.{public, message}
use Rattle.spec_protocol.proofs.Mistyped as Mistyped

module _ (J R T : List ℕ) where
  -- the constant coefficient of b''_k less Σ psi[k][l]·b0[l] + Σ omega[k][j]·p[j]
  abbrev pub lacking : ℕ → ℕ
  lacking = Mistyped.lacking (public J R) (message (parameters J) T)

  -- what each row lacks, in 32 places
  abbrev pub all_lacking : (rows : ℕ) → List ℕ
  all_lacking rows = padded 32 rows 0 lacking
