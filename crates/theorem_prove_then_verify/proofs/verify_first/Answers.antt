-- `verify_first` meets its contract: the part lent has the length asked for.
use mathlib.Core.Path.{sym}
use native.Mathlib.Omega.{arith}
use lib.Seq.{length-take-le}
use Rattle.theorem_prove_then_verify.proofs.verify_first.Goals as goal

pub slice_bounds-verify-end : goal.slice_bounds-verify-end
slice_bounds-verify-end c = sym (length-take-le _ _ (omega arith))
