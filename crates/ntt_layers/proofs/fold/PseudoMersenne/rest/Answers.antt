-- `rest` meets its contract.
use native.Mathlib.Omega.{arith}
use Rattle.ntt_layers.specs.Fold.{prime}
use Rattle.ntt_layers.proofs.Folds.{rest_is}
use Rattle.ntt_layers.proofs.fold.PseudoMersenne.rest.Goals as goal

pub returns-then-r-p : goal.returns-then-r-p
returns-then-r-p c = rest_is c.args.r (prime c.args.self.delta) _ 0 (omega arith) (omega arith)

pub returns-then-r-p-2 : goal.returns-then-r-p-2
returns-then-r-p-2 c = rest_is c.args.r (prime c.args.self.delta) _ 1 (omega arith) (omega arith)

pub returns-else-r-p-2 : goal.returns-else-r-p-2
returns-else-r-p-2 c = rest_is c.args.r (prime c.args.self.delta) _ 2 (omega arith) (omega arith)
