-- `fold_word` meets its contract.
use mathlib.Core.Path.{◌≡◌}
use Prim.Native.Nat.{◌+◌, ◌*◌, ◌/◌}
use native.Mathlib.Omega.{arith}
use Rattle.ntt_layers.specs.Fold.{prime, fold}
use Rattle.ntt_layers.proofs.Folds.{prime_pos, fold-taken}
use Rattle.ntt_layers.proofs.fold.PseudoMersenne.fold_word.Goals.{Start}
use Rattle.ntt_layers.proofs.fold.PseudoMersenne.fold_word.Goals as goal

-- the product is what a fold takes off
taken : (c : Start) → fold c.args.self.delta c.args.x + c.args.x / 134217728 * prime c.args.self.delta ≡ c.args.x
taken c = fold-taken c.args.self.delta c.args.self.small (prime_pos c.args.self.delta c.args.self.small) c.args.x

pub overflow_mul-result : goal.overflow_mul-result
overflow_mul-result c = omega (arith, taken (goal.at.overflow_mul-result c).Start)

pub overflow_sub-result-2 : goal.overflow_sub-result-2
overflow_sub-result-2 c = omega (arith, taken (goal.at.overflow_sub-result-2 c).Start)

pub returns : goal.returns
returns c = omega (arith, taken (goal.at.returns c).Start)
