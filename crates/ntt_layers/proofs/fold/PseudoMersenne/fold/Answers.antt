-- `fold` meets its contract.
use mathlib.Core.Path.{◌≡◌, ◌∙◌, ap}
use Prim.Native.Nat.{◌+◌, ◌*◌, ◌/◌, ◌%◌}
use native.Mathlib.Omega.{arith}
use Rattle.ntt_layers.specs.Fold.{prime, fold}
use Rattle.ntt_layers.proofs.Folds.{prime_pos, fold-taken}
use Rattle.ntt_layers.proofs.fold.PseudoMersenne.fold.Goals.{Start}
use Rattle.ntt_layers.proofs.fold.PseudoMersenne.fold.Goals as goal

-- the product is what a fold takes off
taken : (c : Start) → fold c.args.self.delta c.args.z + c.args.z / 134217728 % 4294967296 * prime c.args.self.delta ≡ c.args.z
taken c =
    let s = c.args in
    let whole : s.z / 134217728 % 4294967296 ≡ s.z / 134217728 = omega arith in
    ap (λ x. fold s.self.delta s.z + x * prime s.self.delta) whole ∙ fold-taken s.self.delta c.args.self.small (prime_pos s.self.delta c.args.self.small) s.z

pub overflow_mul-result : goal.overflow_mul-result
overflow_mul-result c = omega (arith, taken (goal.at.overflow_mul-result c).Start)

pub overflow_sub-result-2 : goal.overflow_sub-result-2
overflow_sub-result-2 c = omega (arith, taken (goal.at.overflow_sub-result-2 c).Start)

pub returns : goal.returns
returns c = omega (arith, taken (goal.at.returns c).Start)
