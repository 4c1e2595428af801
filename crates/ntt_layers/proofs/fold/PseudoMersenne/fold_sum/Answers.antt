-- `fold_sum` meets its contract.
use mathlib.Core.Path.{◌≡◌, ap}
use Prim.Native.Nat.{◌+◌, ◌-◌, ◌*◌, ◌/◌, ◌%◌, ◌<◌}
use native.Mathlib.Omega.{arith}
use Rattle.ntt_layers.specs.Fold.{prime}
use Rattle.ntt_layers.proofs.Folds.{prime_pos, word-taken, word_bound}
use Rattle.ntt_layers.proofs.fold.PseudoMersenne.fold_sum.Goals.{Else-self-eq0}
use Rattle.ntt_layers.proofs.fold.PseudoMersenne.fold_sum.Goals as goal

-- the product is what is taken off
taken : (c : Else-self-eq0) →
    let s = c.args in
    s.z / 4294967296 * (32 * s.self.delta) + s.z % 4294967296 + s.z / 4294967296 * (32 * (134217728 - s.self.delta) % 4294967296) ≡ s.z
taken c =
    let s = c.args in
    let word : 32 * (134217728 - s.self.delta) % 4294967296 ≡ 32 * prime s.self.delta = omega arith in
    omega (arith, ap (λ x. s.z / 4294967296 * x) word, word-taken s.self.delta c.args.self.small (prime_pos s.self.delta c.args.self.small) s.z)

bound : (c : Else-self-eq0) → let s = c.args in s.z / 4294967296 * (32 * s.self.delta) + s.z % 4294967296 < 576460752303423488
bound c = word_bound c.args.self.delta c.args.z c.args.self.small (omega arith)

pub returns-then-self-eq0 : goal.returns-then-self-eq0
returns-then-self-eq0 c = let s = c.args in (omega (arith, ap (λ d. s.z / 4294967296 * (32 * d)) c.if-self-eq0.true), omega arith)

pub overflow_mul-result-2 : goal.overflow_mul-result-2
overflow_mul-result-2 c = omega (arith, taken (goal.at.overflow_mul-result-2 c).Else-self-eq0)

pub overflow_sub-result-2 : goal.overflow_sub-result-2
overflow_sub-result-2 c = omega (arith, taken (goal.at.overflow_sub-result-2 c).Else-self-eq0)

pub returns : goal.returns
returns c = (omega (arith, taken (goal.at.returns c).Else-self-eq0), omega (arith, taken (goal.at.returns c).Else-self-eq0, bound (goal.at.returns c).Else-self-eq0))
