-- `with` meets its contract: a word's halves are at most 65535.
use mathlib.Core.Path.{ap}
use Prim.Native.Nat.{◌+◌, ◌/◌, ◌%◌}
use native.Mathlib.Omega.{arith}
use Rattle.core_jl.proofs.rows.FlippedHalves.with.Goals as goal

pub returns : goal.returns
returns c =
    let s = c.args in
    let t = c.flipped-t.ensures in (
      ap (λ t. s.self.low + t % 65536) t,
      ap (λ t. s.self.high + t / 65536) t,
      ap (λ n. s.self.negatives + n) c.is_negative-negative.ensures.0,
    )

pub overflow_add-result-3 : goal.overflow_add-result-3
overflow_add-result-3 c = omega (arith, c.is_negative-negative.ensures.1)
