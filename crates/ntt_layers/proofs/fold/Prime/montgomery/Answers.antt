-- `montgomery` meets its contract.
use mathlib.Core.Path.{◌≡◌, ap₂}
use Prim.Native.Nat.{◌+◌, ◌-◌, ◌*◌, ◌/◌, ◌%◌}
use native.Mathlib.Nat.{mul-le-mul}
use native.Mathlib.Omega.{arith}
use Rattle.spec_leaves.proofs.Modulo.{mul-mod-both}
use Rattle.ntt_layers.specs.Fold.{prime, montgomery}
use Rattle.ntt_layers.proofs.Folds.{montgomery-bound}
use Rattle.ntt_layers.proofs.fold.Prime.montgomery.Goals as goal

pub overflow_mul-multiple : goal.overflow_mul-multiple
overflow_mul-multiple c = omega (arith, mul-le-mul {n₁ = c.args.z % 4294967296} {m₁ = c.args.self.opposite % 4294967296} {n₂ = 4294967295} {m₂ = 4294967295} (omega arith) (omega arith))

pub overflow_mul-result : goal.overflow_mul-result
overflow_mul-result c =
    omega (
      arith,
      mul-le-mul {n₁ = c.args.z % 4294967296 * (c.args.self.opposite % 4294967296) % 4294967296} {m₁ = (134217728 - c.args.self.delta) % 4294967296} {n₂ = 4294967295}
          {m₂ = 134217728} (omega arith) (omega arith),
    )

pub overflow_add-result : goal.overflow_add-result
overflow_add-result c =
    omega (
      arith,
      mul-le-mul {n₁ = c.args.z % 4294967296 * (c.args.self.opposite % 4294967296) % 4294967296} {m₁ = (134217728 - c.args.self.delta) % 4294967296} {n₂ = 4294967295}
          {m₂ = 134217728} (omega arith) (omega arith),
    )

pub returns : goal.returns
unfolding montgomery
returns c =
    let s = c.args in
    let p : (134217728 - s.self.delta) % 4294967296 ≡ prime s.self.delta = omega arith in (
      ap₂ (λ m p. (s.z + m * p) / 4294967296) (mul-mod-both 4294967296 s.z s.self.opposite) p,
      omega (arith, ap₂ (λ m p. (s.z + m * p) / 4294967296) (mul-mod-both 4294967296 s.z s.self.opposite) p, montgomery-bound s.self.delta s.self.opposite s.z c.args.self.small c.requires),
    )
