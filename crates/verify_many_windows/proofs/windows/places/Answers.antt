-- `places` meets its contract.
use mathlib.Core.Path.{refl, ap}
use Prim.Native.Nat.{◌+◌, ◌*◌}
use native.Mathlib.Omega.{arith}
use Rattle.verify_many_windows.proofs.WindowLaws.{few}
use Rattle.verify_many_windows.proofs.windows.places.Goals as goal

pub returns : goal.returns
returns c =
    let s = c.args in
    record {
      t = refl;
      g = refl;
      h = ap (λ n. s.start + 64 * (s.params.multiplicity * s.params.kappa * s.params.t_1) + 64 * (n * s.params.t_2)) c.triangle.ensures.0;
    }

pub overflow_mul-t : goal.overflow_mul-t
overflow_mul-t c = omega (arith, (few _ 0 c.requires.0 (omega arith)).rκ)

pub overflow_mul-t-2 : goal.overflow_mul-t-2
overflow_mul-t-2 c = omega (arith, (few _ 0 c.requires.0 (omega arith)).rκt₁)

pub overflow_mul-g : goal.overflow_mul-g
overflow_mul-g c = omega (arith, (few _ _ c.requires.0 c.triangle.ensures.1).tt₂)

pub overflow_mul-result : goal.overflow_mul-result
overflow_mul-result c = omega (arith, (few _ 0 c.requires.0 (omega arith)).rκt₁)

pub overflow_add-result : goal.overflow_add-result
overflow_add-result c = omega (arith, (few _ 0 c.requires.0 (omega arith)).rκt₁, c.requires.1)

pub overflow_mul-result-2 : goal.overflow_mul-result-2
overflow_mul-result-2 c = omega (arith, (few _ 0 c.requires.0 (omega arith)).rκt₁)

pub overflow_add-result-2 : goal.overflow_add-result-2
overflow_add-result-2 c = omega (arith, (few _ 0 c.requires.0 (omega arith)).rκt₁, c.requires.1)

pub overflow_mul-result-3 : goal.overflow_mul-result-3
overflow_mul-result-3 c = omega (arith, (few _ _ c.requires.0 c.triangle.ensures.1).tt₂)

pub overflow_add-result-3 : goal.overflow_add-result-3
overflow_add-result-3 c = let b = few _ _ c.requires.0 c.triangle.ensures.1 in omega (arith, b.rκt₁, b.tt₂, c.requires.1)
