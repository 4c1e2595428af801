-- `fits` meets its contract.
use mathlib.Core.Path.{ap, ◌∙◌}
use Prim.Native.Nat.{◌+◌, ◌-◌, ◌*◌}
use native.Mathlib.Omega.{arith}
use lib.Dec.{leb}
use Rattle.relation_env_params.specs.Parameters.{parameters_of}
use Rattle.verify_many_windows.specs.Digits.{digit_count}
use Rattle.verify_many_windows.proofs.WindowLaws.{few}
use Rattle.verify_many_windows.proofs.windows.fits.Goals as goal

pub returns : goal.returns
returns c =
    let params = c.args.params in
    ap (λ n. leb (64 * (params.multiplicity * params.kappa * params.t_1 + (n * params.t_2 + n * params.t_1))) (c.scratch_length.result - 4096))
    c.triangle-cells.ensures.0
    ∙ ap (λ n. leb (64 * digit_count (parameters_of params)) (n - 4096)) c.scratch_length.ensures

pub overflow_mul-t : goal.overflow_mul-t
overflow_mul-t c = omega (arith, (few _ 0 c.requires (omega arith)).rκ)

pub overflow_mul-t-2 : goal.overflow_mul-t-2
overflow_mul-t-2 c = omega (arith, (few _ 0 c.requires (omega arith)).rκt₁)

pub overflow_mul-gh : goal.overflow_mul-gh
overflow_mul-gh c = omega (arith, (few _ _ c.requires c.triangle-cells.ensures.1).tt₂)

pub overflow_mul-gh-2 : goal.overflow_mul-gh-2
overflow_mul-gh-2 c = omega (arith, (few _ _ c.requires c.triangle-cells.ensures.1).tt₁)

pub overflow_add-gh : goal.overflow_add-gh
overflow_add-gh c = let b = few _ _ c.requires c.triangle-cells.ensures.1 in omega (arith, b.tt₁, b.tt₂)

pub overflow_add-result : goal.overflow_add-result
overflow_add-result c = let b = few _ _ c.requires c.triangle-cells.ensures.1 in omega (arith, b.rκt₁, b.tt₁, b.tt₂)

pub overflow_mul-result : goal.overflow_mul-result
overflow_mul-result c = let b = few _ _ c.requires c.triangle-cells.ensures.1 in omega (arith, b.rκt₁, b.tt₁, b.tt₂)

pub overflow_sub-result : goal.overflow_sub-result
overflow_sub-result c = omega (arith, c.scratch_length.ensures)
