-- `shared` meets its contract.
use mathlib.Core.Path.{ap, ◌∙◌}
use Prim.Native.Nat.{◌+◌, ◌-◌, ◌*◌}
use native.Mathlib.Omega.{arith}
use lib.Dec.{leb}
use Rattle.relation_env_params.specs.Parameters.{parameters_of}
use Rattle.verify_many_windows.specs.Digits.{digit_count}
use Rattle.verify_many_windows.proofs.WindowLaws.{few}
use Rattle.verify_many_digits.proofs.RowLaws.{first, second, third, fourth, fifth}
use Rattle.verify_many_digits.proofs.rows.shared.Goals as goal

pub returns-then-count-lt2 : goal.returns-then-count-lt2
returns-then-count-lt2 c = let s = c.args in first (parameters_of s.params) s.count (omega arith)

pub returns-then-params-lt3 : goal.returns-then-params-lt3
returns-then-params-lt3 c = let s = c.args in second (parameters_of s.params) s.count (omega arith) (omega arith)

pub returns-then-params-lt3-2 : goal.returns-then-params-lt3-2
returns-then-params-lt3-2 c = let s = c.args in third (parameters_of s.params) s.count (omega arith) (omega arith) (omega arith)

pub returns-then-digits-lt32 : goal.returns-then-digits-lt32
returns-then-digits-lt32 c =
    let s = c.args in
    let e = c.triangle-cells.ensures.0 in
    fourth (parameters_of s.params) s.count (omega arith) (omega arith) (omega arith) (omega (arith, ap (λ n. n * s.params.t_2) e, ap (λ n. n * s.params.t_1) e))

pub returns : goal.returns
returns c =
    let s = c.args in
    let p = s.params in
    let e = c.triangle-cells.ensures.0 in
    ap (λ n. leb (192 * (p.multiplicity * p.kappa * p.t_1 + (n * p.t_2 + n * p.t_1))) (c.scratch_length.result - 4096)) e
    ∙ ap (λ n. leb (192 * digit_count (parameters_of p)) (n - 4096)) c.scratch_length.ensures
    ∙ fifth (parameters_of p) s.count (omega arith) (omega arith) (omega arith) (omega (arith, ap (λ n. n * p.t_2) e, ap (λ n. n * p.t_1) e))

pub overflow_mul-t : goal.overflow_mul-t
overflow_mul-t c = omega (arith, (few _ 0 c.requires (omega arith)).rκ)

pub overflow_mul-t-2 : goal.overflow_mul-t-2
overflow_mul-t-2 c = omega (arith, (few _ 0 c.requires (omega arith)).rκt₁)

pub triangle-cells-requires : goal.triangle-cells-requires
triangle-cells-requires c = c.requires.within.r.1

pub overflow_mul-digits : goal.overflow_mul-digits
overflow_mul-digits c = omega (arith, (few _ _ c.requires c.triangle-cells.ensures.1).tt₂)

pub overflow_mul-digits-2 : goal.overflow_mul-digits-2
overflow_mul-digits-2 c = omega (arith, (few _ _ c.requires c.triangle-cells.ensures.1).tt₁)

pub overflow_add-digits : goal.overflow_add-digits
overflow_add-digits c = let f = few _ _ c.requires c.triangle-cells.ensures.1 in omega (arith, f.tt₁, f.tt₂)

pub overflow_add-digits-2 : goal.overflow_add-digits-2
overflow_add-digits-2 c = let f = few _ _ c.requires c.triangle-cells.ensures.1 in omega
    (arith, f.rκt₁, f.tt₁, f.tt₂)

pub overflow_mul-result : goal.overflow_mul-result
overflow_mul-result c = let f = few _ _ c.requires c.triangle-cells.ensures.1 in omega
    (arith, f.rκt₁, f.tt₁, f.tt₂)

pub scratch_length-requires : goal.scratch_length-requires
scratch_length-requires c = c.requires

pub overflow_sub-result : goal.overflow_sub-result
overflow_sub-result c = omega (arith, c.scratch_length.ensures)
