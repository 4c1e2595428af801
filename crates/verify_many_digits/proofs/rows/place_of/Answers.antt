-- `place_of` meets its contract.
use native.Mathlib.Omega.{arith}
use Rattle.relation_env_params.specs.Parameters.{parameters_of}
use Rattle.verify_many_windows.proofs.WindowLaws.{few}
use Rattle.verify_many_digits.proofs.RowLaws.{of_b, of_c, of_d}
use Rattle.verify_many_digits.proofs.rows.place_of.Goals as goal

pub returns-then-row-c : goal.returns-then-row-c
returns-then-row-c c = let s = c.args in of_b (parameters_of s.params) s.row _
    c.triangle-cells.ensures.0 (omega arith)

pub returns-then-row-d : goal.returns-then-row-d
returns-then-row-d c = let s = c.args in of_c (parameters_of s.params) s.row _
    c.triangle-cells.ensures.0 (omega arith) (omega arith)

pub returns : goal.returns
returns c = let s = c.args in of_d (parameters_of s.params) s.row _
    c.triangle-cells.ensures.0 (omega arith)

pub overflow_add-c : goal.overflow_add-c
overflow_add-c c = let w = c.requires.0.within in omega (arith, w.κ.1, w.κ₁.1)

pub overflow_add-d : goal.overflow_add-d
overflow_add-d c = let w = c.requires.0.within in omega (arith, w.κ.1, w.κ₁.1)

pub triangle-cells-requires : goal.triangle-cells-requires
triangle-cells-requires c = c.requires.0.within.r.1

pub overflow_mul-t : goal.overflow_mul-t
overflow_mul-t c = omega (arith, (few _ 0 c.requires.0 (omega arith)).rκ)

pub overflow_mul-t-2 : goal.overflow_mul-t-2
overflow_mul-t-2 c = omega (arith, (few _ 0 c.requires.0 (omega arith)).rκt₁)

pub overflow_mul-g : goal.overflow_mul-g
overflow_mul-g c = omega (arith, (few _ _ c.requires.0 c.triangle-cells.ensures.1).tt₂)

pub overflow_mul-h : goal.overflow_mul-h
overflow_mul-h c = omega (arith, (few _ _ c.requires.0 c.triangle-cells.ensures.1).tt₁)

pub overflow_sub-result : goal.overflow_sub-result
overflow_sub-result c = c.requires.1

pub overflow_mul-result : goal.overflow_mul-result
overflow_mul-result c = omega (arith, (few _ 0 c.requires.0 (omega arith)).rκt₁)

pub overflow_add-result : goal.overflow_add-result
overflow_add-result c = let f = few _ _ c.requires.0
    c.triangle-cells.ensures.1 in omega (arith, f.rκt₁, f.tt₂)

pub overflow_mul-result-2 : goal.overflow_mul-result-2
overflow_mul-result-2 c = let f = few _ _ c.requires.0
    c.triangle-cells.ensures.1 in omega (arith, f.rκt₁, f.tt₂)
