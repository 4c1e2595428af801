-- `push` meets its contract.
use native.Mathlib.Omega.{arith}
use Rattle.zq_lines_text.proofs.Small.{digit-range, value-max}
use Rattle.zq_lines_text.proofs.reading.push.Goals as goal

pub overflow_mul-result : goal.overflow_mul-result
overflow_mul-result c =
    let h = value-max c.requires.small c.requires.digits_bound in
    omega arith

pub overflow_sub-result : goal.overflow_sub-result
overflow_sub-result c = (digit-range c.args.b c.requires.b_value).0

pub overflow_add-result : goal.overflow_add-result
overflow_add-result c =
    let h = value-max c.requires.small c.requires.digits_bound in
    omega (arith, (digit-range c.args.b c.requires.b_value).1)
