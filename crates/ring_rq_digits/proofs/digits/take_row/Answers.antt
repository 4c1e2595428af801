-- `take_row` meets its contract: both ways give the same row.
use Rattle.std.proofs.Common.{rules, arith}
use lib.Count.{trailing_le}
use Rattle.ring_rq_digits.proofs.Row.{power_of_two}
use Rattle.ring_rq_digits.proofs.digits.take_row.Goals as goal

pub overflow_cast-shift : goal.overflow_cast-shift
overflow_cast-shift c = omega (arith, trailing_le 32 c.args.base)

pub overflow_shl-shift : goal.overflow_shl-shift
overflow_shl-shift c = omega (arith, trailing_le 32 c.args.base)

pub take_row_by-requires-clause-callable : goal.take_row_by-requires-clause-callable
take_row_by-requires-clause-callable c =
    let s = c.args in
    let p = power_of_two s.base _ (omega arith) (trailing_le 32 s.base) c.if-shift-base.true in
    λ x h. search (rules, p)
