-- `put_word` meets its contract.
use native.Mathlib.Omega.{arith}
use Rattle.zq_lines_text.proofs.Decimal.{length-decimal}
use Rattle.zq_lines_text.proofs.Runs.{written-append, room}
use Rattle.zq_lines_text.proofs.writing.put_word.Goals as goal

pub put_decimal-end-requires : goal.put_decimal-end-requires
put_decimal-end-requires c = omega (arith, length-decimal c.args.n)

pub put-requires : goal.put-requires
put-requires c =
    omega (arith, room 10 1 c.put_decimal-end.ensures (length-decimal c.args.n) c.requires)

pub returns : goal.returns
returns c = written-append c.put_decimal-end.ensures c.put.ensures
