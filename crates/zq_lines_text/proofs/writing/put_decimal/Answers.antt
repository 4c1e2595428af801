-- `put_decimal` meets its contract.
use Rattle.std.proofs.Common.{◌≡◌, ◌∙◌, ap, length, arith}
use Rattle.zq_lines_text.specs.Text.{decimal}
use Rattle.zq_lines_text.proofs.Decimal.{decimal-word, decimal_digit}
use Rattle.zq_lines_text.proofs.writing.put_decimal.Goals.{After-as_bytes}
use Rattle.zq_lines_text.proofs.writing.put_decimal.Goals as goal

-- what is formatted are the digits
formatted : (c : After-as_bytes) → c.as_bytes.result.now ≡ decimal c.args.n
formatted c = c.as_bytes.ensures.value ∙ c.format.ensures.text ∙ decimal-word c.args.n (omega arith)

pub put_bytes-requires : goal.put_bytes-requires
put_bytes-requires c = omega (arith, ap length (formatted c), c.requires)

pub put-requires : goal.put-requires
put-requires c = omega (arith, c.requires, ap length (decimal_digit c.args.n c.if-n-lt10.true))

pub returns-then-n-lt10 : goal.returns-then-n-lt10
returns-then-n-lt10 c = rw (decimal_digit c.args.n c.if-n-lt10.true) c.put.ensures

pub returns-else-n-lt10 : goal.returns-else-n-lt10
returns-else-n-lt10 c = rw (← formatted (goal.at.returns-else-n-lt10 c).After-as_bytes) c.put_bytes.ensures
