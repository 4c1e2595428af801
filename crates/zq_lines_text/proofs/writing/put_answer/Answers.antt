-- `put_answer` meets its contract.
use mathlib.Core.Path.{sym, subst}
use native.Mathlib.Omega.{arith}
use Rattle.zq_lines_text.specs.Reading.{FirstCanonical}
use Rattle.zq_lines_text.proofs.Decimal.{length-text}
use Rattle.zq_lines_text.proofs.Runs.{written-append, room}
use Rattle.zq_lines_text.proofs.Small.{first-canonical}
use Rattle.zq_lines_text.proofs.writing.put_answer.Goals as goal

pub put_parsed-end-requires : goal.put_parsed-end-requires
put_parsed-end-requires c = record { first_canonical = subst FirstCanonical (sym c.parse.ensures) (first-canonical c.args.s); at_in_bounds = omega arith }

pub put-requires : goal.put-requires
put-requires c =
    omega (arith, room 55 1 c.put_parsed-end.ensures (length-text c.parse.result) c.requires)

pub returns : goal.returns
returns c =
    rw (← c.parse.ensures) (written-append c.put_parsed-end.ensures c.put.ensures)
