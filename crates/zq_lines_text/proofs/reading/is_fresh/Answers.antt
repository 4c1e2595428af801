-- `is_fresh` meets its contract.
use mathlib.Core.Path.{sym, ap}
use Rattle.zq_lines_text.specs.Reading.{is_fresh}
use Rattle.zq_lines_text.proofs.reading.is_fresh.Goals as goal

pub returns-in-First : goal.returns-in-First
returns-in-First c = ap is_fresh (sym c.in-First.is)
