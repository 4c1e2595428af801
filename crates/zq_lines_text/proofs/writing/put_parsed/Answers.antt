-- `put_parsed` meets its contract.
use mathlib.Core.Path.{subst}
use native.Mathlib.Omega.{arith}
use Rattle.zq_lines_text.specs.Line.{text}
use Rattle.zq_lines_text.specs.Reading.{FirstCanonical}
use Rattle.zq_lines_text.proofs.writing.put_parsed.Goals as goal

pub put_pair-requires : goal.put_pair-requires
put_pair-requires c = record { canonical = subst FirstCanonical c.in-Some.is c.requires.first_canonical; at_in_bounds = omega arith }

pub returns-in-Some : goal.returns-in-Some
returns-in-Some c = rw c.in-Some.is c.put_pair.ensures

pub returns-in-None : goal.returns-in-None
unfolding text
returns-in-None c = rw c.in-None.is c.put_bytes.ensures
