-- `section_at` meets its contract: each branch's test says which case of `read_at` holds.
use mathlib.Core.Path.{sym}
use native.Mathlib.Omega.{arith}
use Rattle.layout_section_reader.proofs.Reading.{read_section, read_short, read_end}
use Rattle.layout_section_reader.proofs.section_at.Goals as goal

pub returns-then-count-len : goal.returns-then-count-len
returns-then-count-len c = sym (read_section _ _ c.wide_usize-count.result c.wide_usize-count.ensures (omega arith) (omega arith))

pub returns-else-count-len : goal.returns-else-count-len
returns-else-count-len c = sym (read_short _ _ c.wide_usize-count.result c.wide_usize-count.ensures (omega arith) (omega arith))

pub returns-else-position-len : goal.returns-else-position-len
returns-else-position-len c = sym (read_end _ _ (omega arith))
