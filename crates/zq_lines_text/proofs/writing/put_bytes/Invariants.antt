-- `put_bytes` meets its contract: after i turns the first i bytes are written.
use mathlib.Core.Path.{◌≡◌}
use lib.ListN.{length, take}
use Rattle.math.specs.lists.Part.{splice}
use Rattle.zq_lines_text.proofs.writing.put_bytes.Given as goal

abbrev pub invariant-loop-i : goal.invariant-loop-i
invariant-loop-i l = (l.out ≡ splice l.initial.out l.at (take l.i l.bytes)) × (length l.out ≡ length l.initial.out)
