-- `put` meets its contract.
use mathlib.Core.Path.{refl}
use Rattle.math.specs.lists.Part.{splice}
use Rattle.zq_lines_text.proofs.writing.put.Goals as goal

pub returns : goal.returns
unfolding splice
returns c = record { contents = refl; count = refl }
