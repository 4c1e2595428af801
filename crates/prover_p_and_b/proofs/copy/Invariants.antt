-- `copy` meets its contract. The invariant: the first k words are copied.
use mathlib.Core.Path.{◌≡◌}
use lib.ListN.{length, take}
use Rattle.math.specs.lists.Part.{part, splice}
use Rattle.prover_p_and_b.proofs.copy.Given as goal

abbrev pub invariant-loop-k : goal.invariant-loop-k
invariant-loop-k l = (l.to ≡ splice l.initial.to l.at (take l.k (part l.from l.start l.count))) × (length l.to ≡ length l.initial.to)
