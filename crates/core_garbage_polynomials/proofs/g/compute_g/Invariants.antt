-- `compute_g` meets its contract. The invariant: the first i rows are stored.
use mathlib.Core.Path.{◌≡◌}
use lib.ListN.{length}
use Rattle.math.specs.lists.Part.{splice}
use Rattle.spec_protocol.specs.Formulas.{flat, triangle}
use Rattle.ring_rq_matrix.specs.Region.{gram}
use Rattle.core_garbage_polynomials.proofs.g.compute_g.Given as goal

abbrev pub invariant-loop-i : goal.invariant-loop-i
invariant-loop-i l =
    (l.out ≡ splice l.initial.out l.out_at (flat (triangle l.i (gram l.s l.s_at l.n)))) × (length l.out ≡ length l.initial.out)
