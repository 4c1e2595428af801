-- `compute_h` meets its contract. The invariant: the first i rows are stored.
use mathlib.Core.Path.{◌≡◌}
use lib.ListN.{length}
use Rattle.math.specs.lists.Part.{splice}
use Rattle.spec_protocol.specs.Formulas.{flat, triangle}
use Rattle.core_garbage_polynomials.specs.Garbage.{h_of}
use Rattle.core_garbage_polynomials.proofs.h.compute_h.Given as goal

abbrev pub invariant-loop-i : goal.invariant-loop-i
invariant-loop-i l =
    (l.scratch ≡ splice l.initial.scratch l.out_at (flat (triangle l.i (h_of l.initial.scratch l.phi_at l.s l.s_at l.n)))) ×
    (length l.scratch ≡ length l.initial.scratch)
