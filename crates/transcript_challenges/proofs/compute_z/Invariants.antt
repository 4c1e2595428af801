-- `compute_z` meets its contract. The invariant: the first m elements are stored, and the place stands at the next.
use mathlib.Core.Path.{◌≡◌}
use mathlib.Core.List.{List}
use Prim.Native.Nat.{ℕ, ◌+◌, ◌-◌, ◌*◌, ◌≤◌}
use lib.ListN.{length}
use Rattle.math.specs.lists.Table.{table}
use Rattle.math.specs.lists.Part.{splice}
use Rattle.spec_leaves.specs.Rq.{Element}
use Rattle.ring_inner_product.specs.Run.{run}
use Rattle.spec_protocol.specs.Formulas.{◌⊗◌, sum, flat}
use Rattle.ring_rq_matrix.specs.Region.{vector}
use Rattle.transcript_challenges.proofs.compute_z.Given as goal

-- element m of z
abbrev pub z_of : List ℕ → ℕ → List ℕ → ℕ → ℕ → ℕ → ℕ → Element
z_of s s-at c c-at r n m = sum r (λ i. vector s s-at n i m ⊗ run c c-at 64 i)

abbrev pub invariant-loop-m : goal.invariant-loop-m
invariant-loop-m l =
    (l.m ≤ l.n) × (l.place ≡ l.out_at + 64 * l.m) × (l.out ≡ splice l.initial.out l.out_at (flat (table l.m (z_of l.s l.s_at l.c l.c_at l.r l.n)))) × (length l.out ≡ length l.initial.out)
