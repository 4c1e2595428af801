-- `value_sums` meets its contract. The invariant: the sums are those of the first m elements.
use mathlib.Core.Path.{◌≡◌}
use Prim.Native.Nat.{◌+◌, ◌*◌, ◌≤◌}
use lib.ListN.{length}
use Rattle.ntt_vectors.specs.NttForm.{value_sums}
use Rattle.ntt_vectors.proofs.vectors.value_sums.Given as goal

abbrev pub invariant-loop-m : goal.invariant-loop-m
invariant-loop-m l = (l.m ≤ l.n) × (l.i ≡ l.x_at + 192 * l.m) × (l.j ≡ l.y_at + 192 * l.m) × (l.sums ≡ value_sums l.x l.x_at l.y l.y_at l.m) × (length l.sums ≡ 64)
