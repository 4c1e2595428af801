-- `to_ntt_form` meets its contract. The invariant: the values of the first m elements are stored.
use mathlib.Core.Path.{◌≡◌}
use Prim.Native.Nat.{◌+◌, ◌*◌, ◌≤◌}
use lib.ListN.{length}
use Rattle.math.specs.lists.Part.{splice}
use Rattle.ntt_vectors.specs.NttForm.{ntt_words}
use Rattle.ntt_vectors.proofs.vectors.to_ntt_form.Given as goal

abbrev pub invariant-loop-m : goal.invariant-loop-m
invariant-loop-m l =
    (l.m ≤ l.n) × (l.i ≡ l.from_at + 64 * l.m) × (l.place ≡ l.at + 192 * l.m) × (l.out ≡ splice l.initial.out l.at (ntt_words l.from l.from_at l.m)) × (length l.out ≡ length l.initial.out)
