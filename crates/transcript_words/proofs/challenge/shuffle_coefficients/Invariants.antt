-- `shuffle_coefficients` meets its contract. The invariant: the first k swaps are done.
use mathlib.Core.Path.{◌≡◌}
use Prim.Native.Nat.{◌≤◌}
use Rattle.spec_leaves.specs.Challenge.{swaps}
use Rattle.transcript_words.proofs.challenge.shuffle_coefficients.Given as goal

abbrev pub invariant-loop-k : goal.invariant-loop-k
invariant-loop-k l = (l.k ≤ 63) × (l.a ≡ swaps l.words l.k l.initial.a)
