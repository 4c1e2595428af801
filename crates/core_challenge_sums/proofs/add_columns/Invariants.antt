-- `add_columns` meets its contract. The invariant: the first m elements' terms are added.
use mathlib.Core.Path.{◌≡◌}
use Prim.Native.Nat.{◌≤◌}
use lib.ListN.{length}
use Rattle.core_aggregate_ntt.specs.Terms.{terms_added}
use Rattle.core_challenge_sums.specs.Lines.{combined_words}
use Rattle.core_challenge_sums.proofs.add_columns.Given as goal

abbrev pub invariant-loop-m : goal.invariant-loop-m
invariant-loop-m l =
    (l.m ≤ l.n) × (l.sums ≡ terms_added l.initial.sums l.z 0 (combined_words l.from l.at l.r l.n l.powers) 0 64 l.m) × (length l.sums ≡ length l.initial.sums)
