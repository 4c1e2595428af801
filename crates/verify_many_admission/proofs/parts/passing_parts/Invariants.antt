-- `passing_parts` meets its contract. The invariant: which of the first m transcripts pass stands in their places.
use mathlib.Core.Path.{◌≡◌}
use mathlib.Core.Bool.{Bool, false}
use mathlib.Core.List.{List}
use Prim.Native.Nat.{ℕ, ◌≤◌}
use Rattle.math.specs.lists.Table.{padded}
use Rattle.std.specs.Prelude.{Result, is_ok}
use Rattle.spec_leaves.specs.declared.answers.Refusal.{Refusal}
use Rattle.verify_many_admission.specs.Admitted.{found_of}
use Rattle.verify_many_admission.proofs.parts.passing_parts.Given as goal

-- whether transcript m passes
abbrev pub of_part : List (Result Unit Refusal) → ℕ → Bool
of_part found m = is_ok (found_of found m)

abbrev pub invariant-loop-m : goal.invariant-loop-m
invariant-loop-m l = (l.m ≤ 8) × (l.out ≡ padded 8 l.m false (of_part l.found))
