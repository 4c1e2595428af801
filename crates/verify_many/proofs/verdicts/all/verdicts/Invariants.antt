-- `verdicts` meets its contract. The invariant: the verdicts on the first m transcripts stand in their places, and the windows from m on are as they were.
use mathlib.Core.Path.{◌≡◌}
use mathlib.Core.List.{List}
use Prim.Native.Nat.{ℕ, ◌-◌, ◌≤◌}
use Rattle.math.specs.lists.Table.{padded}
use Rattle.spec_protocol.specs.Parameters.{parameters}
use Rattle.spec_protocol.specs.Unchanged.{Unchanged}
use Rattle.spec_protocol.specs.Many.{many_need, part_verdict}
use Rattle.api_answers.specs.declared.verdicts.LabradorVerdict.{LabradorVerdict}
use Rattle.api_answers.specs.Calls.{labrador_verdict}
use Rattle.verify_many.specs.Windows.{unused_verdict}
use Rattle.verify_many.proofs.verdicts.all.verdicts.Given as goal

-- the verdict on transcript m
abbrev pub of_part : (J : List ℕ) (count : ℕ) (R T : List ℕ) → ℕ → LabradorVerdict
of_part J count R T m = labrador_verdict (part_verdict J count R T m)

abbrev pub invariant-loop-m : goal.invariant-loop-m
invariant-loop-m l =
    (l.m ≤ l.count) × (l.out ≡ padded 8 l.m unused_verdict (of_part l.job l.count l.randomness l.transcripts)) × Unchanged (many_need (parameters l.job) l.m) l.initial.scratch l.scratch
