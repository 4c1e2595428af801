-- `enter_all` meets its contract. The loop's invariant: the entries of the first i indexes stand in the list.
use mathlib.Core.Path.{◌≡◌}
use Prim.Native.Nat.{◌≤◌}
use Rattle.spec_protocol.specs.Layout.{start, randomness_sections}
use Rattle.relation_env_params.specs.Parameters.{parameters_of}
use Rattle.mistyped_entries.specs.Lacking.{all_lacking}
use Rattle.mistyped_entries.specs.Entered.{Entered}
use Rattle.mistyped_entries.proofs.enter_all.Given as goal

abbrev pub invariant-loop-i : goal.invariant-loop-i
invariant-loop-i l =
    (l.i ≤ l.l) × (l.psi ≡ start (randomness_sections (parameters_of l.params)) 1) × (l.rows ≡ all_lacking l.job l.randomness l.transcript l.params.const_agg_length)
    × Entered l.job l.randomness l.transcript l.i l.initial.list l.count l.list
