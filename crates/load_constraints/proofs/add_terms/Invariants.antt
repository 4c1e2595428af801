-- `add_terms` meets its contract. The invariant: the first e elements are added.
use mathlib.Core.Path.{◌≡◌}
use Prim.Native.Nat.{◌-◌, ◌≤◌}
use lib.ListN.{length}
use Rattle.ring_inner_product.specs.Run.{run}
use Rattle.load_constraints.specs.Sums.{terms, plus}
use Rattle.load_constraints.proofs.add_terms.Given as goal

abbrev pub invariant-loop-e : goal.invariant-loop-e
invariant-loop-e l =
    (l.e ≤ l.m) × (l.job ≡ plus l.initial.job l.t (terms l.initial.job l.base0 l.m 0 l.e (run l.s l.s_at 64)) (terms l.initial.job l.base l.m 0 l.e (run l.s l.s_at 64))) ×
    (length l.job ≡ length l.initial.job)
