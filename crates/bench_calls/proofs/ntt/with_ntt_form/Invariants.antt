-- `with_ntt_form` meets its contract. The invariant: the sums are those of m products, for the pair whose values x and y are.
use mathlib.Core.List.{List}
use Prim.Native.Nat.{ℕ, ◌-◌, ◌≤◌}
use Rattle.ntt_product.specs.NttForm.{Transform}
use Rattle.ntt_product.proofs.Residue.{Words}
use Rattle.bench_calls.proofs.Steps.{Held}
use Rattle.bench_calls.proofs.ntt.with_ntt_form.Given as goal

abbrev pub invariant-loop-m : goal.invariant-loop-m
invariant-loop-m l =
    (l.m ≤ l.n)
    × ((a b : List ℕ) → Words a → Words b → Transform a l.x.first l.x.second l.x.third → Transform b l.y.first l.y.second l.y.third
    → Held l.m a b l.sums.first l.sums.second l.sums.third)

abbrev pub decreases-loop-m : goal.decreases-loop-m
decreases-loop-m l = l.n - l.m
