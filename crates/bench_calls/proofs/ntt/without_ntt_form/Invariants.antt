-- `without_ntt_form` meets its contract. The invariant: the sums are those of m products.
use Prim.Native.Nat.{◌-◌, ◌≤◌}
use Rattle.bench_calls.proofs.Steps.{Held}
use Rattle.bench_calls.proofs.ntt.without_ntt_form.Given as goal

abbrev pub invariant-loop-m : goal.invariant-loop-m
invariant-loop-m l = (l.m ≤ l.n) × Held l.m l.a l.b l.sums.first l.sums.second l.sums.third

abbrev pub decreases-loop-m : goal.decreases-loop-m
decreases-loop-m l = l.n - l.m
