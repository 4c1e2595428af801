-- `feed` meets its contract: the bytes so far of the chunk are fed.
use mathlib.Core.Path.{◌≡◌}
use Prim.Native.Nat.{ℕ}
use mathlib.Core.List.{List}
use lib.ListN.{take}
use Rattle.zq_lines_text.specs.Reading.{after, answers}
use Rattle.zq_lines_text.specs.Written.{Written}
use Rattle.zq_lines_text.specs.declared.reading.State.{State}
use Rattle.zq_lines_text.proofs.feeding.feed.Given as goal

-- what the first i bytes of a chunk leave
abbrev pub FedTo : State → List ℕ → List ℕ → ℕ → List ℕ → State → ℕ → Type 0
FedTo s chunk out₀ i out state at = (state ≡ after s (take i chunk)) × Written out₀ 0 (answers s (take i chunk)) out at

abbrev pub invariant-loop-b : goal.invariant-loop-b
invariant-loop-b l = FedTo l.initial.f.state l.chunk l.initial.out l.b-index l.out l.f.state l.f.at
