-- `is_negative` meets its contract.
use mathlib.Core.Bool.{cond}
use Prim.Native.Nat.{ℕ, ◌≤◌}
use native.Mathlib.Omega.{arith}
use lib.Dec.{ltb}
use Rattle.spec_leaves.proofs.Cases.{ltb_cases}
use Rattle.transcript_words.specs.Entries.{by_entry}
use Rattle.core_jl.proofs.projection.is_negative.Goals as goal

small : (code : ℕ) → by_entry code 1 0 0 ≤ 1
small code =
    ltb_cases (λ t. cond t 1 (cond (ltb code 2147483648) 0 0) ≤ 1) code 1073741824
    (λ l. omega arith)
    (λ l. ltb_cases (λ t. cond t 0 0 ≤ 1) code 2147483648 (λ m. omega arith) (λ m. omega arith))

pub returns : goal.returns
returns c = (c.by_entry.ensures, omega (arith, c.by_entry.ensures, small c.args.code))
