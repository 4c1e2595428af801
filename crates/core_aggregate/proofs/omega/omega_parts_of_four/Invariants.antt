-- `omega_parts_of_four` meets its contract. The invariant: the first i vectors are stored for each of the four k.
use mathlib.Core.Path.{◌≡◌}
use Prim.Native.Nat.{◌+◌, ◌*◌, ◌≤◌}
use lib.ListN.{length}
use Rattle.core_jl_transpose.specs.Omega.{omega_element}
use Rattle.core_jl_tables.specs.Fours.{spread}
use Rattle.spec_protocol.specs.Formulas.{flat, rows}
use Rattle.core_aggregate.proofs.omega.omega_parts_of_four.Given as goal

abbrev pub invariant-loop-i : goal.invariant-loop-i
invariant-loop-i l =
    let i = l.i in (i ≤ l.r)
    × (l.pi ≡ l.pi_at + i * 256 * (64 * l.n))
    × (l.place ≡ l.to + 64 * (i * l.n))
    × (l.out ≡ spread l.initial.out l.to (64 * (l.r * l.n)) 4 (λ k. flat (rows i l.n (λ i. omega_element l.randomness (l.pi_at + i * 256 * (64 * l.n)) (l.omega_at + k * 256) l.n))))
    × (length l.out ≡ length l.initial.out)
