-- `omega_part` meets its contract.
use Rattle.std.proofs.Common.{◌+◌, ◌*◌, refl, ap, ◌∙◌, arith}
use Rattle.math.specs.lists.Table.{table}
use Rattle.math.proofs.lists.Table.{table_ext}
use Rattle.spec_protocol.specs.Formulas.{flat}
use Rattle.core_jl_transpose.specs.Omega.{omega_element}
use Rattle.core_jl_tables.specs.Fours.{summed_element}
use Rattle.core_jl_tables.proofs.Spread.{spread_ext}
use Rattle.core_jl_tables.proofs.Groups.{summed_is}
use Rattle.core_jl_tables.proofs.fours.omega_part.Goals as goal

pub add_rows-requires : goal.add_rows-requires
add_rows-requires c = (omega arith, omega arith, refl, omega arith)

pub returns : goal.returns
returns c =
    let s = c.args in
    let sums = c.add_rows.new.sums in
    c.store_parts.ensures
    ∙ spread_ext s.out_at s.step s.out.now 4
    (λ k. flat (table s.n (summed_element sums k)))
    (λ k. flat (table s.n (omega_element s.randomness.now s.pi_at (s.omega_at + k * 256) s.n)))
    (λ k few. ap flat
    (table_ext s.n (summed_element sums k) (omega_element s.randomness.now s.pi_at (s.omega_at + k * 256) s.n)
    (λ m within. summed_is s.randomness.now s.pi_at s.omega_at s.n sums c.add_rows.ensures.1 k m few within)))
