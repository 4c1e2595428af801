-- `omega_part` meets its contract.
use Rattle.std.proofs.Common.{◌∙◌, arith}
use Rattle.core_jl_transpose.proofs.Columns.{omega_region}
use Rattle.core_jl_transpose.proofs.omega_part.Goals as goal

pub returns : goal.returns
returns c =
    let s = c.args in
    c.conjugate_run.ensures
    ∙ omega_region s.randomness.now s.pi_at s.omega_at s.n
    (λ i. omega (arith, c.type_inv.randomness i))
    s.out.now c.clear_run.new.words c.add_rows.new.out s.out_at (omega arith)
    c.clear_run.ensures c.add_rows.ensures
