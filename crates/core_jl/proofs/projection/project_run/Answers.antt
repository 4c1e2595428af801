-- `project_run` meets its contract.
use mathlib.Core.Path.{refl, ◌∙◌, ap}
use Prim.Native.Nat.{◌-◌, ◌%◌}
use native.Mathlib.Omega.{arith}
use lib.ListN.{get_or}
use Rattle.math.specs.lists.Part.{splice}
use Rattle.math.proofs.lists.Table.{get_or-table, table_ext}
use Rattle.spec_leaves.specs.Zq.{Q}
use Rattle.core_jl.specs.Run.{made_sum, run_row}
use Rattle.core_jl.proofs.Made.{Words, made_is}
use Rattle.core_jl.proofs.projection.project_run.Goals as goal

pub sum_run-requires : goal.sum_run-requires
sum_run-requires c = (c.requires.0, refl)

pub returns : goal.returns
returns c =
    let s = c.args in
    let made = made_sum s.randomness.now s.pi_at s.witness.now s.s_at s.n s.first (s.end - s.first) in
    let words : Words s.witness.now = λ k. omega (arith, c.type_inv.witness k) in
    c.store_reduced.ensures
    ∙ ap (splice s.out.now s.out_at)
    (table_ext 256 _ (run_row s.randomness.now s.pi_at s.witness.now s.s_at s.n s.first s.end)
    (λ j h. ap (λ l. get_or l j 0 % Q) c.sum_run.ensures
    ∙ ap (λ x. x % Q) (get_or-table 256 made j 0 h)
    ∙ made_is s.randomness.now s.pi_at s.witness.now s.s_at s.n s.first s.end j words))
