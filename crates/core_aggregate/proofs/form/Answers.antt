-- `form` meets its contract.
use mathlib.Core.Path.{◌∙◌, sym, ap₂}
use Prim.Native.Nat.{◌*◌, ◌≤◌}
use native.Mathlib.Nat.{mul-le-mul}
use native.Mathlib.Omega.{arith}
use Rattle.spec_leaves.specs.Rq.{radd}
use Rattle.spec_leaves.proofs.Bridge.{words-add}
use Rattle.spec_protocol.specs.Views.{element_at, cell}
use Rattle.spec_protocol.specs.Formulas.{◌⊗◌, dot, pairs}
use Rattle.core_aggregate.specs.Weighed.{formed}
use Rattle.core_aggregate.proofs.Grid.{row-run}
use Rattle.core_aggregate.proofs.form.Goals as goal

pub inner_product-line-requires : goal.inner_product-line-requires
inner_product-line-requires c =
    let s = c.args in
    let h = c.requires in
    let few : s.r * s.n ≤ 64 * 64 = mul-le-mul h.few h.narrow in (
      row-run s.scratch.now s.phi_at (s.r * s.n) h.lines (omega arith) (omega arith),
      row-run s.witness.now s.s_at (s.r * s.n) h.vectors (omega arith) (omega arith),
    )

pub returns : goal.returns
unfolding formed
returns c =
    let s = c.args in
    c.add.ensures
    ∙ ap₂ radd c.sum_of_products-square.ensures c.inner_product-line.ensures
    ∙ sym (words-add (pairs s.r (λ i j. element_at s.scratch.now s.a_at (cell i j) ⊗ element_at s.scratch.now s.g_at (cell i j)))
    (dot (s.r * s.n) (element_at s.scratch.now s.phi_at) (element_at s.witness.now s.s_at)))
