use Rattle.std.proofs.Common.{◌≡◌, ℕ, ◌+◌, get_or, set, sym, refl, ap, ◌∙◌, ap₂, arith, length-set}
use Rattle.math.specs.lists.Table.{table}
use Rattle.math.specs.lists.Part.{splice}
use Rattle.math.proofs.lists.Table.{length-table}
use Rattle.math.proofs.lists.Splice.{splice-nil, get_or-splice-after}
use Rattle.math.proofs.lists.Fill.{splice-table-next}
use Rattle.core_jl.specs.Rows.{term}
use Rattle.core_jl_transpose.specs.Omega.{carried}
use Rattle.core_jl_transpose.proofs.add_row.Goals as goal

pub loop-c-init : goal.loop-c-init
unfolding table
loop-c-init c = (omega arith, sym (splice-nil _ _), refl)

pub loop-c-preserved : goal.loop-c-preserved
loop-c-preserved c =
    let s = c.args in
    let l = c.loop-c in
    let f : ℕ → ℕ = λ i. carried (get_or s.out.now (s.out_at + i) 0) (term (get_or s.randomness.now (s.row_at + i) 0) s.value) in
    let n = length-table l.c f in
    let read : get_or l.out (s.out_at + l.c) 0 ≡ get_or s.out.now (s.out_at + l.c) 0 =
    ap (λ w. get_or w (s.out_at + l.c) 0) l.invariant.1 ∙ get_or-splice-after s.out.now s.out_at (table l.c f) (s.out_at + l.c) 0 (omega arith) in (
      omega arith,
      ap (λ w. set w (s.out_at + l.c) c.carry_add.result) l.invariant.1
          ∙ splice-table-next s.out.now s.out_at l.c f c.carry_add.result
          (c.carry_add.ensures ∙ ap₂ carried read c.term-entry.ensures),
      simp length-set l.invariant.2,
    )

pub returns : goal.returns
returns c =
    let s = c.args in
    let l = c.loop-c in
    let n : l.c ≡ s.width = omega arith in
    l.invariant.1 ∙ ap (λ k. splice s.out.now s.out_at (table k (λ i. carried (get_or s.out.now (s.out_at + i) 0) (term (get_or s.randomness.now (s.row_at + i) 0) s.value)))) n
