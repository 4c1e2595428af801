use Rattle.std.proofs.Common.{◌≡◌, ◌+◌, ◌*◌, get_or, ap, ◌∙◌, ap₂, arith}
use Rattle.core_jl_tables.specs.Tables.{biased_sum, terms_added, table_term}
use Rattle.core_jl_tables.proofs.Terms.{terms-next, terms-none}
use Rattle.core_jl_tables.proofs.tables.add_terms.Goals as goal

pub loop-t-preserved : goal.loop-t-preserved
loop-t-preserved c =
    let l = c.loop-t in
    let s = c.args in (
      omega arith,
      c.biased_add-sum.ensures
          ∙ ap₂ (λ x place. biased_sum x (get_or s.tables.now (1024 * l.t + place + s.k) 0)) l.invariant.1 c.wide_usize.ensures
          ∙ terms-next (table_term s.tables.now s.places.now s.w s.k) s.start l.t,
    )

pub returns : goal.returns
returns c =
    let l = c.loop-t in
    let s = c.args in
    let n : l.t ≡ 4 = omega arith in
    l.invariant.1 ∙ ap (terms_added (table_term s.tables.now s.places.now s.w s.k) s.start) n

pub loop-t-init : goal.loop-t-init
loop-t-init c = (omega arith, terms-none _ _)

pub overflow_add-place : goal.overflow_add-place
overflow_add-place c = omega (
  arith,
  c.wide_usize.ensures,
  c.requires.1.1
      (64 * c.loop-t.t + c.args.w) (omega arith),
)

pub overflow_add-place-in-loop-t : goal.overflow_add-place-in-loop-t
overflow_add-place-in-loop-t c = omega (
  arith,
  c.wide_usize.ensures,
  c.requires.1.1
      (64 * c.loop-t.t + c.args.w) (omega arith),
)

pub offset_bounds-tables-place : goal.offset_bounds-tables-place
offset_bounds-tables-place c = omega (
  arith,
  c.wide_usize.ensures,
  c.requires.1.1
      (64 * c.loop-t.t + c.args.w) (omega arith),
)

pub bounds-tables-place : goal.bounds-tables-place
bounds-tables-place c = omega (
  arith,
  c.wide_usize.ensures,
  c.requires.1.1
      (64 * c.loop-t.t + c.args.w) (omega arith),
)

pub biased_add-sum-requires : goal.biased_add-sum-requires
biased_add-sum-requires c = c.requires.4 _
    (omega (
      arith,
      c.wide_usize.ensures,
      c.requires.1.1
          (64 * c.loop-t.t + c.args.w) (omega arith),
    ))
