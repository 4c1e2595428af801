-- `counts::first_wrong` meets its contract.
use native.Mathlib.Omega.{arith}
use Rattle.layout_sections.proofs.Walk.{layout_wrong, layout_surplus, layout-ends}
use Rattle.layout_sections.proofs.counts.first_wrong.Goals as goal

pub returns-in-Err : goal.returns-in-Err
returns-in-Err c = λ number. layout_wrong number _ _ _ (c.in-Err.ensures.by_index number)

pub returns-then-end-words : goal.returns-then-end-words
returns-then-end-words c =
    let found = c.in-Ok.ensures in
    λ number. layout_surplus number _ _ _ _ (found.by_index number) found.ends_at (omega arith)

pub returns-else-end-words : goal.returns-else-end-words
returns-else-end-words c =
    let found = c.in-Ok.ensures in
    λ number. layout-ends number _ _ _ _ (found.by_index number) found.ends_at (omega arith)
