-- `behind_at` meets its contract: each arm is a case of `behind_of`.
use mathlib.Core.Path.{sym, ap, subst, ◌∙◌}
use native.Mathlib.Omega.{arith}
use Rattle.layout_section_reader.specs.Read.{behind_of, Inside}
use Rattle.layout_section_reader.proofs.Reading.{read_inside}
use Rattle.layout_section_reader.proofs.behind_at.Goals as goal

pub overflow_add-result : goal.overflow_add-result
overflow_add-result c =
    let k = c.section_at in
    let e = sym k.ensures ∙ c.in-Section.is in
    let h = subst (Inside _ _) e (read_inside _ _) in
    omega (arith, h.0, h.1)

pub returns-in-Section : goal.returns-in-Section
returns-in-Section c = ap (behind_of _) (sym c.in-Section.is ∙ c.section_at.ensures)

pub returns-in-Short : goal.returns-in-Short
returns-in-Short c = ap (behind_of _) (sym c.in-Short.is ∙ c.section_at.ensures)

pub returns-in-End : goal.returns-in-End
returns-in-End c = ap (behind_of _) (sym c.in-End.is ∙ c.section_at.ensures)
