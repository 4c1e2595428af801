-- `randomness_bounds` meets its contract.
use mathlib.Core.Path.{ap, ◌∙◌}
use native.Mathlib.Omega.{arith}
use Rattle.spec_protocol.specs.Layout.{span}
use Rattle.verify_many_admission.specs.Bounds.{bounded}
use Rattle.verify_many_admission.proofs.bounds.randomness_bounds.Goals as goal

pub span-len-requires : goal.span-len-requires
span-len-requires c = omega (arith, ap span c.randomness_sections.ensures.lists, c.randomness_sections.ensures.spans)

pub bounds_of-requires : goal.bounds_of-requires
bounds_of-requires c = (c.requires.0, c.requires.1, omega (arith, c.span-len.ensures, ap span c.randomness_sections.ensures.lists, c.randomness_sections.ensures.spans))

pub returns : goal.returns
returns c =
    let s = c.args in
    c.bounds_of.ensures ∙ ap (λ n. bounded s.handed n s.count s.m) (c.span-len.ensures ∙ ap span c.randomness_sections.ensures.lists)
