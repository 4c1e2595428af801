-- `lengths` meets its contract.
use mathlib.Core.Path.{ap, ◌∙◌}
use Prim.Native.Nat.{◌+◌}
use native.Mathlib.Omega.{arith}
use Rattle.spec_protocol.specs.Layout.{span}
use Rattle.layout_sizes.proofs.Tables.{table-spans}
use Rattle.load_needs.proofs.lengths.Goals as goal

pub span-requires : goal.span-requires
span-requires c = table-spans c.job_sections.ensures

pub span-requires-2 : goal.span-requires-2
span-requires-2 c = table-spans c.witness_sections.ensures

pub span-requires-3 : goal.span-requires-3
span-requires-3 c = table-spans c.randomness_sections.ensures

pub overflow_add-result : goal.overflow_add-result
overflow_add-result c = let t = c.job_sections.ensures in omega (arith, c.span.ensures ∙ ap span t.lists, t.spans)

pub returns : goal.returns
unfolding span
returns c = record {
  job = ap (λ n. 31 + n) (c.span.ensures ∙ ap span c.job_sections.ensures.lists);
  witness = c.span-2.ensures ∙ ap span c.witness_sections.ensures.lists;
  randomness = c.span-3.ensures ∙ ap span c.randomness_sections.ensures.lists;
}
