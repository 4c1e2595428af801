-- `output_length` meets its contract.
use mathlib.Core.Path.{◌≡◌, sym, ap, ◌∙◌}
use Prim.Native.Nat.{◌+◌, ◌-◌}
use native.Mathlib.Omega.{arith}
use lib.ListN.{take, drop}
use Rattle.spec_protocol.specs.Layout.{span}
use Rattle.layout_sections.specs.Sections.{listed}
use Rattle.layout_sections.proofs.Spans.{part-listed, span-within}
use Rattle.layout_sizes.proofs.Tables.{table-spans}
use Rattle.layout_sizes.proofs.buffers.output_length.Goals as goal

pub span-requires : goal.span-requires
span-requires c =
    let s = c.args in
    let all = c.transcript_sections-all in
    omega (arith, table-spans all.ensures, span-within all.result s.from (s.from + s.makes - s.from))

pub returns : goal.returns
returns c =
    let s = c.args in
    let all = c.transcript_sections-all in
    let as_many : s.from + s.makes - s.from ≡ s.makes = omega arith in
    c.span.ensures
    ∙ ap (λ n. span (listed (take n (drop s.from all.result)))) as_many
    ∙ ap span (sym (part-listed s.makes s.from all.result))
    ∙ ap (λ l. span (take s.makes (drop s.from l))) all.ensures.lists
