-- `line` meets its contract.
use mathlib.Core.Path.{ap, ◌∙◌}
use native.Mathlib.Omega.{arith}
use Rattle.math.specs.lists.Part.{splice}
use Rattle.spec_protocol.specs.Formulas.{flat}
use Rattle.ntt_vectors.proofs.Laws.{ntt_form-values}
use Rattle.core_garbage_ntt.proofs.LineLaws.{line_copied}
use Rattle.core_garbage_ntt.proofs.h.line.Goals as goal

pub row-requires : goal.row-requires
row-requires c =
    let s = c.args in (
      ntt_form-values _ 0 s.scratch.now s.phi_at s.n c.to_ntt_form.ensures.ntt_form,
      c.requires.0,
      omega arith,
      omega arith,
      (omega arith, omega arith),
    )

pub returns : goal.returns
returns c =
    let s = c.args in
    let copied = c.to_ntt_form.ensures.out_after in record {
      scratch_after = c.row.ensures
          ∙ ap (λ cells. splice s.scratch.now s.out_at (flat cells))
          (line_copied s.buffer.now _ s.scratch.now s.scratch.now s.phi_at s.n s.at s.count copied (omega arith));
      buffer_after = copied;
    }

pub to_ntt_form-requires : goal.to_ntt_form-requires
to_ntt_form-requires c = (omega arith, omega arith)
