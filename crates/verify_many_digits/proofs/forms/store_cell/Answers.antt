-- `store_cell` meets its contract.
use mathlib.Core.Path.{ap, ◌∙◌}
use Prim.Native.Nat.{ℕ}
use native.Mathlib.Omega.{arith}
use lib.ListN.{replicate, length-replicate}
use Rattle.math.specs.lists.Table.{table}
use Rattle.math.specs.lists.Part.{splice}
use Rattle.spec_protocol.specs.Formulas.{flat}
use Rattle.spec_protocol.proofs.Flat.{length-flat-table}
use Rattle.commitments_outer.specs.Cells.{digits_of_element}
use Rattle.verify_many_digits.proofs.Values.{ntt_words_copied}
use Rattle.verify_many_digits.proofs.forms.store_cell.Goals as goal

pub returns : goal.returns
returns c =
    let s = c.args in
    let f = digits_of_element s.base s.from.now s.at in
    c.to_ntt_form.ensures.out_after
    ∙ ap (splice s.to.now s.place)
    (ntt_words_copied (replicate 2048 0) _ (flat (table s.parts f)) s.parts c.decompose_to.ensures (omega
    (arith, length-flat-table s.parts f))
    (omega (arith, length-flat-table s.parts f, length-replicate {A = ℕ} 2048 0, c.requires.2)))
