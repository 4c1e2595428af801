-- `section_from` meets its contract: the reader is at the position of the words, and what is read there stands within them.
use mathlib.Core.Path.{◌≡◌, sym, subst}
use lib.ListN.{length}
use Rattle.layout_section_reader.specs.Read.{read_at, Inside}
use Rattle.layout_section_reader.proofs.Reading.{read_inside}
use Rattle.layout_section_reader.proofs.section_from.Goals as goal

pub returns : goal.returns
returns c =
    let e : c.section.result ≡ read_at c.args.words.now c.args.position = cc in
    (e, subst (Inside c.args.position (length c.args.words.now)) (sym e) (read_inside c.args.words.now c.args.position))
