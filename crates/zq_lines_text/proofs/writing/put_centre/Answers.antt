-- `put_centre` meets its contract.
use Rattle.std.proofs.Common.{◌≡◌, ◌∙◌, ap, length, rules, arith}
use mir.Syntax.{w64}
use mir.ValLaws.{to_z-of_z}
use Rattle.std.specs.Fmt.{signed_decimal}
use Rattle.spec_leaves.specs.Zq.{centre}
use Rattle.zq_lines_text.specs.Text.{signed}
use Rattle.zq_lines_text.proofs.Decimal.{signed-centre, signed-small, length-signed, length-decimal}
use Rattle.zq_lines_text.proofs.writing.put_centre.Goals.{After-as_bytes}
use Rattle.zq_lines_text.proofs.writing.put_centre.Goals as goal

-- what is formatted is the centre
formatted : (c : After-as_bytes) → c.as_bytes.result.now ≡ signed (centre c.args.a.0)
formatted c =
    c.as_bytes.ensures.value
    ∙ c.format.ensures.text
    ∙ ap signed_decimal (to_z-of_z w64 c.centered_mod.result (search rules) ∙ c.centered_mod.ensures)
    ∙ signed-centre c.args.a.0 c.requires.canonical

pub put_bytes-requires : goal.put_bytes-requires
put_bytes-requires c = omega (arith, ap length (formatted c), length-signed (centre c.args.a.0), c.requires.at_in_bounds)

pub put_decimal-requires : goal.put_decimal-requires
put_decimal-requires c = omega (arith, length-decimal c.args.a.0, c.requires.at_in_bounds)

pub returns-then-a-gt-HALF : goal.returns-then-a-gt-HALF
returns-then-a-gt-HALF c = rw (← formatted (goal.at.returns-then-a-gt-HALF c).After-as_bytes) c.put_bytes.ensures

pub returns-else-a-gt-HALF : goal.returns-else-a-gt-HALF
returns-else-a-gt-HALF c = rw (signed-small c.args.a.0 (omega arith)) c.put_decimal.ensures
