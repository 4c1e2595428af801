-- A turn keeps the state bounded.
use Rattle.std.proofs.Common.{subst, sym}
use Rattle.zq_lines_text.specs.Reading.{Bounded}
use Rattle.zq_lines_text.proofs.Small.{bounded-after}
use Rattle.zq_lines.proofs.answer_lines.Goals as goal

pub loop-preserved : goal.loop-preserved
loop-preserved g c = let turn = rw c.in-Some.is at c.in_ok-next.ensures in subst Bounded (sym turn.1) (bounded-after _ _ c.loop.invariant)
