-- `smallest` meets its contract: the greatest solution, where the least is further from 0.
use mathlib.Core.Path.{refl}
use native.Mathlib.Omega.{arith}
use Rattle.mistyped_solve.proofs.Class.{greatest-found}
use Rattle.mistyped_solve.proofs.congruence.smallest.Goals as goal

pub returns-else-least-step : goal.returns-else-least-step
returns-else-least-step c = greatest-found c.args.c c.requires (omega arith) _ refl c.if-least-step.false
