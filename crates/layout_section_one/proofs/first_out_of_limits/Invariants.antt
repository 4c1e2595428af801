-- `first_out_of_limits` meets its contract. The invariant: the parameters before k are within their limits.
use mathlib.Core.Path.{◌≡◌}
use Rattle.spec_leaves.specs.Answer.{fine}
use Rattle.spec_protocol.specs.Checks.{first}
use Rattle.layout_section_one.specs.SectionOne.{limit_at}
use Rattle.layout_section_one.proofs.first_out_of_limits.Given as goal

abbrev pub invariant-loop-k : goal.invariant-loop-k
invariant-loop-k l = first l.k (limit_at l.least l.greatest l.job) ≡ fine
