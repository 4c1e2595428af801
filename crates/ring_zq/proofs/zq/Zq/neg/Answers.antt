-- `Zq::neg` meets its contract.
use Rattle.std.proofs.Common.{◌%◌, ap, ◌∙◌, arith}
use Rattle.spec_leaves.specs.Zq.{Q}
use Rattle.ring_zq.proofs.Words.{lack-neg}
use Rattle.ring_zq.proofs.zq.Zq.neg.Goals as goal

pub returns : goal.returns
returns c = c.canonical.ensures ∙ ap (λ x. x % Q) c.lack.ensures ∙ lack-neg c.args.self.0 (omega arith)
