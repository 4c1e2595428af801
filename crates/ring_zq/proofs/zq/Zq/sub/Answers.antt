-- `Zq::sub` meets its contract.
use Rattle.std.proofs.Common.{◌+◌, ◌%◌, ap, ◌∙◌, arith}
use Rattle.spec_leaves.specs.Zq.{Q}
use Rattle.ring_zq.proofs.Words.{lack-sub}
use Rattle.ring_zq.proofs.zq.Zq.sub.Goals as goal

pub returns : goal.returns
returns c =
    let s = c.args in
    c.add.ensures ∙ ap (λ x. (s.self.0 + x) % Q) c.lack.ensures ∙ lack-sub s.self.0 s.rhs.0 (omega arith)
