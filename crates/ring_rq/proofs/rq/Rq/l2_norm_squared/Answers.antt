-- `Rq::l2_norm_squared` meets its contract.
use Rattle.std.proofs.Common.{◌≡◌, length, ap, ◌∙◌, rules, arith}
use lib.Seq.{take_all}
use Rattle.spec_leaves.specs.Norm.{norm}
use Rattle.ring_rq.proofs.rq.Rq.l2_norm_squared.Goals as goal

pub returns : goal.returns
returns c =
    let a = c.args.self.coeffs in
    let n : length a ≡ 64 = search rules in
    c.norm_of.ensures.0 ∙ ap norm (take_all 64 a (omega arith))
