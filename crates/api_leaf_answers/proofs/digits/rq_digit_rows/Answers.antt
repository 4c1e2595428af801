-- `rq_digit_rows` meets its contract where the operands are refused.
use Rattle.std.proofs.Common.{◌∙◌, ap, replicate}
use Rattle.spec_leaves.specs.Answer.{result_of}
use Rattle.spec_leaves.specs.Rq.{rzero, digit_rows}
use Rattle.api_leaf_answers.proofs.Result.{dropped}
use Rattle.api_leaf_answers.proofs.digits.rq_digit_rows.Goals as goal

pub returns-in-Err : goal.returns-in-Err
returns-in-Err c =
    let d = digit_rows c.args.base c.args.parts c.args.a.coeffs in
    let none = replicate 32 rzero in
    ap (replicate 32) c.zero.ensures ∙ dropped c.in-Err.field-0 d none ∙ ap (λ b. result_of b d none) c.in-Err.ensures
