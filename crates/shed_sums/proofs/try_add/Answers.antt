-- `try_add` meets its contract.
use mathlib.Core.Path.{◌∙◌}
use Rattle.std.proofs.lemmas.Result.{err_from_is_err_and}
use Rattle.shed_sums.proofs.Order.{lengths, refused-output, made-output}
use Rattle.shed_sums.proofs.try_add.Goals as goal

pub put_sum-requires : goal.put_sum-requires
put_sum-requires c = lengths _ _ _ c.in_ok-check.ensures

pub returns-in_err-check : goal.returns-in_err-check
returns-in_err-check c =
    let s = c.args in
    let e = c.in_err-check.ensures in
    let f = c.from_residual in
    let p = err_from_is_err_and f.result f.ensures.1 in
    record { answer = rw (p.1, p.2) e; output_left = refused-output s.p.now s.other.now s.output.now _ e }

pub returns : goal.returns
returns c =
    let s = c.args in
    let e = c.in_ok-check.ensures in
    record { answer = e; output_left = c.put_sum.ensures ∙ made-output s.p.now s.other.now s.output.now e }
