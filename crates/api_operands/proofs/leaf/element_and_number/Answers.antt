-- `element_and_number` meets its contract.
use Rattle.std.proofs.Common.{◌≡◌, ◌∙◌, length, rules}
use Rattle.std.proofs.lemmas.Result.{err_from_is_err_and}
use Rattle.api_operands.proofs.Scans.{after-element, refused_first, passed_first}
use Rattle.api_operands.proofs.leaf.element_and_number.Goals as goal

pub returns-in_err-words_from : goal.returns-in_err-words_from
returns-in_err-words_from c =
    let n : length c.args.a.coeffs ≡ 64 = search rules in
    let p = err_from_is_err_and c.from_residual.result c.from_residual.ensures.1 in
    rw (p.1, p.2) (refused_first _ _ c.in_err-words_from.was c.words_from.ensures ∙ after-element _ _ n)

pub returns : goal.returns
returns c =
    let n : length c.args.a.coeffs ≡ 64 = search rules in
    c.words_from-2.ensures ∙ passed_first _ _ c.in_ok-words_from.was c.words_from.ensures ∙ after-element _ _ n
