-- `check_t_and_g` meets its contract.
use mathlib.Core.Path.{sym, ap, ap₂}
use mathlib.Core.Bool.{Bool, cond}
use borrow.Author.Tests.{not-true, not-false}
use Rattle.spec_leaves.specs.Answer.{Answer, fine, refused, ◌then◌}
use Rattle.verifier_commitments.proofs.outer_commitments.check_t_and_g.Goals as goal

-- 14 and 15 by two booleans
abbrev bounds : Bool → Bool → Answer
bounds t g = cond t fine (refused 14 0) then cond g fine (refused 15 0)

pub returns-then-not-digits : goal.returns-then-not-digits
returns-then-not-digits c =
    let d = c.args.digits in
    ap (λ t. bounds t d.g_within) (sym (not-true d.t_within c.if-not-digits.true))

pub returns-then-not-digits-2 : goal.returns-then-not-digits-2
returns-then-not-digits-2 c =
    let d = c.args.digits in
    ap₂ bounds (sym (not-false d.t_within c.if-not-digits.false)) (sym (not-true d.g_within c.if-not-digits-2.true))

pub returns : goal.returns
returns c =
    let d = c.args.digits in
    ap₂ bounds (sym (not-false d.t_within c.if-not-digits.false)) (sym (not-false d.g_within c.if-not-digits-2.false))
