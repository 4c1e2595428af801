-- `store_sum` meets its contract.
use mathlib.Core.Path.{sym, ap, ◌∙◌}
use borrow.Author.Rules.{rules}
use Rattle.verify_many_digits.specs.Rows.{sum_for}
use Rattle.verify_many_digits.proofs.rows.store_sum.Goals as goal

pub returns-then-pass : goal.returns-then-pass
returns-then-pass c =
    let s = c.args in
    (c.store.ensures ∙ ap (λ b. sum_for s.sum.coeffs b s.place s.scratch.now) (sym c.if-pass.true), search rules)

pub returns-else-pass : goal.returns-else-pass
returns-else-pass c =
    let s = c.args in
    (ap (λ b. sum_for s.sum.coeffs b s.place s.scratch.now) (sym c.if-pass.false), search rules)
