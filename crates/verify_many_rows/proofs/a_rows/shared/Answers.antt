-- `shared` meets its contract.
use mathlib.Core.Path.{sym, ap, ◌∙◌}
use mathlib.Core.Bool.{false, cond}
use native.Mathlib.Omega.{arith}
use borrow.Author.Tests.{lt-ltb, le-ltb}
use lib.Dec.{ltb, leb}
use Rattle.verify_many_rows.proofs.a_rows.shared.Goals as goal

pub returns-then-count-lt2 : goal.returns-then-count-lt2
returns-then-count-lt2 c =
    let s = c.args in
    sym (ap (λ t. cond t false (cond (ltb s.params.kappa 2) false (leb 5 s.params.rank))) (lt-ltb s.count 2 (omega arith)))

pub returns-then-params-lt2 : goal.returns-then-params-lt2
returns-then-params-lt2 c =
    let s = c.args in
    sym (ap (λ t. cond t false (cond (ltb s.params.kappa 2) false (leb 5 s.params.rank))) (le-ltb s.count 2 (omega arith))
    ∙ ap (λ t. cond t false (leb 5 s.params.rank)) (lt-ltb s.params.kappa 2 (omega arith)))

pub returns : goal.returns
returns c =
    let s = c.args in
    sym (ap (λ t. cond t false (cond (ltb s.params.kappa 2) false (leb 5 s.params.rank))) (le-ltb s.count 2 (omega arith))
    ∙ ap (λ t. cond t false (leb 5 s.params.rank)) (le-ltb s.params.kappa 2 (omega arith)))
