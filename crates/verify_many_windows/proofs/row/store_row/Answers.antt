-- `store_row` meets its contract: the row is one of A, of B, of C or of D.
use mathlib.Core.Path.{ap, ◌∙◌}
use native.Mathlib.Omega.{arith}
use Rattle.math.specs.lists.Part.{splice}
use Rattle.spec_leaves.specs.Ring.{words}
use Rattle.verifier_common.proofs.Sent.{reckoned}
use Rattle.verify_many_windows.proofs.Products.{a-row, b-row, c-row, d_row}
use Rattle.verify_many_windows.proofs.row.store_row.Goals as goal

pub overflow_add-c : goal.overflow_add-c
overflow_add-c c =
    let w = (reckoned c.requires.posed.0).within in
    omega (arith, w.κ.1, w.κ₁.1)

pub overflow_add-d : goal.overflow_add-d
overflow_add-d c =
    let w = (reckoned c.requires.posed.0).within in
    omega (arith, w.κ.1, w.κ₁.1)

pub returns-then-row-b : goal.returns-then-row-b
returns-then-row-b c =
    c.store_of_a.ensures ∙ ap (λ x. splice c.args.scratch.now c.args.place (words x)) (a-row _ _ _ c.requires.posed.0 c.args.row (omega arith))

pub returns-then-row-c : goal.returns-then-row-c
returns-then-row-c c =
    c.store_of_b.ensures ∙ ap (λ x. splice c.args.scratch.now c.args.place (words x)) (b-row _ _ _ c.requires.posed.0 c.args.row (omega arith) (omega arith))

pub returns-then-row-d : goal.returns-then-row-d
returns-then-row-d c =
    c.store_of_c.ensures ∙ ap (λ x. splice c.args.scratch.now c.args.place (words x)) (c-row _ _ _ c.requires.posed.0 c.args.row (omega arith) (omega arith))

pub returns-else-row-d : goal.returns-else-row-d
returns-else-row-d c =
    c.store_of_d.ensures ∙ ap (λ x. splice c.args.scratch.now c.args.place (words x)) (d_row _ _ _ c.requires.posed.0 c.args.row (omega arith))

pub store_of_b-requires : goal.store_of_b-requires
store_of_b-requires c = record { posed = (c.requires.posed.0, omega arith, c.requires.posed.2); all_held = c.requires.all_held }

pub store_of_c-requires : goal.store_of_c-requires
store_of_c-requires c = record { posed = (c.requires.posed.0, omega arith, c.requires.posed.2); all_held = c.requires.all_held }

pub store_of_d-requires : goal.store_of_d-requires
store_of_d-requires c = record { posed = (c.requires.posed.0, omega arith, c.requires.posed.2); all_held = c.requires.all_held }
