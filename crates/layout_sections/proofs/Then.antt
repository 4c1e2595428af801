-- Answers one after the other, as the code finds them.
use mathlib.Core.Path.{◌≡◌, ap, ◌∙◌}
use Prim.Native.Nat.{ℕ}
use Rattle.spec_leaves.specs.Answer.{Answer, fine, refused, ◌then◌}

-- a refusal is the answer, whatever follows
pub stops : {number place : ℕ} {a : Answer} (b : Answer) → refused number place ≡ a → refused number place ≡ a then b
stops b e = ap (λ x. x then b) e

-- after a fine answer the next one is the answer
pub goes_on : {a b z : Answer} → fine ≡ a → z ≡ b → z ≡ a then b
goes_on {b = b} e f = f ∙ ap (λ x. x then b) e
