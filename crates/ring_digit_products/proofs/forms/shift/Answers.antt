-- `shift` meets its contract: where Q is 2^32 − 1, the sum with its carry is below 2^32 once that is taken off.
use mathlib.Core.Path.{◌≡◌, ◌∙◌, ap}
use Prim.Native.Nat.{ℕ, ◌+◌, ◌*◌, ◌%◌, ◌/◌, ◌<◌}
use native.Mathlib.Omega.{arith}
use Rattle.spec_leaves.specs.Zq.{Q, lack_Q}
use Rattle.spec_leaves.proofs.Cases.{ltb_cases}
use Rattle.ring_digit_products.proofs.forms.shift.Goals as goal

-- the remainder by 2^32 − 1 of a number below twice that, without a choice
carried : (t : ℕ) → lack_Q ≡ 1 → t < 2 * Q → (t + (t + 1) / 4294967296) % 4294967296 ≡ t % Q
carried t e h =
    ltb_cases
    (λ _. (t + (t + 1) / 4294967296) % 4294967296 ≡ t % Q)
    t
    Q
    (λ below. let none : (t + 1) / 4294967296 ≡ 0 = omega arith in ap (λ v. (t + v) % 4294967296) none ∙ omega arith)
    (λ above.
    let one : (t + 1) / 4294967296 ≡ 1 = omega arith in
    let whole : t / Q ≡ 1 = omega arith in ap (λ v. (t + v) % 4294967296) one ∙ omega (arith, one, whole))

pub returns-then-this-eq-LACK : goal.returns-then-this-eq-LACK
returns-then-this-eq-LACK c = let p = c.requires in carried (c.args.x + c.args.half) c.if-this-eq-LACK.true (omega arith)
