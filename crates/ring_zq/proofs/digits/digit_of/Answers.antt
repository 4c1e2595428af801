-- `digit_of` meets its contract: −0 is 0, and of another size up to half the base Q less it is the negative.
use Rattle.std.proofs.Common.{◌≡◌, ℕ, ◌-◌, ◌/◌, ◌<◌, Bool, true, false, not, cond, ltb, sym, refl, ap, ◌∙◌, ap₂, arith}
use mathlib.Core.Bool.{xor, beq}
use Rattle.spec_leaves.specs.Zq.{Q, zneg}
use Rattle.spec_leaves.specs.Digits.{signed}
use Rattle.ring_zq.proofs.digits.digit_of.Goals as goal

-- −0 is 0
of_zero : (t : Bool) (n : ℕ) → n ≡ 0 → 0 ≡ signed t n
of_zero t n e = zero t ∙ sym (ap (signed t) e)
  where
    zero : (t : Bool) → 0 ≡ signed t 0
    zero true = refl
    zero false = refl

-- the negative of another canonical value
negative : (n : ℕ) → 0 < n → n < Q → Q - n ≡ zneg n
negative n p h = omega arith

pub returns-then-size-eq0 : goal.returns-then-size-eq0
returns-then-size-eq0 c =
    let s = c.args in
    of_zero (xor s.negative (ltb (s.base / 2) s.rem)) _ (sym c.rem_size-size.ensures.0 ∙ c.if-size-eq0.true)

-- two flags differ where one of them holds, and not both
differ_xor : (a b : Bool) → not (beq a b) ≡ xor a b
unfolding xor
differ_xor true true = refl
differ_xor true false = refl
differ_xor false true = refl
differ_xor false false = refl

pub returns-then-negative-below : goal.returns-then-negative-below
returns-then-negative-below c =
    let size = c.rem_size-size in
    negative size.result (omega arith) (omega arith) ∙ ap₂ signed (sym (sym (differ_xor _ _) ∙ c.if-negative-below.true)) size.ensures.0

pub returns-else-negative-below : goal.returns-else-negative-below
returns-else-negative-below c =
    let size = c.rem_size-size in
    let s = c.args in
    size.ensures.0 ∙ ap (λ t. signed t (cond (ltb (s.base / 2) s.rem) (s.base - s.rem) s.rem)) (sym (sym (differ_xor _ _) ∙ c.if-negative-below.false))
