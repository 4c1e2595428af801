-- The rest after digit 0 against the second digit (document 02, Item 9).
use mathlib.Core.Path.{◌≡◌, ap}
use mathlib.Core.Bool.{Bool, true, false, cond, xor}
use Prim.Native.Nat.{ℕ, ◌+◌, ◌-◌, ◌*◌, ◌/◌, ◌%◌, ◌≤◌, ◌<◌}
use native.Mathlib.Nat.{div-add-mod', mul-le-mul}
use native.Mathlib.Omega.{arith}
use Rattle.spec_leaves.specs.Zq.{top_Q, Canonical, is_larger_than_half, size}
use Rattle.spec_leaves.specs.Norm.{square}
use Rattle.spec_leaves.specs.Digits.{rem_below, next_size, size_after, signed, digit, leftover, rest}
use Rattle.spec_leaves.proofs.Centre.{size-le, size-signed}
use Rattle.spec_leaves.proofs.Digits.{rem_size_self, size_after_self, size-digit}

-- the rest's size is what goes on after digit 0
pub size-rest : (b a : ℕ) → Canonical a → size (rest b a) ≡ size_after b 1 (size a)
unfolding rest
size-rest b a h = size-signed (is_larger_than_half a) (size_after b 1 (size a)) (omega (arith, size_after_self b 1 (size a), size-le a h))

-- a size from which nothing goes on is its own remainder
whole_rem : (b s : ℕ) (t : Bool) → cond t (s / b + 1) (s / b) ≡ 0 → (below : Bool) → signed below s ≡ signed (xor below t) (cond t (b - s % b) (s % b))
unfolding xor
whole_rem b s true e below = absurd (omega arith)
whole_rem b s false e true = let r : s ≡ s % b = omega (arith, div-add-mod' s b, ap (λ q. q * b) e) in ap (signed true) r
whole_rem b s false e false = omega (arith, div-add-mod' s b, ap (λ q. q * b) e)

-- where nothing is left after two digits the rest is the second digit
pub rest-is_digit : (b a : ℕ) → leftover b 2 a ≡ 0 → rest b a ≡ digit b a 1
unfolding rest digit leftover size_after
rest-is_digit b a e = whole_rem b (next_size b (size a)) (rem_below b (next_size b (size a))) e (is_larger_than_half a)

-- the second digit's square is never larger than the rest's
pub digit-within-rest : (b a : ℕ) → 0 < b → b ≤ top_Q → Canonical a → square (digit b a 1) ≤ square (rest b a)
digit-within-rest b a p l h =
    let le : size (digit b a 1) ≤ size (rest b a) = omega (arith, size-digit b a 1 p l, size-rest b a h, rem_size_self b (size_after b 1 (size a))) in
    mul-le-mul le le
