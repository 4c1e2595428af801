-- A row of digits, coefficient after coefficient, from the quotient and the rest of each size by the base.
use mathlib.Core.Path.{◌≡◌, ◌∙◌}
use mathlib.Core.Bool.{Bool, cond, xor}
use mathlib.Core.List.{List}
use Prim.Native.Nat.{ℕ, ◌+◌, ◌-◌, ◌*◌, ◌/◌, ◌%◌, ◌≤◌, ◌<◌, ◌^◌}
use native.Mathlib.Nat.{mod-lt, div-lt_iff_lt-mul, lt_of_not-le}
use native.Mathlib.Omega.{arith}
use lib.Dec.{ltb}
use lib.ListN.{set}
use lib.Pow.{pow_mono, shl_exact}
use Rattle.math.specs.lists.Table.{padded}
use Rattle.math.proofs.lists.Padded.{padded-next}
use Rattle.spec_leaves.specs.Zq.{is_larger_than_half}
use Rattle.spec_leaves.specs.Digits.{next_size, signed}
use Rattle.spec_leaves.specs.Rq.{coeff}
use Rattle.ring_rq_digits.specs.Digits.{digit_of}

-- the first j digits and the first j sizes that go on are the definition's, and the later ones zero
abbrev pub SoFar : ℕ → List ℕ → List ℕ → List ℕ → List ℕ → ℕ → Type 0
SoFar b a sizes row next j =
    (j ≤ 64) × (row ≡ padded 64 j 0 (λ i. digit_of b (coeff a i) (coeff sizes i))) × (next ≡ padded 64 j 0 (λ i. next_size b (coeff sizes i)))

-- a size s, with its quotient q and its rest r by the base b
module _ (b s q r : ℕ) (h : 1 < b) (e : (q ≡ s / b) × (r ≡ s % b)) where
  -- the rest is below the base
  pub rest_below : r < b
  rest_below = rw e.1 (mod-lt s {m = b} (omega arith))

  -- one more than the quotient fits a word
  pub quotient_fits : s < 2 ^ 32 → q < 4294967295
  quotient_fits w = rw e.0 ((div-lt_iff_lt-mul {k = b} {x = s} {y = 4294967295} (omega arith)).1 (omega arith))

-- one digit more, with the size that goes on after it
pub so_far_next : (a sizes row next : List ℕ) (b q r d n j : ℕ) (t : Bool) → SoFar b a sizes row next j → j < 64
    → (q ≡ coeff sizes j / b) × (r ≡ coeff sizes j % b)
    → t ≡ is_larger_than_half (coeff a j)
    → d ≡ signed (xor t (ltb (b / 2) r)) (cond (ltb (b / 2) r) (b - r) r)
    → n ≡ cond (ltb (b / 2) r) (q + 1) q
    → SoFar b a sizes (set row j d) (set next j n) (j + 1)
unfolding digit_of
so_far_next a sizes row next b q r d n j t s h e l x y = (
  omega arith,
  padded-next 64 0 _ _ j d s.1 h (x ∙ rw (e.1, l)),
  padded-next 64 0 _ _ j n s.2 h (y ∙ rw (e.0, e.1)),
)

-- a base that is 1 shifted by up to 32 places, at 64 bits, is that power of two
pub power_of_two : (b s : ℕ) → b < 2 ^ 32 → s ≤ 32 → (1 * 2 ^ s) % 2 ^ 64 ≡ b → (s < 32) × (b ≡ 2 ^ s)
power_of_two b s h m e =
    let whole : (1 * 2 ^ s) % 2 ^ 64 ≡ 1 * 2 ^ s = shl_exact {a = 1} 1 s 64 (omega arith) (omega arith) in
    (lt_of_not-le (λ g. let p : 2 ^ 32 ≤ 2 ^ s = pow_mono g in omega arith), omega arith)
