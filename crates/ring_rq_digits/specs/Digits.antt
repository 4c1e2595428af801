-- A digit from the value, whose sign it takes, and the size that it is taken from.
use Rattle.std.specs.Bool.{xor}
use Rattle.std.specs.Prelude.{ℕ}
use Rattle.spec_leaves.specs.Zq.{is_larger_than_half}
use Rattle.spec_leaves.specs.Digits.{signed, rem_below, rem_size}

-- the digit of a size in base b, with the sign of the value a
unfoldable pub digit_of : ℕ → ℕ → ℕ → ℕ
digit_of b a s = signed (xor (is_larger_than_half a) (rem_below b s)) (rem_size b s)
