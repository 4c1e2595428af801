-- The order of numbers, and of numbers of two words.
use Rattle.std.proofs.Common.{◌≡◌, ℕ, ◌+◌, ◌*◌, ◌<◌, ◌≤◌, leb, sym, ◌∙◌, mul-le-mul_right, arith, le-leb}
use native.Mathlib.Decide.{dec_le}
use borrow.Author.Tests.{lt-leb}

-- tests of orders that hold together are the same
pub leb-same : (a b c d : ℕ) → (a ≤ b → c ≤ d) → (c ≤ d → a ≤ b) → leb a b ≡ leb c d
leb-same a b c d f g = go (dec_le a b)
  where
    go : Dec (a ≤ b) → leb a b ≡ leb c d
    go (yes h) = le-leb a b h ∙ sym (le-leb c d (f h))
    go (no h) = lt-leb a b (omega arith) ∙ sym (lt-leb c d (above (λ l. h (g l))))
      where
        above : ¬ (c ≤ d) → d < c
        above k = omega arith

-- the upper part decides
pub upper_less : (w a b c d : ℕ) → b < w → a < c → a * w + b < c * w + d
upper_less w a b c d l h = omega (arith, mul-le-mul_right w h)
