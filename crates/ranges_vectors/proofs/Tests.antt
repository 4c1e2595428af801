-- Tests of numbers and pairs as booleans.
use mathlib.Core.Path.{◌≡◌, sym, ap, ap₂, ◌∙◌}
use mathlib.Core.Bool.{cond, ◌||◌}
use Prim.Native.Nat.{ℕ, ◌≤◌, ◌<◌}
use native.Mathlib.Decide.{dec_le}
use native.Mathlib.Omega.{arith}
use borrow.Author.Tests.{lt-ltb, le-ltb}
use lib.IntN.{ℤ, nat_abs}
use Rattle.std.specs.Prelude.{Some, None}
use Rattle.spec_leaves.specs.Zq.{half_Q}
use Rattle.spec_leaves.specs.Answer.{Answer, fine, refused, ◌then◌}
use Rattle.spec_protocol.specs.Checks.{require, first}
use Rattle.spec_protocol.specs.Ranges.{size_refusal}
use Rattle.spec_protocol.proofs.First.{first_found}
use Rattle.ranges_vectors.specs.Pairs.{is_beyond, found}

-- the test of a pair
pub pair-beyond : (j : ℕ) (low high : ℤ) → size_refusal j low then size_refusal j high ≡ cond (is_beyond low || is_beyond high) (refused 37 j) fine
pair-beyond j low high = go (dec_le (nat_abs low) half_Q) (dec_le (nat_abs high) half_Q)
  where
    go : (d : Dec (nat_abs low ≤ half_Q)) (e : Dec (nat_abs high ≤ half_Q))
        → require d (refused 37 j) then require e (refused 37 j) ≡ cond (is_beyond low || is_beyond high) (refused 37 j) fine
    go (yes a) (yes b) = sym (ap₂ (λ x y. cond (x || y) (refused 37 j) fine) (le-ltb half_Q (nat_abs low) a) (le-ltb half_Q (nat_abs high) b))
    go (yes a) (no b) = sym (ap₂ (λ x y. cond (x || y) (refused 37 j) fine) (le-ltb half_Q (nat_abs low) a) (lt-ltb half_Q (nat_abs high) (omega arith)))
    go (no a) e = sym (ap (λ x. cond (x || is_beyond high) (refused 37 j) fine) (lt-ltb half_Q (nat_abs low) (omega arith)))

-- the pair that stops a scan
pub found_at : (number j count : ℕ) (f : ℕ → Answer) → j < count → first j f ≡ fine → f j ≡ refused number j → found number (Some j) ≡ first count f
found_at number j count f h e g = first_found count j f h e (sym g)

-- a scan that nothing stops
pub found_none : (number j count : ℕ) (f : ℕ → Answer) → j ≡ count → first j f ≡ fine → found number None ≡ first count f
found_none number j count f n e = sym (ap (λ k. first k f) (sym n) ∙ e)
