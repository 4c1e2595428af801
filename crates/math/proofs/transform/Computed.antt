-- A rule at each number below n, by one test that is computed.
use mathlib.Core.Path.{◌≡◌, subst}
use mathlib.Core.Bool.{Bool, true, false}
use Prim.Native.Nat.{ℕ, zero, suc, ◌<◌}
use native.Mathlib.Nat as Nat
use native.Mathlib.Decide.{dec_lt}
use native.Mathlib.Omega.{arith}
use lib.Dec.{T, eqb, eqb→eq}

-- both tests pass
abbrev pub both : Bool → Bool → Bool
both true b = b
both false b = false

pub both_left : (a b : Bool) → T (both a b) → T a
both_left true b t = tt
both_left false b t = t

pub both_right : (a b : Bool) → T (both a b) → T b
both_right true b t = t
both_right false b t = absurd t

-- a test that passes at each number below n
abbrev pub below : ℕ → (ℕ → Bool) → Bool
below zero f = true
below (suc n) f = both (f n) (below n f)

pub below_at : (n : ℕ) (f : ℕ → Bool) → T (below n f) → (k : ℕ) → k < n → T (f k)
below_at zero f t k h = absurd (Nat.not-suc-le-zero h)
below_at (suc n) f t k h = go (dec_lt k n) (λ l. below_at n f (both_right (f n) (below n f) t) k l)
  where
    last : (k < n → ⊥) → n ≡ k
    last no_less = omega arith

    go : Dec (k < n) → (k < n → T (f k)) → T (f k)
    go (yes l) lower = lower l
    go (no l) lower = subst (λ m. T (f m)) (last l) (both_left (f n) (below n f) t)

-- two functions that agree at each number below n, by computation
pub agree : (n : ℕ) (f g : ℕ → ℕ) → T (below n (λ k. eqb (f k) (g k))) → (k : ℕ) → k < n → f k ≡ g k
agree n f g t k h = eqb→eq (f k) (g k) (below_at n (λ k. eqb (f k) (g k)) t k h)
