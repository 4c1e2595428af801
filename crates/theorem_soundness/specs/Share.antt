-- Shares: a fact that holds of exactly one, or of at most one, of the numbers below n.
use Rattle.std.specs.Prelude.{◌≡◌, ℕ, ◌<◌}

-- a fact holds of exactly one number below n
pub record ExactlyOne (n : ℕ) (holds : ℕ → Type 0) : Type 0 where
  pub the_one : ℕ
  pub below : the_one < n
  pub it_holds : holds the_one
  pub no_other : (j : ℕ) → j < n → holds j → j ≡ the_one

-- a fact holds of exactly one tuple of L numbers below n
pub record ExactlyOneTuple (L n : ℕ) (holds : (ℕ → ℕ) → Type 0) : Type 0 where
  pub the_one : ℕ → ℕ
  pub below : (k : ℕ) → k < L → the_one k < n
  pub it_holds : holds the_one
  pub no_other : (j : ℕ → ℕ) → ((k : ℕ) → k < L → j k < n) → holds j → (k : ℕ) → k < L → j k ≡ the_one k

-- a fact holds of at most one number below n
abbrev pub AtMostOne : ℕ → (ℕ → Type 0) → Type 0
AtMostOne n holds = (x y : ℕ) → x < n → y < n → holds x → holds y → x ≡ y
