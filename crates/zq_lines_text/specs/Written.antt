-- What a call that writes bytes into a slice leaves.
use Rattle.std.specs.Prelude.{◌≡◌, List, ℕ, ◌+◌, length}
use Rattle.math.specs.lists.Part.{splice}

-- the bytes stand from the place `at` on, the rest of the slice is as it was, and `end` is the place after them
pub record Written (entry : List ℕ) (at : ℕ) (bytes exit : List ℕ) (end : ℕ) : Type 0 where
  pub contents : exit ≡ splice entry at bytes
  pub count : end ≡ at + length bytes
