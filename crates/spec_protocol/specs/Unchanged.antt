-- The frame condition: a buffer whose words from a place on are unchanged (document 01: "Words beyond never change.").
use Rattle.std.specs.Prelude.{◌≡◌, List, ℕ, length, drop}

-- its length and the words from a place to the end are as they were
pub record Unchanged (place : ℕ) (entry exit : List ℕ) : Type 0 where
  pub size : length exit ≡ length entry
  pub beyond : drop place exit ≡ drop place entry
