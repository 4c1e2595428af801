-- What holds of a slice whose layout and ranges are refused nothing.
use Rattle.std.specs.Prelude.{◌≡◌, List, ℕ, ◌+◌, ◌≤◌, ◌<◌, length, get_or}
use Rattle.spec_protocol.specs.Layout.{Range, free, under, Section, canonical, span, start}

-- section m of a list of sections
abbrev pub nth : List Section → ℕ → Section
nth ss m = get_or ss m (canonical 0)

-- a word is in a range
abbrev pub In : Range → ℕ → Type 0
In free w = Unit {0}
In (under limit) w = w < limit

-- the words from a place on are the sections, each after its count, and end with them; the words of each are in its range
pub record Laid (words : List ℕ) (place : ℕ) (ss : List Section) : Type 0 where
  pub whole : length words ≡ place + span ss
  pub inside : (m : ℕ) → m < length ss → place + start ss m + (nth ss m).count ≤ length words
  pub ranges : (m k : ℕ) → m < length ss → k < (nth ss m).count → In (nth ss m).range (get_or words (place + start ss m + k) 0)
