-- The entries found, in the words of the list.
use Rattle.std.specs.Prelude.{◌≡◌, List, ℕ, suc, ◌≤◌, length, Option, Some, None}
use Rattle.math.specs.lists.Part.{splice}
use Rattle.spec_protocol.specs.Parameters.{parameters}
use Rattle.spec_protocol.specs.Views.{public, message}
use Rattle.spec_protocol.specs.Mistyped.{Entry, Listed, entry_words}
use Rattle.mistyped_solve.specs.Insert.{entry, entries, insert}

-- how many entries there are after an index
abbrev pub entered_count : Option ℕ → ℕ → ℕ
entered_count (Some x) count = suc count
entered_count None count = count

-- the list after an index: its entry is put among the others where there is one
abbrev pub entered_list : Option ℕ → (index count : ℕ) → List ℕ → List ℕ
entered_list (Some x) index count list = splice list 0 (entry_words (insert (entry index x) (entries count list)))
entered_list None index count list = list

-- the entries of the first indexes stand at the list's start: which, how many, and where
pub record Entered (J R T : List ℕ) (below : ℕ) (list : List ℕ) (count : ℕ) (list' : List ℕ) : Type 0 where
  pub found : List Entry
  pub listed : Listed (public J R) (message (parameters J) T) below found
  pub size : length found ≡ count
  pub few : count ≤ below
  pub words : list' ≡ splice list 0 (entry_words found)
