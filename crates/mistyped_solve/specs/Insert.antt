-- Entries of Item 8's list in its words, and an entry put in its place among others.
use Rattle.std.specs.Prelude.{cond, List, [], ◌∷◌, ℕ, ◌+◌, ◌*◌, get_or}
use Rattle.math.specs.lists.Table.{table}
use Rattle.spec_protocol.specs.Mistyped.{Entry, comes_before}
use Rattle.mistyped_solve.specs.declared.list.Entry as list

-- the one of two entries that comes first
abbrev pub first_of : Entry → Entry → Entry
first_of e f = cond (comes_before e f) e f

-- and the other
abbrev pub later_of : Entry → Entry → Entry
later_of e f = cond (comes_before e f) f e

-- an entry put among entries: of it and the first of them the one that comes first stands first, and the other goes on
unfoldable pub insert : Entry → List Entry → List Entry
insert e [] = e ∷ []
insert e (f ∷ fs) = first_of e f ∷ insert (later_of e f) fs

-- an entry of an index and a number
abbrev pub entry : (index number : ℕ) → Entry
entry index number = record { index = index; number = number }

-- the code's struct as an entry
abbrev pub entry_of : list.Entry → Entry
entry_of e = entry e.index e.number

-- entry j of a list's words
abbrev pub entry_at : List ℕ → ℕ → Entry
entry_at ws j = entry (get_or ws (2 * j) 0) (get_or ws (2 * j + 1) 0)

-- the first n entries of a list's words
abbrev pub entries : (n : ℕ) → List ℕ → List Entry
entries n ws = table n (entry_at ws)
