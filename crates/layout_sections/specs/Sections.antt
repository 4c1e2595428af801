-- What the tables of sections and the findings of this crate stand for.
use Rattle.std.specs.Prelude.{◌≡◌, cond, List, ℕ, ◌+◌, ◌≤◌, ◌<◌, eqb, get_or, map, Option, Some, None, Result, Ok, Err}
use Rattle.spec_leaves.specs.Answer.{Answer, fine, refused}
use Rattle.spec_protocol.specs.Layout.{Range, free, under}
use Rattle.spec_protocol.specs.Layout as L
use Rattle.layout_sections.specs.declared.sections.Section.{Section}
use Rattle.layout_sections.specs.declared.slices.SliceError.{SliceError}
use Rattle.layout_sections.specs.declared.slices.SliceError.TheVariants as E

-- words of at most the greatest; the greatest u32 bounds none
abbrev pub at_most : ℕ → Range
at_most greatest = cond (eqb greatest 4294967295) free (under (greatest + 1))

-- a section's words and their range
abbrev pub section_of : Section → L.Section
section_of s = record { count = s.count; range = at_most s.greatest }

-- the sections of a slice
unfoldable pub listed : List Section → List L.Section
listed ss = map section_of ss

-- a place that is found is refused
abbrev pub of_found : ℕ → Option ℕ → Answer
of_found number (Some p) = refused number p
of_found number None = fine

-- wrong counts are refused
abbrev pub of_counted : ℕ → Result ℕ ℕ → Answer
of_counted number (Ok end) = fine
of_counted number (Err p) = refused number p

-- a wrong layout is refused with the first number, a word out of range with the second
abbrev pub of_slice_error : ℕ → ℕ → SliceError → Answer
of_slice_error number word_number (E.Layout p) = refused number p
of_slice_error number word_number (E.Word p) = refused word_number p

-- what is found of a slice, by these numbers
abbrev pub of_examined : {T : Type 0} → ℕ → ℕ → Result T SliceError → Answer
of_examined number word_number (Ok value) = fine
of_examined number word_number (Err e) = of_slice_error number word_number e

-- from a place up to another, at most the end, all words are at most the greatest
pub record Passed (words : List ℕ) (from end greatest to : ℕ) : Type 0 where
  pub after : from ≤ to
  pub before : to ≤ end
  pub most : (i : ℕ) → from ≤ i → i < to → get_or words i 0 ≤ greatest
