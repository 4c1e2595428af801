-- A walk over the sections of a table: what is left from section m on.
use mathlib.Core.Path.{◌≡◌, refl, sym, ap, ◌∙◌}
use mathlib.Core.List.{List, [], ◌∷◌, map}
use Prim.Native.Nat.{ℕ, ◌+◌, ◌≤◌, ◌<◌}
use native.Mathlib.Decide.{dec_le}
use native.Mathlib.Numerals.{add-one}
use native.Mathlib.Omega.{arith}
use borrow.Author.Tests.{lt-ltb, le-ltb, eq-eqb, ne_eqb}
use lib.ListN.{length, get_or, drop, drop_of_length-le}
use lib.Seq.{drop-cons}
use Rattle.std.proofs.lemmas.List.{drop-map}
use Rattle.spec_leaves.specs.Answer.{fine, refused, ◌then◌}
use Rattle.spec_protocol.specs.Checks.{require}
use Rattle.spec_protocol.specs.Layout.{span, counted, layout}
use Rattle.spec_protocol.specs.Layout as L
use Rattle.spec_protocol.proofs.Fine.{require-holds, require_fails}
use Rattle.layout_sections.specs.declared.sections.Section.{Section}
use Rattle.layout_sections.specs.Sections.{section_of, listed}
use Rattle.layout_sections.proofs.Spans.{item, length-listed}
use Rattle.layout_sections.proofs.Then.{stops, goes_on}

-- from section m on: that section, then those from m + 1 on
pub listed-from : (ss : List Section) (m : ℕ) → m < length ss → drop m (listed ss) ≡ section_of (item ss m) ∷ drop (m + 1) (listed ss)
unfolding listed
listed-from ss m h =
    drop-map section_of m ss
    ∙ ap (map section_of) (drop-cons ss m (record { count = 0; greatest = 0 }) h ∙ ap (λ n. item ss m ∷ drop n ss) (sym (add-one m)))
    ∙ ap (λ l. section_of (item ss m) ∷ l) (sym (drop-map section_of (m + 1) ss))

-- after the last section there is none
pub listed_past : (ss : List Section) (m : ℕ) → length ss ≤ m → drop m (listed ss) ≡ []
listed_past ss m h = drop_of_length-le (listed ss) {i = m} (rw length-listed h)

module _ (number : ℕ) (words : List ℕ) (at : ℕ) (s : L.Section) (ss : List L.Section) where
  -- no count stands at the slice's end
  pub counted_past : length words ≤ at → counted number words at (s ∷ ss) ≡ refused number (length words)
  unfolding counted
  counted_past h = rw (le-ltb at (length words) h)

  -- another count
  pub counted_wrong : at < length words → (get_or words at 0 ≡ s.count → ⊥) → counted number words at (s ∷ ss) ≡ refused number at
  unfolding counted
  counted_wrong h n = rw (lt-ltb at (length words) h, ne_eqb (get_or words at 0) s.count n)

  module _ (h : at < length words) (e : get_or words at 0 ≡ s.count) where
    -- too few words follow the count
    pub counted-short : length words < at + 1 + s.count → counted number words at (s ∷ ss) ≡ refused number (length words)
    unfolding counted
    counted-short l =
        rw (lt-ltb at (length words) h, eq-eqb (get_or words at 0) s.count e)
        (ap (λ a. a then counted number words (at + 1 + s.count) ss)
        (require_fails (dec_le (at + 1 + s.count) (length words)) (refused number (length words)) (λ g. omega arith)))

    -- a section that is there
    pub counted_next : at + 1 + s.count ≤ length words → counted number words at (s ∷ ss) ≡ counted number words (at + 1 + s.count) ss
    unfolding counted
    counted_next l =
        rw (lt-ltb at (length words) h, eq-eqb (get_or words at 0) s.count e)
        (ap (λ a. a then counted number words (at + 1 + s.count) ss)
        (require-holds (dec_le (at + 1 + s.count) (length words)) (refused number (length words)) l))

-- the sections before section m are there, and the next starts at a place
pub record Reached (words : List ℕ) (place : ℕ) (ss : List L.Section) (at m : ℕ) : Type 0 where
  pub same : (number : ℕ) → counted number words place ss ≡ counted number words at (drop m ss)
  pub end : place + span ss ≡ at + span (drop m ss)
  pub inside : at ≤ length words

-- nothing is reached yet
pub reached_none : (words : List ℕ) (place : ℕ) (ss : List L.Section) → place ≤ length words → Reached words place ss place 0
reached_none words place ss h = record { same = λ number. refl; end = refl; inside = h }

module _ (words : List ℕ) (place : ℕ) (ss : List Section) (at m : ℕ) (c : Reached words place (listed ss) at m) (h : m < length ss) where
  abbrev expected : ℕ
  expected = (item ss m).count

  -- the answer is that from section m on
  at_section : (number : ℕ) → counted number words place (listed ss) ≡ counted number words at (section_of (item ss m) ∷ drop (m + 1) (listed ss))
  at_section number = c.same number ∙ ap (counted number words at) (listed-from ss m h)

  pub reached_past : length words ≤ at → (number : ℕ) → refused number (length words) ≡ counted number words place (listed ss)
  reached_past l number = sym (at_section number ∙ counted_past number words at (section_of (item ss m)) (drop (m + 1) (listed ss)) l)

  pub reached_wrong : at < length words → (get_or words at 0 ≡ expected → ⊥) → (number : ℕ) → refused number at ≡ counted number words place (listed ss)
  reached_wrong l n number = sym (at_section number ∙ counted_wrong number words at (section_of (item ss m)) (drop (m + 1) (listed ss)) l n)

  pub reached_short : at < length words → get_or words at 0 ≡ expected → length words < at + 1 + expected → (number : ℕ) → refused number (length words) ≡ counted number words place (listed ss)
  reached_short l e g number = sym (at_section number ∙ counted-short number words at (section_of (item ss m)) (drop (m + 1) (listed ss)) l e g)

  pub reached_next : at < length words → get_or words at 0 ≡ expected → at + 1 + expected ≤ length words → Reached words place (listed ss) (at + (1 + expected)) (m + 1)
  unfolding span
  reached_next l e g = record {
    same = λ number.
        at_section number
        ∙ counted_next number words at (section_of (item ss m)) (drop (m + 1) (listed ss)) l e g
        ∙ ap (λ a. counted number words a (drop (m + 1) (listed ss))) (omega arith);
    end = c.end ∙ ap (λ l. at + span l) (listed-from ss m h) ∙ omega arith;
    inside = omega arith;
  }

module _ (words : List ℕ) (place : ℕ) (ss : List Section) (at m : ℕ) (c : Reached words place (listed ss) at m) (h : length ss ≤ m) where
  -- all sections are there
  pub reached_all : (number : ℕ) → fine ≡ counted number words place (listed ss)
  unfolding counted
  reached_all number = sym (c.same number ∙ ap (counted number words at) (listed_past ss m h))

  -- and end where the next would start
  pub reached_end : at ≡ place + span (listed ss)
  unfolding span
  reached_end = sym (c.end ∙ ap (λ l. at + span l) (listed_past ss m h) ∙ omega arith)

module _ (number : ℕ) (words : List ℕ) (place : ℕ) (ss : List L.Section) where
  -- wrong counts make a wrong layout
  pub layout_wrong : {p : ℕ} → refused number p ≡ counted number words place ss → refused number p ≡ layout number words place ss
  unfolding layout
  layout_wrong e = stops (require (dec_le (length words) (place + span ss)) (refused number (place + span ss))) e

  module _ (end : ℕ) (e : fine ≡ counted number words place ss) (f : end ≡ place + span ss) where
    -- surplus words
    pub layout_surplus : end < length words → refused number end ≡ layout number words place ss
    unfolding layout
    layout_surplus h =
        goes_on e
        (sym (require_fails (dec_le (length words) end) (refused number end) (λ g. omega arith))
        ∙ ap (λ n. require (dec_le (length words) n) (refused number n)) f)

    -- no surplus words
    pub layout-ends : length words ≤ end → fine ≡ layout number words place ss
    unfolding layout
    layout-ends h = goes_on e (sym (require-holds (dec_le (length words) (place + span ss)) (refused number (place + span ss)) (omega arith)))
