-- A search through the words of a table's sections: what is left from a word on.
use mathlib.Core.Path.{◌≡◌, refl, sym, ap, subst, ◌∙◌}
use mathlib.Core.List.{List, ◌∷◌}
use Prim.Native.Nat.{ℕ, zero, suc, ◌+◌, ◌-◌, ◌≤◌, ◌<◌, ◌^◌}
use native.Mathlib.Nat.{le_refl, sub-eq-zero_of_le}
use native.Mathlib.Decide.{dec_lt, ℕ_discrete}
use native.Mathlib.Numerals.{add-one}
use native.Mathlib.Omega.{arith}
use borrow.Author.Tests.{lt-ltb, le-ltb, eq-eqb, ne_eqb}
use lib.ListN.{length, get_or, take, drop, length-take, length-drop}
use lib.Seq.{drop-cons, get_or-take, get_or-drop}
use Rattle.spec_leaves.specs.Answer.{fine, refused, below, ◌then◌}
use Rattle.spec_protocol.specs.Layout.{part, span, in_range, ranged}
use Rattle.spec_protocol.specs.Layout as L
use Rattle.spec_leaves.proofs.Leaf.{below-fine}
use Rattle.layout_sections.specs.declared.sections.Section.{Section}
use Rattle.layout_sections.specs.Sections.{at_most, listed, Passed}
use Rattle.layout_sections.proofs.Spans.{item}
use Rattle.layout_sections.proofs.Walk.{listed-from, listed_past}

-- each element is a u32
abbrev pub Words : List ℕ → Type 0
Words words = (i : ℕ) → i < length words → get_or words i 0 < 2 ^ 32

-- words of at most the greatest are those below the next number
at_most-below : (greatest number place : ℕ) (ws : List ℕ) → Words ws → in_range (at_most greatest) number place ws ≡ below (greatest + 1) number place ws
at_most-below greatest number place ws u = go (ℕ_discrete greatest 4294967295)
  where
    go : Dec (greatest ≡ 4294967295) → in_range (at_most greatest) number place ws ≡ below (greatest + 1) number place ws
    go (yes e) = rw (eq-eqb greatest 4294967295 e) (sym (below-fine (greatest + 1) number place ws (λ k h. omega (arith, u k h))))
    go (no n) = rw (ne_eqb greatest 4294967295 n)

-- the words of a part are words
part-words : (words : List ℕ) (from count : ℕ) → Words words → Words (part words from count)
part-words words from count u i h =
    let short = rw (length-take, length-drop) at h in
    subst (λ w. w < 2 ^ 32) (sym (get_or-take count (drop from words) i 0 (omega arith) ∙ get_or-drop from words i 0)) (u (from + i) (omega arith))

-- nothing is passed yet
pub passed_none : (words : List ℕ) (from end greatest : ℕ) → from ≤ end → Passed words from end greatest from
passed_none words from end greatest h = record { after = le_refl from; before = h; most = λ i g l. absurd (omega arith) }

-- n more words
pub passed_more : (words : List ℕ) (from end greatest at n : ℕ) → Passed words from end greatest at → at + n ≤ end
    → ((k : ℕ) → k < n → get_or words (at + k) 0 ≤ greatest) → Passed words from end greatest (at + n)
passed_more words from end greatest at n p h more = record { after = omega arith; before = h; most = most }
  where
    most : (i : ℕ) → from ≤ i → i < at + n → get_or words i 0 ≤ greatest
    most i g l = go (dec_lt i at)
      where
        go : Dec (i < at) → get_or words i 0 ≤ greatest
        go (yes b) = p.most i g b
        go (no b) = subst (λ j. get_or words j 0 ≤ greatest) (omega arith) (more (i - at) (omega arith))

module _ (words : List ℕ) (end : ℕ) (inside : end ≤ length words) where
  -- the words from a place to the end
  abbrev rest : ℕ → List ℕ
  rest at = part words at (end - at)

  -- one word, then the rest
  rest-next : (at : ℕ) → at < end → rest at ≡ get_or words at 0 ∷ rest (at + 1)
  rest-next at h =
      ap (λ n. take n (drop at words)) more
      ∙ ap (take (suc (end - (at + 1)))) (drop-cons words at 0 (omega arith) ∙ ap (λ n. get_or words at 0 ∷ drop n words) (sym (add-one at)))
    where
      more : end - at ≡ suc (end - (at + 1))
      more = omega arith

  module _ (greatest number : ℕ) where
    -- a word in range is passed over
    pub below_next : (at : ℕ) → at < end → get_or words at 0 ≤ greatest → below (greatest + 1) number at (rest at) ≡ below (greatest + 1) number (at + 1) (rest (at + 1))
    unfolding below
    below_next at h l = ap (below (greatest + 1) number at) (rest-next at h) ∙ rw (lt-ltb (get_or words at 0) (greatest + 1) (omega arith))

    -- a word out of range is refused at its place
    pub below-found : (at : ℕ) → at < end → greatest < get_or words at 0 → below (greatest + 1) number at (rest at) ≡ refused number at
    unfolding below
    below-found at h l = ap (below (greatest + 1) number at) (rest-next at h) ∙ rw (le-ltb (get_or words at 0) (greatest + 1) (omega arith))

    -- at the end no word is left
    pub below_none : (at : ℕ) → end ≤ at → below (greatest + 1) number at (rest at) ≡ fine
    unfolding below
    below_none at h = ap (λ n. below (greatest + 1) number at (take n (drop at words))) (sub-eq-zero_of_le h)

    -- words in range are passed over
    pub below_passed : (n from : ℕ) → from + n ≤ end → ((i : ℕ) → from ≤ i → i < from + n → get_or words i 0 ≤ greatest)
        → below (greatest + 1) number from (rest from) ≡ below (greatest + 1) number (from + n) (rest (from + n))
    below_passed zero from h most = ap (λ at. below (greatest + 1) number at (rest at)) (omega arith)
    below_passed (suc n) from h most =
        below_next from (omega arith) (most from (le_refl from) (omega arith))
        ∙ below_passed n (from + 1) (omega arith) (λ i g l. most i (omega arith) (omega arith))
        ∙ ap (λ at. below (greatest + 1) number at (rest at)) (omega arith)

-- the sections before section m are in range, and section m starts at a place
pub record Searched (words : List ℕ) (place : ℕ) (ss : List L.Section) (at m : ℕ) : Type 0 where
  pub same : (number : ℕ) → ranged number words place ss ≡ ranged number words at (drop m ss)
  pub end : place + span ss ≡ at + span (drop m ss)

-- the sections before section m and its words before a place are in range, and section m ends at an end
pub record InSection (words : List ℕ) (place : ℕ) (ss : List L.Section) (m greatest end at : ℕ) : Type 0 where
  pub same : (number : ℕ) → ranged number words place ss ≡ below (greatest + 1) number at (part words at (end - at)) then ranged number words end (drop (m + 1) ss)
  pub ends : place + span ss ≡ end + span (drop (m + 1) ss)
  pub before : at ≤ end

-- nothing is searched yet
pub searched_none : (words : List ℕ) (place : ℕ) (ss : List L.Section) → Searched words place ss place 0
searched_none words place ss = record { same = λ number. refl; end = refl }

module _ (words : List ℕ) (place : ℕ) (ss : List Section) (inside : place + span (listed ss) ≤ length words) where
  module _ (at m : ℕ) (c : Searched words place (listed ss) at m) where
    -- all sections are searched
    pub searched_all : length ss ≤ m → (number : ℕ) → fine ≡ ranged number words place (listed ss)
    unfolding ranged
    searched_all h number = sym (c.same number ∙ ap (ranged number words at) (listed_past ss m h))

    -- where section m ends
    pub section_ends : m < length ss → place + span (listed ss) ≡ at + 1 + (item ss m).count + span (drop (m + 1) (listed ss))
    unfolding span
    section_ends h = c.end ∙ ap (λ l. at + span l) (listed-from ss m h) ∙ omega arith

    -- the words passed over in section m
    pub section_passed : Words words → (h : m < length ss) (to : ℕ) → Passed words (at + 1) (at + 1 + (item ss m).count) (item ss m).greatest to
        → InSection words place (listed ss) m (item ss m).greatest (at + 1 + (item ss m).count) to
    unfolding ranged
    section_passed u h to p =
        let greatest = (item ss m).greatest in
        let count = (item ss m).count in
        let end = at + 1 + count in
        let size : count ≡ end - (at + 1) = omega arith in
        let past : at + 1 + (to - (at + 1)) ≡ to = omega arith in
        record {
          same = λ number.
              c.same number
              ∙ ap (ranged number words at) (listed-from ss m h)
              ∙ ap (λ a. a then ranged number words end (drop (m + 1) (listed ss)))
              (at_most-below greatest number (at + 1) (part words (at + 1) count) (part-words words (at + 1) count u)
              ∙ ap (λ n. below (greatest + 1) number (at + 1) (part words (at + 1) n)) size
              ∙ below_passed words end (omega (arith, section_ends h)) greatest number (to - (at + 1)) (at + 1) (omega arith) (λ i g l. p.most i g (omega arith))
              ∙ ap (λ n. below (greatest + 1) number n (part words n (end - n))) past);
          ends = section_ends h;
          before = p.before;
        }

  module _ (m greatest end at : ℕ) (c : InSection words place (listed ss) m greatest end at) where
    -- a word in range
    pub word_next : at < end → get_or words at 0 ≤ greatest → InSection words place (listed ss) m greatest end (at + 1)
    word_next h l = record {
      same = λ number. c.same number ∙ ap (λ a. a then ranged number words end (drop (m + 1) (listed ss))) (below_next words end (omega arith) greatest number at h l);
      ends = c.ends;
      before = omega arith;
    }

    -- a word out of range
    pub word-found : at < end → greatest < get_or words at 0 → (number : ℕ) → refused number at ≡ ranged number words place (listed ss)
    word-found h l number = sym (c.same number ∙ ap (λ a. a then ranged number words end (drop (m + 1) (listed ss))) (below-found words end (omega arith) greatest number at h l))

    -- the section's end
    pub section_next : end ≤ at → Searched words place (listed ss) end (m + 1)
    section_next h = record {
      same = λ number. c.same number ∙ ap (λ a. a then ranged number words end (drop (m + 1) (listed ss))) (below_none words end (omega arith) greatest number at h);
      end = c.ends;
    }
