-- What a layout and ranges that are refused nothing say of the words.
use mathlib.Core.Path.{◌≡◌, subst, ◌∙◌}
use mathlib.Core.Bool.{cond}
use mathlib.Core.List.{List, [], ◌∷◌}
use Prim.Native.Nat.{ℕ, zero, suc, ◌+◌, ◌≤◌, ◌<◌}
use native.Mathlib.Decide.{dec_le}
use native.Mathlib.Omega.{arith}
use borrow.Author.Tests.{ltb-true}
use lib.Dec.{ltb, eqb}
use lib.ListN.{length, get_or, drop, length-take, length-drop}
use lib.Seq.{get_or-take, get_or-drop}
use Rattle.spec_leaves.specs.Answer.{fine, refused, below, ◌then◌}
use Rattle.spec_leaves.proofs.Fine.{cond-fine}
use Rattle.spec_protocol.specs.Checks.{require}
use Rattle.spec_protocol.specs.Layout.{Range, free, under, Section, part, span, start, counted, layout, ranged, in_range}
use Rattle.spec_protocol.proofs.Fine.{required, refused_not-fine, then_fine_left, then_fine_right}
use Rattle.spec_protocol.specs.Laid.{nth, In, Laid}

module _ (number : ℕ) (words : List ℕ) where
  -- a count that is refused nothing: its words are there, and the rest is refused nothing
  section_fine : (place : ℕ) (s : Section) (ss : List Section) → counted number words place (s ∷ ss) ≡ fine
      → (place + 1 + s.count ≤ length words) × (counted number words (place + 1 + s.count) ss ≡ fine)
  unfolding counted
  section_fine place s ss e =
      let fits = require (dec_le (place + 1 + s.count) (length words)) (refused number (length words)) in
      let rest = counted number words (place + 1 + s.count) ss in
      let right = cond (eqb (get_or words place 0) s.count) (fits then rest) (refused number place) in
      let there = (cond-fine (ltb place (length words)) right number (length words) e).1 in
      let both = (cond-fine (eqb (get_or words place 0) s.count) (fits then rest) number place there).1 in (
        required (dec_le (place + 1 + s.count) (length words)) (refused number (length words)) (refused_not-fine number (length words)) (then_fine_left fits rest both),
        then_fine_right fits rest both,
      )

  -- counts that are refused nothing: the sections are there
  pub counted-inside : (place : ℕ) (ss : List Section) → place ≤ length words → counted number words place ss ≡ fine → place + span ss ≤ length words
  unfolding span
  counted-inside place [] h e = omega arith
  counted-inside place (s ∷ ss) h e =
      let next = section_fine place s ss e in
      omega (arith, counted-inside (place + 1 + s.count) ss next.0 next.1)

  -- each section's words are there
  section_inside : (place : ℕ) (ss : List Section) → counted number words place ss ≡ fine → (m : ℕ) → m < length ss → place + start ss m + (nth ss m).count ≤ length words
  unfolding start
  section_inside place [] e m h = absurd (omega arith)
  section_inside place (s ∷ ss) e zero h = (section_fine place s ss e).0
  section_inside place (s ∷ ss) e (suc m) h = omega (arith, section_inside (place + 1 + s.count) ss (section_fine place s ss e).1 m (omega arith))

  -- a layout that is refused nothing: the sections end the slice
  pub layout-whole : (place : ℕ) (ss : List Section) → place ≤ length words → layout number words place ss ≡ fine → length words ≡ place + span ss
  unfolding layout
  layout-whole place ss h e =
      let end = place + span ss in
      let counts = counted number words place ss in
      let ends = require (dec_le (length words) end) (refused number end) in
      omega (
        arith,
        counted-inside place ss h (then_fine_left counts ends e),
        required (dec_le (length words) end) (refused number end) (refused_not-fine number end) (then_fine_right counts ends e),
      )

-- words that are refused nothing are below the limit
below_each : (limit number place : ℕ) (ws : List ℕ) → below limit number place ws ≡ fine → (k : ℕ) → k < length ws → get_or ws k 0 < limit
unfolding below
below_each limit number place [] e k h = absurd (omega arith)
below_each limit number place (w ∷ ws) e zero h = ltb-true w limit (cond-fine (ltb w limit) (below limit number (place + 1) ws) number place e).0
below_each limit number place (w ∷ ws) e (suc k) h =
    below_each limit number (place + 1) ws (cond-fine (ltb w limit) (below limit number (place + 1) ws) number place e).1 k (omega arith)

-- a part's words that are refused nothing are in the range
part_in : (range : Range) (number : ℕ) (words : List ℕ) (from count : ℕ) → from + count ≤ length words → in_range range number from (part words from count) ≡ fine
    → (k : ℕ) → k < count → In range (get_or words (from + k) 0)
part_in free number words from count h e k l = tt
part_in (under limit) number words from count h e k l =
    subst (λ w. w < limit) (get_or-take count (drop from words) k 0 l ∙ get_or-drop from words k 0)
    (below_each limit number from (part words from count) e k (rw (length-take, length-drop) (omega arith)))

-- ranges that are refused nothing, of sections that are there: each word is in its section's range
ranged-each : (number : ℕ) (words : List ℕ) (place : ℕ) (ss : List Section) → place + span ss ≤ length words → ranged number words place ss ≡ fine
    → (m k : ℕ) → m < length ss → k < (nth ss m).count → In (nth ss m).range (get_or words (place + start ss m + k) 0)
unfolding ranged start span
ranged-each number words place [] i e m k h l = absurd (omega arith)
ranged-each number words place (s ∷ ss) i e zero k h l =
    part_in s.range number words (place + 1) s.count (omega arith)
    (then_fine_left (in_range s.range number (place + 1) (part words (place + 1) s.count)) (ranged number words (place + 1 + s.count) ss) e) k l
ranged-each number words place (s ∷ ss) i e (suc m) k h l =
    subst (λ n. In (nth ss m).range (get_or words n 0)) (omega arith)
    (ranged-each number words (place + 1 + s.count) ss (omega arith)
    (then_fine_right (in_range s.range number (place + 1) (part words (place + 1) s.count)) (ranged number words (place + 1 + s.count) ss) e) m k (omega arith) l)

-- a layout and ranges that are refused nothing
pub laid : (a b : ℕ) (words : List ℕ) (place : ℕ) (ss : List Section) → place ≤ length words → layout a words place ss ≡ fine → ranged b words place ss ≡ fine → Laid words place ss
unfolding layout
laid a b words place ss h e f =
    let end = place + span ss in
    let whole = layout-whole a words place ss h e in
    record {
      whole = whole;
      inside = section_inside a words place ss (then_fine_left (counted a words place ss) (require (dec_le (length words) end) (refused a end)) e);
      ranges = ranged-each b words place ss (omega arith) f;
    }
