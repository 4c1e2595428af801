-- Sections whose words are as many as counted and in range: their layout and ranges are fine, and each is read back from its place.
use mathlib.Core.Path.{◌≡◌, refl, sym, ap, ◌∙◌}
use mathlib.Core.Bool.{true}
use mathlib.Core.List.{List, [], ◌∷◌, ◌++◌}
use Prim.Native.Nat.{ℕ, zero, suc, ◌+◌, ◌≤◌, ◌<◌}
use native.Mathlib.Decide.{dec_le}
use native.Mathlib.Omega.{arith}
use borrow.Author.Tests.{lt-ltb, eq-eqb}
use lib.Dec.{ltb, eqb}
use lib.ListN.{length, get_or, take, drop, length-append, length-drop}
use lib.Seq.{take_at, take-append_seam, drop-append-add, drop_at, drop-drop, get_or-drop, get_or-take}
use Rattle.spec_leaves.specs.Answer.{fine, refused}
use Rattle.spec_protocol.specs.Layout.{Range, free, under, Section, canonical, part, span, start, sections, counted, layout, in_range, ranged}
use Rattle.spec_leaves.proofs.Leaf.{below-fine}
use Rattle.spec_protocol.proofs.Fine.{require-holds, then_both_fine}

-- each word is in the range
abbrev pub InRange : Range → List ℕ → Type 0
InRange free ws = Unit {0}
InRange (under limit) ws = (k : ℕ) → k < length ws → get_or ws k 0 < limit

-- the lists are the words of the sections, one after the other
pub data Filled : List Section → List (List ℕ) → Type 0 where
  none : Filled [] []
  more : {s : Section} {ws : List ℕ} {ss : List Section} {wss : List (List ℕ)} → length ws ≡ s.count → InRange s.range ws → Filled ss wss → Filled (s ∷ ss) (ws ∷ wss)

-- the first sections filled
pub filled_take : {ss : List Section} {wss : List (List ℕ)} → Filled ss wss → (m : ℕ) → Filled (take m ss) (take m wss)
filled_take none zero = none
filled_take none (suc m) = none
filled_take (more e r f) zero = none
filled_take (more e r f) (suc m) = more e r (filled_take f m)

-- the later sections filled
pub filled_drop : {ss : List Section} {wss : List (List ℕ)} → Filled ss wss → (m : ℕ) → Filled (drop m ss) (drop m wss)
filled_drop none zero = none
filled_drop none (suc m) = none
filled_drop (more e r f) zero = more e r f
filled_drop (more e r f) (suc m) = filled_drop f m

-- the words of one section, its count included
pub one_span : (n : ℕ) → 1 + n ≡ span (canonical n ∷ [])
unfolding span
one_span n = omega arith

-- words in range are not refused
in_range-fine : (range : Range) (number place : ℕ) (ws : List ℕ) → InRange range ws → in_range range number place ws ≡ fine
in_range-fine free number place ws h = refl
in_range-fine (under limit) number place ws h = below-fine limit number place ws h

-- filled sections take as many words as the sections span
pub length-sections : {ss : List Section} {wss : List (List ℕ)} → Filled ss wss → length (sections wss) ≡ span ss
unfolding sections span
length-sections none = refl
length-sections (more {ws = ws} {wss = wss} e r f) = ap suc (length-append ws (sections wss)) ∙ omega (arith, length-sections f)

-- section m is read from its place
pub section_part : {ss : List Section} {wss : List (List ℕ)} → Filled ss wss → (m : ℕ) → part (sections wss) (start ss m) (length (get_or wss m [])) ≡ get_or wss m []
unfolding sections start
section_part none m = refl
section_part (more {ws = ws} {wss = wss} e r f) zero = take-append_seam ws (sections wss)
section_part (more {s} {ws} {ss} {wss} e r f) (suc m) =
    ap (λ i. part (sections (ws ∷ wss)) i (length (get_or wss m []))) past ∙ ap (take (length (get_or wss m []))) (drop-append-add ws (sections wss) (start ss m)) ∙ section_part f m
  where
    past : 1 + s.count + start ss m ≡ suc (length ws + start ss m)
    past = omega arith

-- a word of section m is read from its place
pub section_word : {ss : List Section} {wss : List (List ℕ)} → Filled ss wss → (m j : ℕ) → j < length (get_or wss m []) → get_or (sections wss) (start ss m + j) 0 ≡ get_or (get_or wss m []) j 0
section_word {ss} {wss} f m j h =
    sym (get_or-drop (start ss m) (sections wss) j 0)
    ∙ sym (get_or-take (length (get_or wss m [])) (drop (start ss m) (sections wss)) j 0 h)
    ∙ ap (λ l. get_or l j 0) (section_part f m)

-- a list from the place of filled sections on
module _ (s : Section) (ws : List ℕ) (wss : List (List ℕ)) (size : length ws ≡ s.count) (words : List ℕ) (place : ℕ) (from : drop place words ≡ sections (ws ∷ wss)) where
  -- the count stands at the place
  count_at : get_or words place 0 ≡ s.count
  unfolding sections
  count_at = ap (λ i. get_or words i 0) (omega arith) ∙ sym (get_or-drop place words 0 0) ∙ ap (λ l. get_or l 0 0) from ∙ size

  -- the section fits
  fits : place + 1 + s.count ≤ length words
  unfolding sections
  fits = omega (arith, size, length-drop place words, ap length from, length-append ws (sections wss))

  -- the section's words follow
  words-from : drop (place + 1) words ≡ ws ++ sections wss
  unfolding sections
  words-from = sym (drop-drop 1 place words) ∙ ap (drop 1) from

  -- then the next sections
  rest_from : drop (place + 1 + s.count) words ≡ sections wss
  rest_from = sym (drop-drop s.count (place + 1) words) ∙ ap (drop s.count) words-from ∙ drop_at ws (sections wss) s.count size

-- the counts of filled sections that stand from a place on are as expected
pub counted-fine : {ss : List Section} {wss : List (List ℕ)} → Filled ss wss → (number : ℕ) (words : List ℕ) (place : ℕ) → drop place words ≡ sections wss → counted number words place ss ≡ fine
unfolding counted
counted-fine none number words place from = refl
counted-fine (more {s} {ws} {ss} {wss} e r f) number words place from =
    let room : place + 1 + s.count ≤ length words = fits s ws wss e words place from in
    let inside : ltb place (length words) ≡ true = lt-ltb place (length words) (omega arith) in
    let right : eqb (get_or words place 0) s.count ≡ true = eq-eqb (get_or words place 0) s.count (count_at s ws wss e words place from) in
    rw (inside, right)
    (then_both_fine (require-holds (dec_le (place + 1 + s.count) (length words)) (refused number (length words)) room)
    (counted-fine f number words (place + 1 + s.count) (rest_from s ws wss e words place from)))

-- the layout of filled sections is fine
pub layout-fine : {ss : List Section} {wss : List (List ℕ)} → Filled ss wss → (number : ℕ) → layout number (sections wss) 0 ss ≡ fine
unfolding layout
layout-fine {ss} {wss} f number =
    then_both_fine (counted-fine f number (sections wss) 0 refl)
    (require-holds (dec_le (length (sections wss)) (0 + span ss)) (refused number (0 + span ss)) (omega (arith, length-sections f)))

-- the words of filled sections that stand from a place on are in range
pub ranged_at : {ss : List Section} {wss : List (List ℕ)} → Filled ss wss → (number : ℕ) (words : List ℕ) (place : ℕ) → drop place words ≡ sections wss → ranged number words place ss ≡ fine
unfolding ranged
ranged_at none number words place from = refl
ranged_at (more {s} {ws} {ss} {wss} e r f) number words place from =
    then_both_fine
    (ap (in_range s.range number (place + 1)) (ap (take s.count) (words-from s ws wss e words place from) ∙ take_at ws (sections wss) s.count e)
    ∙ in_range-fine s.range number (place + 1) ws r)
    (ranged_at f number words (place + 1 + s.count) (rest_from s ws wss e words place from))

-- the words of filled sections are in range
pub ranged-fine : {ss : List Section} {wss : List (List ℕ)} → Filled ss wss → (number : ℕ) → ranged number (sections wss) 0 ss ≡ fine
ranged-fine {wss = wss} f number = ranged_at f number (sections wss) 0 refl
