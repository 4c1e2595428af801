-- Layout and ranges of sections: of sections one after the other, and of a slice's prefix.
use mathlib.Core.Path.{◌≡◌, refl, sym, ap, ap₂, ◌∙◌}
use mathlib.Core.Bool.{Bool, true, false, cond}
use mathlib.Core.List.{List, [], ◌∷◌, ◌++◌, append_assoc}
use Prim.Native.Nat.{ℕ, ◌+◌, ◌≤◌}
use native.Mathlib.Nat.{add-zero, zero-add}
use native.Mathlib.Decide.{dec_le}
use native.Mathlib.Omega.{arith}
use borrow.Author.Tests.{lt-ltb}
use lib.Dec.{ltb, eqb}
use lib.ListN.{length, get_or, take, length-take}
use lib.Seq.{take_all, length-take-le, get_or-take}
use Rattle.math.proofs.lists.Part.{part_of-take}
use Rattle.spec_leaves.specs.Answer.{Answer, fine, refused, ◌then◌}
use Rattle.spec_protocol.specs.Checks.{require}
use Rattle.spec_protocol.specs.Layout.{Section, span, sections, counted, ends, layout, in_range, ranged, part}
use Rattle.spec_protocol.proofs.Fine.{require-holds}
use Rattle.spec_protocol.proofs.Then.{then_assoc}
use Rattle.spec_protocol.proofs.Checks.{then_fine}

-- sections of words one after the other
pub sections-append : (wss wss' : List (List ℕ)) → sections (wss ++ wss') ≡ sections wss ++ sections wss'
unfolding sections
sections-append [] wss' = refl
sections-append (ws ∷ wss) wss' = ap (λ l. (length ws ∷ ws) ++ l) (sections-append wss wss') ∙ sym (append_assoc (length ws ∷ ws) (sections wss) (sections wss'))

-- the place after a section, and after those behind it
regroup : (place count rest : ℕ) → place + 1 + count + rest ≡ place + (1 + count + rest)
regroup place count rest = omega arith

-- what follows a count that is tested follows the sections after it
then_tests : (t t' : Bool) (n p p' : ℕ) (a b c d : Answer) → b ≡ c then d
    → cond t (cond t' (a then b) (refused n p)) (refused n p') ≡ cond t (cond t' (a then c) (refused n p)) (refused n p') then d
then_tests true true n p p' a b c d e = ap (λ x. a then x) e ∙ sym (then_assoc a c d)
then_tests true false n p p' a b c d e = refl
then_tests false t' n p p' a b c d e = refl

module _ (number : ℕ) (words : List ℕ) where
  -- the counts of sections one after the other
  pub counted-append : (place : ℕ) (ss ss' : List Section)
      → counted number words place (ss ++ ss') ≡ counted number words place ss then counted number words (place + span ss) ss'
  unfolding counted span
  counted-append place [] ss' = ap (λ k. counted number words k ss') (sym (add-zero place))
  counted-append place (s ∷ ss) ss' =
      then_tests (ltb place (length words)) (eqb (get_or words place 0) s.count) number place (length words)
      (require (dec_le (place + 1 + s.count) (length words)) (refused number (length words)))
      (counted number words (place + 1 + s.count) (ss ++ ss'))
      (counted number words (place + 1 + s.count) ss)
      (counted number words (place + (1 + s.count + span ss)) ss')
      (counted-append (place + 1 + s.count) ss ss' ∙ ap (λ k. counted number words (place + 1 + s.count) ss then counted number words k ss') (regroup place s.count (span ss)))

  -- the ranges of sections one after the other
  pub ranged-append : (place : ℕ) (ss ss' : List Section)
      → ranged number words place (ss ++ ss') ≡ ranged number words place ss then ranged number words (place + span ss) ss'
  unfolding ranged span
  ranged-append place [] ss' = ap (λ k. ranged number words k ss') (sym (add-zero place))
  ranged-append place (s ∷ ss) ss' =
      let here = in_range s.range number (place + 1) (part words (place + 1) s.count) in
      let rest = ranged number words (place + 1 + s.count) ss in
      ap (λ x. here then x) (ranged-append (place + 1 + s.count) ss ss' ∙ ap (λ k. rest then ranged number words k ss') (regroup place s.count (span ss)))
      ∙ sym (then_assoc here rest (ranged number words (place + (1 + s.count + span ss)) ss'))

  -- a section that the slice holds whole has its count, or is refused there
  counted-held : (place : ℕ) (s : Section) (ss : List Section) → place + 1 + s.count ≤ length words
      → counted number words place (s ∷ ss) ≡ cond (eqb (get_or words place 0) s.count) (counted number words (place + 1 + s.count) ss) (refused number place)
  unfolding counted
  counted-held place s ss h =
      ap (λ t. cond t
      (cond (eqb (get_or words place 0) s.count)
      (require (dec_le (place + 1 + s.count) (length words)) (refused number (length words)) then counted number words (place + 1 + s.count) ss)
      (refused number place))
      (refused number (length words))) (lt-ltb place (length words) (omega arith))
      ∙ ap (λ a. cond (eqb (get_or words place 0) s.count) (a then counted number words (place + 1 + s.count) ss) (refused number place))
      (require-holds (dec_le (place + 1 + s.count) (length words)) (refused number (length words)) h)

module _ (number : ℕ) (words : List ℕ) (n : ℕ) where
  -- the counts of sections within a prefix that the slice holds
  counted-within : n ≤ length words → (place : ℕ) (ss : List Section) → place + span ss ≤ n → counted number (take n words) place ss ≡ counted number words place ss
  unfolding counted span
  counted-within held place [] h = refl
  counted-within held place (s ∷ ss) h =
      counted-held number (take n words) place s ss (rw (length-take-le n words held) (omega arith))
      ∙ ap (λ w. cond (eqb w s.count) (counted number (take n words) (place + 1 + s.count) ss) (refused number place)) (get_or-take n words place 0 (omega arith))
      ∙ ap (λ x. cond (eqb (get_or words place 0) s.count) x (refused number place)) (counted-within held (place + 1 + s.count) ss (omega arith))
      ∙ sym (counted-held number words place s ss (omega arith))

  -- the counts of sections within a prefix are those of the slice, and the places of their faults too
  pub counted_prefix : (place : ℕ) (ss : List Section) → place + span ss ≤ n → counted number (take n words) place ss ≡ counted number words place ss
  counted_prefix place ss h = go (dec_le (length words) n)
    where
      go : Dec (length words ≤ n) → counted number (take n words) place ss ≡ counted number words place ss
      go (yes short) = ap (λ ws. counted number ws place ss) (take_all n words short)
      go (no long) = counted-within (omega arith) place ss h

  -- the ranges of sections within a prefix are those of the slice
  pub ranged_prefix : (place : ℕ) (ss : List Section) → place + span ss ≤ n → ranged number (take n words) place ss ≡ ranged number words place ss
  unfolding ranged span
  ranged_prefix place [] h = refl
  ranged_prefix place (s ∷ ss) h =
      ap₂ ◌then◌
      (ap (in_range s.range number (place + 1)) (part_of-take n words (place + 1) s.count (omega arith)))
      (ranged_prefix (place + 1 + s.count) ss (omega arith))

  -- a prefix ends where it ends
  pub ends_prefix : ends number (take n words) n ≡ fine
  ends_prefix = require-holds (dec_le (length (take n words)) n) (refused number n) (rw length-take (omega arith))

module _ (number number' : ℕ) (words : List ℕ) where
  -- sections from the start, and what follows them not handed: their counts, then their ranges
  pub refusal_of_prefix : (ss : List Section)
      → layout number (take (span ss) words) 0 ss then ranged number' (take (span ss) words) 0 ss ≡ counted number words 0 ss then ranged number' words 0 ss
  unfolding layout
  refusal_of_prefix ss =
      ap₂ ◌then◌
      (ap₂ ◌then◌
      (counted_prefix number words (span ss) 0 ss (omega arith))
      (ap (ends number (take (span ss) words)) (zero-add (span ss)) ∙ ends_prefix number words (span ss))
      ∙ then_fine (counted number words 0 ss))
      (ranged_prefix number' words (span ss) 0 ss (omega arith))

  -- sections from the start, and others behind them: the counts of both, and nothing surplus, then the ranges of both
  pub refusal_of_all : (ss ss' : List Section)
      → layout number words 0 (ss ++ ss') then ranged number' words 0 (ss ++ ss')
      ≡ counted number words 0 ss then counted number words (span ss) ss' then ends number words (span (ss ++ ss')) then ranged number' words 0 ss then ranged number' words (span ss) ss'
  unfolding layout
  refusal_of_all ss ss' =
      ap₂ ◌then◌
      (ap₂ ◌then◌
      (counted-append number words 0 ss ss' ∙ ap (λ k. counted number words 0 ss then counted number words k ss') (zero-add (span ss)))
      (ap (ends number words) (zero-add (span (ss ++ ss')))))
      (ranged-append number' words 0 ss ss' ∙ ap (λ k. ranged number' words 0 ss then ranged number' words k ss') (zero-add (span ss)))
      ∙ sym
      (then_assoc (counted number words 0 ss then counted number words (span ss) ss' then ends number words (span (ss ++ ss')))
      (ranged number' words 0 ss)
      (ranged number' words (span ss) ss'))
