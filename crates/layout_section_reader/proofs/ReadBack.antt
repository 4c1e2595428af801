-- Sections that stand one after the other are read back, and the position behind them is their span.
use mathlib.Core.Path.{◌≡◌, refl, sym, ap, ap₂, ◌∙◌}
use mathlib.Core.Bool.{cond}
use mathlib.Core.List.{List, [], ◌∷◌, ◌++◌, append_assoc}
use Prim.Native.Nat.{ℕ, zero, suc, ◌+◌, ◌≤◌}
use native.Mathlib.Nat.{le_refl}
use native.Mathlib.Decide.{dec_le}
use native.Mathlib.Omega.{arith}
use borrow.Author.Tests.{eqb-true}
use lib.Dec.{ltb, eqb}
use lib.ListN.{length, get_or, take, length-append}
use lib.Seq.{take-length, append_snoc, get_or-append_seam}
use Rattle.math.proofs.lists.Part.{part-between}
use Rattle.spec_leaves.specs.Answer.{fine, refused, ◌then◌}
use Rattle.spec_leaves.proofs.Fine.{cond-fine}
use Rattle.spec_protocol.specs.Checks.{require}
use Rattle.spec_protocol.specs.Layout as L
use Rattle.spec_protocol.specs.Layout.{part, span, sections, counted}
use Rattle.spec_protocol.proofs.Fine.{required, refused_not-fine, then_fine_left, then_fine_right}
use Rattle.spec_protocol.proofs.Sections.{Filled, filled_take, length-sections}
use Rattle.layout_section_reader.specs.declared.Read.TheVariants.{Section, End}
use Rattle.layout_section_reader.specs.Read.{read_at, behind_of, behind_at, words_of, behind_all, read_all}
use Rattle.layout_section_reader.proofs.Reading.{read_end, read_section}

-- a section between words
module _ (before ws after : List ℕ) where
  abbrev words : List ℕ
  words = before ++ ((length ws ∷ ws) ++ after)

  words-length : length words ≡ length before + (1 + length ws + length after)
  words-length = length-append before ((length ws ∷ ws) ++ after) ∙ omega (arith, length-append ws after)

  -- it is read
  pub read_between : read_at words (length before) ≡ Section (length before + 1) (length ws)
  read_between = read_section words (length before) (length ws) (sym (get_or-append_seam before (length ws) (ws ++ after) 0)) (omega (arith, words-length)) (omega (arith, words-length))

  -- the position is behind it
  pub behind_between : behind_at words (length before) ≡ length (before ++ (length ws ∷ ws))
  behind_between = ap (behind_of (length before)) read_between ∙ omega (arith, length-append before (length ws ∷ ws))

  -- its words are read
  pub words-between : words_of words (read_at words (length before)) ≡ ws
  words-between =
      ap (words_of words) read_between
      ∙ ap (λ l. part l (length before + 1) (length ws)) (sym (append_snoc before (length ws) (ws ++ after)))
      ∙ part-between (before ++ (length ws ∷ [])) ws after (length before + 1) (length ws) (length-append before (length ws ∷ [])) refl

-- what is found behind the first of some sections is what is found at the next
onwards {ℓ} : {A : Type ℓ} (f : List ℕ → ℕ → A) (before ws : List ℕ) (wss : List (List ℕ))
    → f (before ++ sections (ws ∷ wss)) (behind_at (before ++ sections (ws ∷ wss)) (length before))
    ≡ f ((before ++ (length ws ∷ ws)) ++ sections wss) (length (before ++ (length ws ∷ ws)))
unfolding sections
onwards f before ws wss = ap₂ f (sym (append_assoc before (length ws ∷ ws) (sections wss))) (behind_between before ws (sections wss))

-- sections that follow some words are read back
pub read_after : (before : List ℕ) (wss : List (List ℕ)) → read_all (length wss) (before ++ sections wss) (length before) ≡ wss
unfolding read_all sections
read_after before [] = refl
read_after before (ws ∷ wss) =
    ap₂ ◌∷◌ (words-between before ws (sections wss)) (onwards (read_all (length wss)) before ws wss ∙ read_after (before ++ (length ws ∷ ws)) wss)

-- the position behind the first m of them
pub behind_after : (before : List ℕ) (wss : List (List ℕ)) (m : ℕ) → m ≤ length wss → behind_all m (before ++ sections wss) (length before) ≡ length before + length (sections (take m wss))
unfolding behind_all sections
behind_after before wss zero h = omega arith
behind_after before [] (suc m) h = absurd (omega arith)
behind_after before (ws ∷ wss) (suc m) h =
    onwards (behind_all m) before ws wss
    ∙ behind_after (before ++ (length ws ∷ ws)) wss m (omega arith)
    ∙ omega (arith, length-append before (length ws ∷ ws), length-append ws (sections (take m wss)))

-- the sections of a slice are read back
pub read_back : (wss : List (List ℕ)) → read_all (length wss) (sections wss) 0 ≡ wss
read_back wss = read_after [] wss

-- behind the first m sections of a slice the position is their span
pub behind_span : {ss : List L.Section} {wss : List (List ℕ)} → Filled ss wss → (m : ℕ) → m ≤ length wss → behind_all m (sections wss) 0 ≡ span (take m ss)
behind_span {wss = wss} f m h = omega (arith, behind_after [] wss m h, length-sections (filled_take f m))

-- at its end no section is read
pub read_done : (wss : List (List ℕ)) → read_at (sections wss) (behind_all (length wss) (sections wss) 0) ≡ End
read_done wss = read_end (sections wss) _ (omega (arith, behind_after [] wss (length wss) (le_refl (length wss)), ap (λ l. length (sections l)) (take-length wss)))

module _ (number : ℕ) (words : List ℕ) where
  -- a count that is refused nothing is read, and the rest is refused nothing
  pub read_counted : (place : ℕ) (s : L.Section) (ss : List L.Section) → counted number words place (s ∷ ss) ≡ fine
      → (read_at words place ≡ Section (place + 1) s.count) × (counted number words (place + 1 + s.count) ss ≡ fine)
  unfolding counted
  read_counted place s ss e =
      let fits = require (dec_le (place + 1 + s.count) (length words)) (refused number (length words)) in
      let rest = counted number words (place + 1 + s.count) ss in
      let right = cond (eqb (get_or words place 0) s.count) (fits then rest) (refused number place) in
      let there = cond-fine (ltb place (length words)) right number (length words) e in
      let both = cond-fine (eqb (get_or words place 0) s.count) (fits then rest) number place there.1 in
      let inside = required (dec_le (place + 1 + s.count) (length words)) (refused number (length words)) (refused_not-fine number (length words)) (then_fine_left fits rest both.1) in (
        read_section words place s.count (sym (eqb-true (get_or words place 0) s.count both.0)) (omega arith) (omega arith),
        then_fine_right fits rest both.1,
      )

  -- behind m sections whose counts are refused nothing the position is their span further
  pub behind_counted : (place : ℕ) (ss : List L.Section) → counted number words place ss ≡ fine → (m : ℕ) → m ≤ length ss → behind_all m words place ≡ place + span (take m ss)
  unfolding behind_all span
  behind_counted place ss e zero h = omega arith
  behind_counted place [] e (suc m) h = absurd (omega arith)
  behind_counted place (s ∷ ss) e (suc m) h =
      let first = read_counted place s ss e in
      ap (behind_all m words) (ap (behind_of place) first.0) ∙ behind_counted (place + 1 + s.count) ss first.1 m (omega arith) ∙ omega arith
