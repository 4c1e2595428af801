-- A section replaced within sections, and a run of words within the first words of a buffer.
use mathlib.Core.Path.{◌≡◌, refl, sym, ap, ap₂, ◌∙◌}
use mathlib.Core.List.{List, [], ◌∷◌, ◌++◌}
use Prim.Native.Nat.{ℕ, zero, suc, ◌+◌, ◌≤◌, ◌<◌}
use native.Mathlib.Nat.{zero-add}
use native.Mathlib.Omega.{arith}
use lib.ListN.{length, get_or, set, drop, length-append, length-set}
use lib.Seq.{sets, set-append_left, length-sets}
use Rattle.math.specs.lists.Part.{part, splice}
use Rattle.math.proofs.lists.Splice.{splice_eq, part-splice-within, get_or-splice-within}
use Rattle.spec_protocol.specs.Layout.{Section, canonical, start, sections}
use Rattle.spec_protocol.proofs.Sections.{Filled, none, more}

-- a run of stores in the first of two lists
sets_first : (new a b : List ℕ) (at : ℕ) → at + length new ≤ length a → sets (a ++ b) at new ≡ sets a at new ++ b
sets_first [] a b at h = refl
sets_first (x ∷ new) a b at h =
    ap (λ l. sets l (suc at) new) (set-append_left a b at x (omega arith)) ∙ sets_first new (set a at x) b (suc at) (omega (arith, length-set a at x))

-- a run of stores after a first element, and after a first list
sets_tail : (new : List ℕ) (x : ℕ) (l : List ℕ) (at : ℕ) → sets (x ∷ l) (suc at) new ≡ x ∷ sets l at new
sets_tail [] x l at = refl
sets_tail (v ∷ new) x l at = sets_tail new x (set l at v) (suc at)

sets_second : (a b : List ℕ) (at : ℕ) (new : List ℕ) → sets (a ++ b) (length a + at) new ≡ a ++ sets b at new
sets_second [] b at new = ap (λ k. sets b k new) (zero-add at)
sets_second (x ∷ a) b at new = ap (λ k. sets (x ∷ (a ++ b)) k new) (there (length a)) ∙ sets_tail new x (a ++ b) (length a + at) ∙ ap (λ l. x ∷ l) (sets_second a b at new)
  where
    there : (n : ℕ) → suc n + at ≡ suc (n + at)
    there n = omega arith

-- the whole of a list replaced
sets_all : (new l : List ℕ) → length new ≡ length l → sets l 0 new ≡ new
unfolding splice
sets_all new l e = splice_eq l 0 new (omega arith) ∙ ap (λ r. new ++ r) (ap (λ n. drop (0 + n) l) e ∙ empty l) ∙ nothing new
  where
    gone : (l : List ℕ) → drop (length l) l ≡ []
    gone [] = refl
    gone (x ∷ l) = gone l

    empty : (l : List ℕ) → drop (0 + length l) l ≡ []
    empty l = ap (λ n. drop n l) (zero-add (length l)) ∙ gone l

    nothing : (l : List ℕ) → l ++ [] ≡ l
    nothing [] = refl
    nothing (x ∷ l) = ap (λ m. x ∷ m) (nothing l)

-- section m replaced by as many words
pub section_replaced : {ss : List Section} {wss : List (List ℕ)} → Filled ss wss → (m : ℕ) (new : List ℕ) → m < length ss → length new ≡ (get_or ss m (canonical 0)).count
    → splice (sections wss) (start ss m) new ≡ sections (set wss m new)
unfolding splice sections start
section_replaced none m new h e = absurd (omega arith)
section_replaced (more {s} {ws} {ss} {wss} size r f) zero new h e =
    sets_tail new (length ws) (ws ++ sections wss) 0
    ∙ ap₂ (λ n l. n ∷ l) (size ∙ sym e) (sets_first new ws (sections wss) 0 (omega arith) ∙ ap (λ l. l ++ sections wss) (sets_all new ws (e ∙ sym size)))
section_replaced (more {s} {ws} {ss} {wss} size r f) (suc m) new h e =
    ap (λ k. sets (length ws ∷ (ws ++ sections wss)) k new) past
    ∙ sets_tail new (length ws) (ws ++ sections wss) (length ws + start ss m)
    ∙ ap (λ l. length ws ∷ l) (sets_second ws (sections wss) (start ss m) new ∙ ap (λ l. ws ++ l) (section_replaced f m new (omega arith) e))
  where
    past : 1 + s.count + start ss m ≡ suc (length ws + start ss m)
    past = omega arith

-- a section ends within the sections
pub section_within : {ss : List Section} {wss : List (List ℕ)} → Filled ss wss → (m : ℕ) → m < length ss → start ss m + (get_or ss m (canonical 0)).count ≤ length (sections wss)
unfolding sections start
section_within none m h = absurd (omega arith)
section_within (more {s} {ws} {ss} {wss} size r f) zero h = omega (arith, length-append ws (sections wss))
section_within (more {s} {ws} {ss} {wss} size r f) (suc m) h = omega (arith, length-append ws (sections wss), section_within f m (omega arith))

module _ (l a : List ℕ) (room : length a ≤ length l) where
  -- the first words of a buffer replaced: those, then the words beyond
  pub splice_front : splice l 0 a ≡ a ++ drop (length a) l
  splice_front = splice_eq l 0 a (omega arith) ∙ ap (λ n. a ++ drop n l) (zero-add (length a))

  -- a run within them
  pub splice-inside : (at : ℕ) (new : List ℕ) → at + length new ≤ length a → splice (splice l 0 a) at new ≡ splice l 0 (splice a at new)
  unfolding splice
  splice-inside at new h =
      ap (λ m. sets m at new) splice_front
      ∙ sets_first new a (drop (length a) l) at h
      ∙ sym (splice_eq l 0 (sets a at new) (omega (arith, length-sets a at new)) ∙ ap (λ n. sets a at new ++ drop n l) (zero-add (length (sets a at new)) ∙ length-sets a at new))

  -- reading within them
  pub part_front : (at n : ℕ) → at + n ≤ length a → part (splice l 0 a) at n ≡ part a at n
  part_front at n h = ap (λ k. part (splice l 0 a) k n) (sym (zero-add at)) ∙ part-splice-within 0 l 0 a at n h (omega arith)

  pub get_d_front : (i : ℕ) → i < length a → get_or (splice l 0 a) i 0 ≡ get_or a i 0
  get_d_front i h = ap (λ k. get_or (splice l 0 a) k 0) (sym (zero-add i)) ∙ get_or-splice-within l 0 a i 0 h (omega arith)
