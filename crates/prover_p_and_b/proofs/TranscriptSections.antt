-- The transcript's sections: sections after sections, and a section stored as its count and its words.
use mathlib.Core.Path.{◌≡◌, sym, ap, ap₂, ◌∙◌}
use mathlib.Core.List.{List, [], ◌∷◌, ◌++◌, append-nil}
use Prim.Native.Nat.{ℕ, suc, ◌+◌, ◌≤◌}
use native.Mathlib.Numerals.{add-one}
use native.Mathlib.Omega.{arith}
use lib.ListN.{length, set, length-append}
use lib.Seq.{sets}
use Rattle.math.specs.lists.Part.{part, splice}
use Rattle.math.proofs.lists.Splice.{length-splice, splice-append}
use Rattle.spec_protocol.specs.Layout.{sections}
use Rattle.spec_protocol.proofs.Prefix.{sections-append}
use Rattle.prover_p_and_b.specs.Sections.{SectionsRoom, Put}

-- their words, counts included
pub length-sections-append : (xs ys : List (List ℕ)) → length (sections (xs ++ ys)) ≡ length (sections xs) + length (sections ys)
length-sections-append xs ys = ap length (sections-append xs ys) ∙ length-append (sections xs) (sections ys)

-- sections stored right after sections
pub sections-after : (o : List ℕ) (at : ℕ) (xs ys : List (List ℕ)) → splice (splice o at (sections xs)) (at + length (sections xs)) (sections ys) ≡ splice o at (sections (xs ++ ys))
sections-after o at xs ys = splice-append o at (sections xs) (sections ys) ∙ ap (splice o at) (sym (sections-append xs ys))

-- one section is its count and its words
pub one_section : (ws : List ℕ) → sections (ws ∷ []) ≡ length ws ∷ ws
unfolding sections
one_section ws = append-nil (length ws ∷ ws)

-- a word more than its words
pub length-one : (ws : List ℕ) → length (sections (ws ∷ [])) ≡ 1 + length ws
length-one ws = ap length (one_section ws) ∙ omega arith

-- the place after a section
pub next_place : (at count : ℕ) (ws : List ℕ) → length ws ≡ count → at + 1 + count ≡ at + length (sections (ws ∷ []))
next_place at count ws size = omega (arith, size, length-one ws)

-- a count stored, and the words after it
pub section_stored : (o o' : List ℕ) (at count : ℕ) (ws new : List ℕ) → o' ≡ splice (set o at count) (at + 1) new → new ≡ ws → length ws ≡ count → o' ≡ splice o at (sections (ws ∷ []))
unfolding splice
section_stored o o' at count ws new stored same size =
    stored
    ∙ ap₂ (λ place l. sets (set o at count) place l) (add-one at) same
    ∙ ap (λ k. sets (set o at k) (suc at) ws) (sym size)
    ∙ ap (sets o at) (sym (one_section ws))

-- a section copied from where its words stand
pub section_copied : (o o' S : List ℕ) (at from count n : ℕ) → o' ≡ splice o at (count ∷ part S from count) → count ≡ n → length (part S from n) ≡ count
    → o' ≡ splice o at (sections (part S from n ∷ []))
section_copied o o' S at from count n copied same size =
    copied
    ∙ ap (λ k. splice o at (count ∷ part S from k)) same
    ∙ ap (λ k. splice o at (k ∷ part S from n)) (sym size)
    ∙ ap (splice o at) (sym (one_section (part S from n)))

-- sections stored after sections, where the place is theirs
pub section_after : (o o₁ o₂ : List ℕ) (at next : ℕ) (xs ys : List (List ℕ)) → o₁ ≡ splice o at (sections xs) → o₂ ≡ splice o₁ next (sections ys) → next ≡ at + length (sections xs)
    → o₂ ≡ splice o at (sections (xs ++ ys))
section_after o o₁ o₂ at next xs ys first second place = second ∙ ap₂ (λ l k. splice l k (sections ys)) first place ∙ sections-after o at xs ys

-- room for the first of some sections
pub room-first : (room at : ℕ) (xs ys : List (List ℕ)) → at + length (sections (xs ++ ys)) ≤ room → at + length (sections xs) ≤ room
room-first room at xs ys h = omega (arith, length-sections-append xs ys)

-- and for those after them
pub room_after : (O O' : List ℕ) (at next : ℕ) (xs ys : List (List ℕ)) → at + length (sections (xs ++ ys)) ≤ length O → O' ≡ splice O at (sections xs) → next ≡ at + length (sections xs)
    → next + length (sections ys) ≤ length O'
room_after O O' at next xs ys h e place = omega (arith, length-sections-append xs ys, ap length e, length-splice O at (sections xs))

-- the place after sections after sections
pub place_after : (at next last : ℕ) (xs ys : List (List ℕ)) → next ≡ at + length (sections xs) → last ≡ next + length (sections ys) → last ≡ at + length (sections (xs ++ ys))
place_after at next last xs ys a b = omega (arith, length-sections-append xs ys)

-- sections put after sections
pub put_after : (o o₁ o₂ : List ℕ) (at next last : ℕ) (xs ys : List (List ℕ)) → Put at next o o₁ xs → Put next last o₁ o₂ ys → Put at last o o₂ (xs ++ ys)
put_after o o₁ o₂ at next last xs ys a b = (place_after at next last xs ys a.0 b.0, section_after o o₁ o₂ at next xs ys a.1 b.1 a.0)

-- and their room
pub put_room : (o o₁ : List ℕ) (at next : ℕ) (xs ys : List (List ℕ)) → SectionsRoom at (xs ++ ys) o → Put at next o o₁ xs → SectionsRoom next ys o₁
put_room o o₁ at next xs ys h a = room_after o o₁ at next xs ys h a.1 a.0
