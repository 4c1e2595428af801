-- The words that sections take, and where each starts.
use mathlib.Core.Path.{◌≡◌, refl, sym, ap, ◌∙◌}
use mathlib.Core.List.{List, [], ◌∷◌, ◌++◌, map-append}
use Prim.Native.Nat.{ℕ, zero, suc, ◌+◌, ◌≤◌, ◌<◌}
use native.Mathlib.Numerals.{add-one}
use native.Mathlib.Omega.{arith}
use lib.ListN.{length, get_or, take, drop, take-append-drop}
use Rattle.std.proofs.Math.Seq.{take-suc}
use Rattle.std.proofs.lemmas.List.{length-map, take-map, drop-map}
use Rattle.spec_protocol.specs.Layout.{span, start}
use Rattle.spec_protocol.specs.Layout as L
use Rattle.layout_sections.specs.declared.sections.Section.{Section}
use Rattle.layout_sections.specs.Sections.{section_of, listed}

-- section m of a slice
abbrev pub item : List Section → ℕ → Section
item ss m = get_or ss m (record { count = 0; greatest = 0 })

-- as many sections are listed as there are
pub length-listed : (ss : List Section) → length (listed ss) ≡ length ss
unfolding listed
length-listed ss = length-map ss section_of

-- a part of the sections, listed
pub take-listed : (n : ℕ) (ss : List Section) → take n (listed ss) ≡ listed (take n ss)
unfolding listed
take-listed n ss = take-map section_of n ss

pub drop-listed : (n : ℕ) (ss : List Section) → drop n (listed ss) ≡ listed (drop n ss)
unfolding listed
drop-listed n ss = drop-map section_of n ss

pub part-listed : (n from : ℕ) (ss : List Section) → take n (drop from (listed ss)) ≡ listed (take n (drop from ss))
part-listed n from ss = ap (take n) (drop-listed from ss) ∙ take-listed n (drop from ss)

-- sections one after the other
pub span-append : (a b : List L.Section) → span (a ++ b) ≡ span a + span b
unfolding span
span-append [] b = omega arith
span-append (s ∷ a) b = omega (arith, span-append a b)

-- a part takes no more words than the whole
pub span-part : (ss : List L.Section) (from n : ℕ) → span (take n (drop from ss)) ≤ span ss
span-part ss from n =
    omega (
      arith,
      span-append (take from ss) (drop from ss),
      ap span (take-append-drop from ss),
      span-append (take n (drop from ss)) (drop n (drop from ss)),
      ap span (take-append-drop n (drop from ss)),
    )

-- no section takes a word
pub span_none : 0 ≡ span (listed [])
unfolding listed span
span_none = refl

-- one more section takes its count and its words
pub span-next : (ss : List Section) (m : ℕ) → m < length ss → span (listed (take m ss)) + (1 + (item ss m).count) ≡ span (listed (take (m + 1) ss))
unfolding listed span
span-next ss m h =
    sym
    (ap (λ l. span (listed l)) (ap (λ n. take n ss) (add-one m) ∙ take-suc ss m (record { count = 0; greatest = 0 }) h)
    ∙ ap span (map-append section_of (take m ss) (item ss m ∷ []))
    ∙ span-append (listed (take m ss)) (section_of (item ss m) ∷ [])
    ∙ omega arith)

-- and no more than all of them
pub span-room : (ss : List Section) (m : ℕ) → m < length ss → span (listed (take m ss)) + (1 + (item ss m).count) ≤ span (listed ss)
span-room ss m h = omega (arith, span-next ss m h, ap span (take-listed (m + 1) ss), span-part (listed ss) 0 (m + 1))

-- some sections take no more than all of them
pub span-within : (ss : List Section) (from n : ℕ) → span (listed (take n (drop from ss))) ≤ span (listed ss)
span-within ss from n = omega (arith, ap span (part-listed n from ss), span-part (listed ss) from n)

-- the first sections take no more than all of them
pub span-taken : (ss : List Section) (m : ℕ) → span (listed (take m ss)) ≤ span (listed ss)
span-taken ss m = span-within ss 0 m

-- the words of section m start after the sections before it and its count
pub start_is : (ss : List L.Section) (m : ℕ) → m < length ss → start ss m ≡ span (take m ss) + 1
unfolding start span
start_is [] m h = absurd (omega arith)
start_is (s ∷ ss) zero h = refl
start_is (s ∷ ss) (suc m) h = omega (arith, start_is ss m (omega arith))

-- and no later than the sections end
pub start-within : (ss : List L.Section) (m : ℕ) → m < length ss → start ss m ≤ span ss
unfolding start span
start-within [] m h = absurd (omega arith)
start-within (s ∷ ss) zero h = omega arith
start-within (s ∷ ss) (suc m) h = omega (arith, start-within ss m (omega arith))

-- of sections of a slice
pub start-listed : (ss : List Section) (m : ℕ) → m < length ss → span (listed (take m ss)) + 1 ≡ start (listed ss) m
start-listed ss m h = omega (arith, ap span (take-listed m ss), start_is (listed ss) m (rw length-listed h))
