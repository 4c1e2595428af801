-- Entries in the words of a list.
use mathlib.Core.Path.{◌≡◌, refl, sym, ap, ap₂, ◌∙◌}
use mathlib.Core.List.{List, [], ◌∷◌, ◌++◌, flat_map, append_assoc}
use Prim.Native.Nat.{ℕ, ◌+◌, ◌*◌, ◌≤◌, ◌<◌}
use native.Mathlib.Nat.{zero-add, add-zero}
use native.Mathlib.Numerals.{add-one}
use native.Mathlib.Omega.{arith}
use lib.ListN.{length, get_or, set, take, drop, length-append, length-take, take-append-drop, drop_of_length-le}
use lib.Seq.{drop-cons}
use Rattle.math.specs.lists.Part.{splice}
use Rattle.math.proofs.lists.Table.{length-table, get_or-table, is_table}
use Rattle.math.proofs.lists.Part.{length_flat_map, part_flat_map}
use Rattle.math.proofs.lists.Additive.{flat_map_append}
use Rattle.math.proofs.lists.Splice.{length-splice, splice-append, splice_again, splice-next, splice-nil, get_or-splice-after, get_or-splice-within, get_d_part}
use Rattle.spec_protocol.specs.Mistyped.{Entry, entry_words}
use Rattle.mistyped_solve.proofs.Inserted.{length-insert}
use Rattle.mistyped_solve.specs.Insert.{entry, entry_at, entries, first_of, later_of, insert}

-- two words for each entry
pub length-words : (es : List Entry) → length (entry_words es) ≡ 2 * length es
length-words es = length_flat_map (λ e. e.index ∷ e.number ∷ []) 2 (λ e. refl) es

-- one more entry at the end
append-entry : (es : List Entry) (e : Entry) → entry_words es ++ (e.index ∷ []) ++ (e.number ∷ []) ≡ entry_words (es ++ (e ∷ []))
unfolding flat_map
append-entry es e = append_assoc (entry_words es) (e.index ∷ []) (e.number ∷ []) ∙ sym (flat_map_append (λ e. e.index ∷ e.number ∷ []) es (e ∷ []))

-- one more entry is two more words
pub words-next : (ws : List ℕ) (es : List Entry) (e : Entry) (j : ℕ) → length es ≡ j
    → set (set (splice ws 0 (entry_words es)) (2 * j) e.index) (2 * j + 1) e.number ≡ splice ws 0 (entry_words (es ++ (e ∷ [])))
words-next ws es e j h =
    ap₂ (λ a b. set (set (splice ws 0 (entry_words es)) a e.index) b e.number) at_first at_second
    ∙ ap (λ l. set l (0 + length (entry_words es ++ (e.index ∷ []))) e.number) (splice-next ws 0 (entry_words es) e.index)
    ∙ splice-next ws 0 (entry_words es ++ (e.index ∷ [])) e.number
    ∙ ap (splice ws 0) (append-entry es e)
  where
    at_first : 2 * j ≡ 0 + length (entry_words es)
    at_first = omega (arith, length-words es)

    at_second : 2 * j + 1 ≡ 0 + length (entry_words es ++ (e.index ∷ []))
    at_second = omega (arith, length-words es, length-append (entry_words es) (e.index ∷ []))

-- an entry is put among the first entries of a list: so many are passed, another is carried on
pub record Inserting (ws₀ : List ℕ) (count : ℕ) (e : Entry) (j : ℕ) (carried : Entry) (ws : List ℕ) : Type 0 where
  pub done : List Entry
  pub size : length done ≡ j
  pub few : j ≤ count
  pub words : ws ≡ splice ws₀ 0 (entry_words done)
  pub same : done ++ insert carried (drop j (entries count ws₀)) ≡ insert e (entries count ws₀)

module _ {ws₀ : List ℕ} {count : ℕ} {e : Entry} where
  -- none is passed
  pub inserting_start : Inserting ws₀ count e 0 e ws₀
  unfolding flat_map
  inserting_start = record { done = []; size = refl; few = omega arith; words = sym (splice-nil ws₀ 0); same = refl }

  module _ {j : ℕ} {carried : Entry} {ws : List ℕ} (i : Inserting ws₀ count e j carried ws) where
    -- the list keeps its length
    pub inserting_length : length ws ≡ length ws₀
    inserting_length = ap length i.words ∙ length-splice ws₀ 0 (entry_words i.done)

    -- a word that is not passed
    word_after : (k : ℕ) → 2 * j ≤ k → get_or ws k 0 ≡ get_or ws₀ k 0
    word_after k h = ap (λ l. get_or l k 0) i.words ∙ get_or-splice-after ws₀ 0 (entry_words i.done) k 0 (omega (arith, length-words i.done, i.size))

    -- the entry that is next
    entry-after : entry_at ws j ≡ entry_at ws₀ j
    entry-after = ap₂ entry (word_after (2 * j) (omega arith)) (word_after (2 * j + 1) (omega arith))

    -- the entries that are not passed
    rest_is : j < count → drop j (entries count ws₀) ≡ entry_at ws j ∷ drop (j + 1) (entries count ws₀)
    rest_is h =
        drop-cons (entries count ws₀) j (entry 0 0) (omega (arith, length-table count (entry_at ws₀)))
        ∙ ap₂ (λ f k. f ∷ drop k (entries count ws₀)) (get_or-table count (entry_at ws₀) j (entry 0 0) h ∙ sym entry-after) (sym (add-one j))

    -- the first of the entry carried and the next one is stored, the other carried on
    pub inserting_next : (first later : Entry) → j < count → first ≡ first_of carried (entry_at ws j) → later ≡ later_of carried (entry_at ws j)
        → Inserting ws₀ count e (j + 1) later (set (set ws (2 * j) first.index) (2 * j + 1) first.number)
    unfolding insert
    inserting_next first later h p q = record {
      done = i.done ++ (first ∷ []);
      size = length-append i.done (first ∷ []) ∙ omega (arith, i.size);
      few = omega arith;
      words = ap (λ l. set (set l (2 * j) first.index) (2 * j + 1) first.number) i.words ∙ words-next ws₀ i.done first j i.size;
      same =
          append_assoc i.done (first ∷ []) (insert later (drop (j + 1) (entries count ws₀)))
          ∙ ap₂ (λ f g. i.done ++ (f ∷ insert g (drop (j + 1) (entries count ws₀)))) p q
          ∙ ap (λ l. i.done ++ insert carried l) (sym (rest_is h))
          ∙ i.same;
    }

    -- the last entry is stored
    pub inserting_end : (n : ℕ) → n ≡ j → j ≡ count → set (set ws (2 * n) carried.index) (2 * n + 1) carried.number ≡ splice ws₀ 0 (entry_words (insert e (entries count ws₀)))
    unfolding insert
    inserting_end n m h =
        ap₂ (λ l k. set (set l (2 * k) carried.index) (2 * k + 1) carried.number) i.words m
        ∙ words-next ws₀ i.done carried j i.size
        ∙ ap (λ l. splice ws₀ 0 (entry_words l)) (ap (λ l. i.done ++ insert carried l) (sym none) ∙ i.same)
      where
        none : drop j (entries count ws₀) ≡ []
        none = drop_of_length-le (entries count ws₀) {i = j} (omega (arith, length-table count (entry_at ws₀)))

-- words written over words of which there are no more
splice_over : (l : List ℕ) (new more : List ℕ) → length new ≤ length more → length more ≤ length l → splice (splice l 0 new) 0 more ≡ splice l 0 more
splice_over l new more h k =
    ap (splice (splice l 0 new) 0) (sym halves)
    ∙ sym (splice-append (splice l 0 new) 0 front back)
    ∙ ap (λ m. splice m (0 + length front) back) (splice_again 0 l 0 new front (sym size) (omega arith))
    ∙ splice-append l 0 front back
    ∙ ap (splice l 0) halves
  where
    front : List ℕ
    front = take (length new) more

    back : List ℕ
    back = drop (length new) more

    halves : front ++ back ≡ more
    halves = take-append-drop (length new) more

    size : length front ≡ length new
    size = length-take (length new) more ∙ omega arith

module _ (ws : List ℕ) (es : List Entry) (fits : 2 * length es ≤ length ws) where
  -- a word of an entry
  word_of : (i k : ℕ) → i < length es → k < 2 → get_or (splice ws 0 (entry_words es)) (2 * i + k) 0 ≡ get_or ((get_or es i (entry 0 0)).index ∷ (get_or es i (entry 0 0)).number ∷ []) k 0
  word_of i k h g =
      ap (λ j. get_or (splice ws 0 (entry_words es)) j 0) (sym (zero-add (2 * i + k)))
      ∙ get_or-splice-within ws 0 (entry_words es) (2 * i + k) 0 (omega (arith, length-words es)) (omega (arith, length-words es))
      ∙ sym (get_d_part 0 (entry_words es) (2 * i) 2 k g)
      ∙ ap (λ l. get_or l k 0) (part_flat_map (λ e. e.index ∷ e.number ∷ []) 2 (λ e. refl) es i (entry 0 0) h)

  -- entries that are stored are read back
  pub read_back : entries (length es) (splice ws 0 (entry_words es)) ≡ es
  read_back =
      sym (is_table (length es) es (entry_at (splice ws 0 (entry_words es))) (entry 0 0) refl
      (λ i h. sym (ap₂ entry (ap (λ j. get_or (splice ws 0 (entry_words es)) j 0) (sym (add-zero (2 * i))) ∙ word_of i 0 h (omega arith)) (word_of i 1 h (omega arith)))))

  -- an entry put among entries that are stored
  pub insert-stored : (e : Entry) (count : ℕ) → length es ≡ count → 2 * count + 2 ≤ length ws
      → splice (splice ws 0 (entry_words es)) 0 (entry_words (insert e (entries count (splice ws 0 (entry_words es))))) ≡ splice ws 0 (entry_words (insert e es))
  insert-stored e count h room =
      ap (λ l. splice (splice ws 0 (entry_words es)) 0 (entry_words (insert e l))) (ap (λ n. entries n (splice ws 0 (entry_words es))) (sym h) ∙ read_back)
      ∙ splice_over ws (entry_words es) (entry_words (insert e es))
      (omega (arith, length-words es, length-words (insert e es), length-insert e es))
      (omega (arith, length-words (insert e es), length-insert e es))
