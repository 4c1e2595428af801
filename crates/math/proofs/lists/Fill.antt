-- Runs of places in a list that are stored from the front, as a table.
use mathlib.Core.Path.{◌≡◌, sym, ap, ap₂, ◌∙◌}
use mathlib.Core.List.{List}
use Prim.Native.Nat.{ℕ, ◌+◌, ◌-◌, ◌≤◌, ◌<◌}
use native.Mathlib.Decide.{dec_lt}
use native.Mathlib.Nat.{zero-add}
use native.Mathlib.Omega.{arith}
use lib.ListN.{length, get_or, set}
use lib.Seq.{ext_get_or}
use Rattle.math.specs.lists.Table.{table}
use Rattle.math.specs.lists.Part.{splice}
use Rattle.math.proofs.lists.Table.{length-table, get_or-table, table_ext, table-suc, table_split, is_table}
use Rattle.math.proofs.lists.Splice.{length-splice, splice-next, splice-append, get_or-splice-before, get_or-splice-within, get_or-splice-after}

module _ {ℓ} {A : Type ℓ} where
  -- one more entry of a table stored after its first k
  pub splice-table-next : (l : List A) (at k : ℕ) (f : ℕ → A) (v : A) → v ≡ f k → set (splice l at (table k f)) (at + k) v ≡ splice l at (table (k + 1) f)
  splice-table-next l at k f v e =
      ap (λ j. set (splice l at (table k f)) (at + j) v) (sym (length-table k f))
      ∙ ap (set (splice l at (table k f)) (at + length (table k f))) e
      ∙ splice-next l at (table k f) (f k)
      ∙ ap (splice l at) (sym (table-suc k f))

  -- the same of a list that is known to hold them
  pub entry-stored : (l before : List A) (at k : ℕ) (f : ℕ → A) (v : A) → before ≡ splice l at (table k f) → v ≡ f k → set before (at + k) v ≡ splice l at (table (k + 1) f)
  entry-stored l before at k f v e is = ap (λ b. set b (at + k) v) e ∙ splice-table-next l at k f v is

  -- more entries of a table stored after its first k
  pub table_more : (l : List A) (at k n : ℕ) (f g : ℕ → A) → ((j : ℕ) → j < n → g j ≡ f (k + j)) → splice (splice l at (table k f)) (at + k) (table n g) ≡ splice l at (table (k + n) f)
  table_more l at k n f g h =
      ap₂ (λ p t. splice (splice l at (table k f)) (at + p) t) (sym (length-table k f)) (table_ext n g (λ j. f (k + j)) h)
      ∙ splice-append l at (table k f) (table n (λ j. f (k + j)))
      ∙ ap (splice l at) (sym (table_split k n f))

  -- an entry of the table where it is stored
  pub get_or-splice-table : (l : List A) (at n : ℕ) (f : ℕ → A) (k : ℕ) (d : A) → k < n → at + n ≤ length l → get_or (splice l at (table n f)) (at + k) d ≡ f k
  get_or-splice-table l at n f k d h w =
      let e : length (table n f) ≡ n = length-table n f in
      get_or-splice-within l at (table n f) k d (omega arith) (omega arith) ∙ get_or-table n f k d h

  -- what stands in the list, stored where it stands
  pub splice-table-same : (l : List A) (at n : ℕ) (d : A) → at + n ≤ length l → splice l at (table n (λ i. get_or l (at + i) d)) ≡ l
  splice-table-same l at n d w = ext_get_or d (splice l at stored) l (length-splice l at stored) (λ i h. each i (dec_lt i at) (dec_lt i (at + n)))
    where
      stored : List A
      stored = table n (λ i. get_or l (at + i) d)

      size : length stored ≡ n
      size = length-table n (λ i. get_or l (at + i) d)

      each : (i : ℕ) → Dec (i < at) → Dec (i < at + n) → get_or (splice l at stored) i d ≡ get_or l i d
      each i (yes b) c = get_or-splice-before l at stored i d b
      each i (no b) (yes c) =
          let place : i ≡ at + (i - at) = omega arith in
          ap (λ j. get_or (splice l at stored) j d) place
          ∙ get_or-splice-table l at n (λ i. get_or l (at + i) d) (i - at) d (omega arith) w
          ∙ ap (λ j. get_or l j d) (sym place)
      each i (no b) (no c) = get_or-splice-after l at stored i d (omega (arith, size))

  -- an entry that a table stored from the front has not reached is as it was
  pub unfilled : (l stored : List A) (k i : ℕ) (f : ℕ → A) (d : A) → stored ≡ splice l 0 (table k f) → k ≤ i → get_or stored i d ≡ get_or l i d
  unfilled l stored k i f d e h = ap (λ s. get_or s i d) e ∙ get_or-splice-after l 0 (table k f) i d (omega (arith, length-table k f))

  -- a list in which every entry was stored
  pub filled : (n m : ℕ) (l stored : List A) (f : ℕ → A) (d : A) → stored ≡ splice l 0 (table m f) → m ≡ n → length l ≡ n → stored ≡ table n f
  filled n m l stored f d e same room =
      is_table n stored f d (ap length e ∙ length-splice l 0 (table m f) ∙ room) (λ q h.
      ap (λ w. get_or w q d) e
      ∙ ap₂ (λ m p. get_or (splice l 0 (table m f)) p d) same (sym (zero-add q))
      ∙ get_or-splice-table l 0 n f q d h (omega arith))

-- a number with something added is the next entry of a table stored from the front
pub added-stored : (l stored : List ℕ) (k : ℕ) (f : ℕ → ℕ) (x : ℕ) → stored ≡ splice l 0 (table k f) → f k ≡ get_or l k 0 + x → set stored k (get_or stored k 0 + x) ≡ splice l 0 (table (k + 1) f)
added-stored l stored k f x e v =
    ap₂ (λ p y. set stored p (y + x)) (sym (zero-add k)) (unfilled l stored k k f 0 e (omega arith)) ∙ entry-stored l stored 0 k f (get_or l k 0 + x) e (sym v)
