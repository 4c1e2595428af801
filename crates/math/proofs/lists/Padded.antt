-- Laws of `padded`: what a loop that fills a list from the front keeps.
use mathlib.Core.Path.{◌≡◌, sym, ap, ◌∙◌}
use mathlib.Core.Logic.{◌≢◌}
use mathlib.Core.Bool.{cond}
use mathlib.Core.List.{List}
use Prim.Native.Nat.{ℕ, ◌+◌, ◌≤◌, ◌<◌}
use native.Mathlib.Decide.{dec_lt, ℕ_discrete}
use native.Mathlib.Omega.{arith}
use borrow.Author.Tests.{lt-ltb, le-ltb}
use lib.Dec.{ltb}
use lib.ListN.{length, get_or, set, replicate, length-set, length-replicate, get_or-replicate}
use lib.Seq.{get_or-set_same, get_or-set_other}
use Rattle.math.specs.lists.Table.{table, padded}
use Rattle.math.proofs.lists.Table.{length-table, get_or-table, table_ext, is_table}

module _ {ℓ} {A : Type ℓ} (n : ℕ) (d : A) (f : ℕ → A) where
  -- it has n entries
  pub length-padded : (k : ℕ) → length (padded n k d f) ≡ n
  unfolding padded
  length-padded k = length-table n (λ i. cond (ltb i k) (f i) d)

  -- an entry below k is f's
  pub padded-below : (k i : ℕ) → i < n → i < k → get_or (padded n k d f) i d ≡ f i
  unfolding padded
  padded-below k i l h = get_or-table n (λ i. cond (ltb i k) (f i) d) i d l ∙ ap (λ b. cond b (f i) d) (lt-ltb i k h)

  -- an entry from k on is d
  pub padded_past : (k i : ℕ) → i < n → k ≤ i → get_or (padded n k d f) i d ≡ d
  unfolding padded
  padded_past k i l h = get_or-table n (λ i. cond (ltb i k) (f i) d) i d l ∙ ap (λ b. cond b (f i) d) (le-ltb i k h)

  -- none of f's entries
  pub padded-none : replicate n d ≡ padded n 0 d f
  unfolding padded
  padded-none =
      is_table n (replicate n d) (λ i. cond (ltb i 0) (f i) d) d (length-replicate n d)
      (λ i l. get_or-replicate n i d d l ∙ sym (ap (λ b. cond b (f i) d) (le-ltb i 0 (omega arith))))

  -- all of f's entries
  pub padded-all : padded n n d f ≡ table n f
  unfolding padded
  padded-all = table_ext n (λ i. cond (ltb i n) (f i) d) f (λ i l. ap (λ b. cond b (f i) d) (lt-ltb i n l))

  -- the list after the last entry is stored
  pub padded_done : (l : List A) (k : ℕ) → l ≡ padded n k d f → k ≡ n → l ≡ table n f
  padded_done l k e same = e ∙ ap (λ j. padded n j d f) same ∙ padded-all

  -- one more entry stored
  stored_next : (k : ℕ) (v : A) → k < n → v ≡ f k → set (padded n k d f) k v ≡ padded n (k + 1) d f
  unfolding padded
  stored_next k v h e =
      is_table n (set (padded n k d f) k v) (λ i. cond (ltb i (k + 1)) (f i) d) d (length-set (padded n k d f) k v ∙ length-padded k) at
    where
      stored : get_or (set (padded n k d f) k v) k d ≡ v
      stored = let l : k < length (padded n k d f) = rw (length-padded k) h in get_or-set_same (padded n k d f) k v d l

      other : (i : ℕ) → i < n → i ≢ k → Dec (i < k) → get_or (padded n k d f) i d ≡ cond (ltb i (k + 1)) (f i) d
      other i l ne (yes lt) = padded-below k i l lt ∙ sym (ap (λ b. cond b (f i) d) (lt-ltb i (k + 1) (omega arith)))
      other i l ne (no ge) = padded_past k i l (omega arith) ∙ sym (ap (λ b. cond b (f i) d) (le-ltb i (k + 1) (omega arith)))

      by : (i : ℕ) → i < n → Dec (i ≡ k) → get_or (set (padded n k d f) k v) i d ≡ cond (ltb i (k + 1)) (f i) d
      by i l (yes same) = ap (λ j. get_or (set (padded n k d f) k v) j d) same ∙ stored ∙ e ∙ ap f (sym same) ∙ sym (ap (λ b. cond b (f i) d) (lt-ltb i (k + 1) (omega arith)))
      by i l (no ne) = get_or-set_other (padded n k d f) k i v d ne ∙ other i l ne (dec_lt i k)

      at : (i : ℕ) → i < n → get_or (set (padded n k d f) k v) i d ≡ cond (ltb i (k + 1)) (f i) d
      at i l = by i l (ℕ_discrete i k)

  -- one more entry stored in a list that holds the entries before it
  pub padded-next : (l : List A) (k : ℕ) (v : A) → l ≡ padded n k d f → k < n → v ≡ f k → set l k v ≡ padded n (k + 1) d f
  padded-next l k v before h e = ap (λ l'. set l' k v) before ∙ stored_next k v h e
