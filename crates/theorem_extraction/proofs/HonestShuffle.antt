-- Where the shuffle puts a coefficient: lists that differ at one place differ after it at one place.
use mathlib.Core.Path.{◌≡◌, refl, sym, ap, ◌∙◌}
use mathlib.Core.Bool.{Bool, true, false, cond}
use mathlib.Core.List.{List}
use mathlib.Core.Logic.{◌≢◌}
use Prim.Native.Nat.{ℕ, zero, suc, ◌+◌, ◌-◌, ◌%◌, ◌<◌}
use native.Mathlib.Nat.{mod-lt}
use native.Mathlib.Decide.{ℕ_discrete}
use native.Mathlib.Omega.{arith}
use lib.Dec.{eqb}
use lib.ListN.{length, get_or, set}
use lib.Seq.{lt-length-set, get_or-set_same, get_or-set_other}
use borrow.Author.Tests.{eq-eqb, ne_eqb}
use Rattle.spec_leaves.specs.Challenge.{swap, swaps, shuffle}
use Rattle.spec_leaves.proofs.Challenge.{length-swaps}

-- i and j exchanged, any other number as it is
exchange : ℕ → ℕ → ℕ → ℕ
exchange i j k = cond (eqb k i) j (cond (eqb k j) i k)

exchange_first : (i j k : ℕ) → k ≡ i → exchange i j k ≡ j
unfolding exchange
exchange_first i j k e = ap (λ t. cond t j (cond (eqb k j) i k)) (eq-eqb k i e)

exchange_second : (i j k : ℕ) → k ≡ j → exchange i j k ≡ i
unfolding exchange
exchange_second i j k e = go (ℕ_discrete k i)
  where
    go : Dec (k ≡ i) → cond (eqb k i) j (cond (eqb k j) i k) ≡ i
    go (yes f) = ap (λ t. cond t j (cond (eqb k j) i k)) (eq-eqb k i f) ∙ sym e ∙ f
    go (no d) = ap (λ t. cond t j (cond (eqb k j) i k)) (ne_eqb k i d) ∙ ap (λ t. cond t i k) (eq-eqb k j e)

exchange_other : (i j k : ℕ) → k ≢ i → k ≢ j → exchange i j k ≡ k
unfolding exchange
exchange_other i j k d e = ap (λ t. cond t j (cond (eqb k j) i k)) (ne_eqb k i d) ∙ ap (λ t. cond t i k) (ne_eqb k j e)

exchange_twice : (i j k : ℕ) → exchange i j (exchange i j k) ≡ k
exchange_twice i j k = go (ℕ_discrete k i) (ℕ_discrete k j)
  where
    go : Dec (k ≡ i) → Dec (k ≡ j) → exchange i j (exchange i j k) ≡ k
    go (yes e) f = exchange_second i j (exchange i j k) (exchange_first i j k e) ∙ sym e
    go (no d) (yes f) = exchange_first i j (exchange i j k) (exchange_second i j k f) ∙ sym f
    go (no d) (no f) = ap (exchange i j) (exchange_other i j k d f) ∙ exchange_other i j k d f

exchange_below : (n i j k : ℕ) → i < n → j < n → k < n → exchange i j k < n
unfolding exchange
exchange_below n i j k h l m = go (eqb k i) (eqb k j)
  where
    go : (s t : Bool) → cond s j (cond t i k) < n
    go true t = l
    go false true = h
    go false false = m

-- the value at a place after a swap
get_or-swap : (a : List ℕ) (i j k : ℕ) → i < length a → j < length a → get_or (swap a i j) k 0 ≡ get_or a (exchange i j k) 0
get_or-swap a i j k h l = go (ℕ_discrete k j) (ℕ_discrete k i)
  where
    b : List ℕ
    b = set a i (get_or a j 0)

    go : Dec (k ≡ j) → Dec (k ≡ i) → get_or (set b j (get_or a i 0)) k 0 ≡ get_or a (exchange i j k) 0
    go (yes e) f =
        ap (λ m. get_or (set b j (get_or a i 0)) m 0) e
        ∙ get_or-set_same b j (get_or a i 0) 0 (lt-length-set a i (get_or a j 0) l)
        ∙ ap (λ m. get_or a m 0) (sym (exchange_second i j k e))
    go (no d) (yes f) =
        get_or-set_other b j k (get_or a i 0) 0 d
        ∙ ap (λ m. get_or b m 0) f
        ∙ get_or-set_same a i (get_or a j 0) 0 h
        ∙ ap (λ m. get_or a m 0) (sym (exchange_first i j k f))
    go (no d) (no f) =
        get_or-set_other b j k (get_or a i 0) 0 d
        ∙ get_or-set_other a i k (get_or a j 0) 0 f
        ∙ ap (λ m. get_or a m 0) (sym (exchange_other i j k f d))

module _ (words : List ℕ) where
  -- what swap k exchanges 63 − k with
  abbrev partner : ℕ → ℕ
  partner k = get_or words k 0 % (63 - k + 1)

  partner_below : (k : ℕ) → partner k < 64
  partner_below k = omega (arith, mod-lt (get_or words k 0) {m = 63 - k + 1} (omega arith))

  -- where the value at place p is after the first k swaps
  place_after : ℕ → ℕ → ℕ
  place_after zero p = p
  place_after (suc k) p = exchange (63 - k) (partner k) (place_after k p)

  place-below : (k p : ℕ) → p < 64 → place_after k p < 64
  unfolding place_after
  place-below zero p h = h
  place-below (suc k) p h = exchange_below 64 (63 - k) (partner k) (place_after k p) (omega arith) (partner_below k) (place-below k p h)

  place_apart : (k p q : ℕ) → place_after k p ≡ place_after k q → p ≡ q
  unfolding place_after
  place_apart zero p q e = e
  place_apart (suc k) p q e =
      place_apart k p q
      (sym (exchange_twice (63 - k) (partner k) (place_after k p)) ∙ ap (exchange (63 - k) (partner k)) e ∙ exchange_twice (63 - k) (partner k) (place_after k q))

  -- the value at a place after one more swap
  next-swap : (a : List ℕ) (k i : ℕ) → length a ≡ 64 → get_or (swaps words (suc k) a) i 0 ≡ get_or (swaps words k a) (exchange (63 - k) (partner k) i) 0
  unfolding swaps
  next-swap a k i e =
      let size : length (swaps words k a) ≡ 64 = length-swaps words k a ∙ e in
      get_or-swap (swaps words k a) (63 - k) (partner k) i (omega arith) (omega (arith, partner_below k))

  -- the value at place p is there
  at_place : (a : List ℕ) (p k : ℕ) → length a ≡ 64 → get_or (swaps words k a) (place_after k p) 0 ≡ get_or a p 0
  unfolding place_after swaps
  at_place a p zero e = refl
  at_place a p (suc k) e =
      next-swap a k (place_after (suc k) p) e
      ∙ ap (λ m. get_or (swaps words k a) m 0) (exchange_twice (63 - k) (partner k) (place_after k p))
      ∙ at_place a p k e

  -- lists that are the same elsewhere are the same elsewhere after it
  elsewhere : (a b : List ℕ) (p : ℕ) → length a ≡ 64 → length b ≡ 64 → ((i : ℕ) → i < 64 → i ≢ p → get_or a i 0 ≡ get_or b i 0)
      → (k i : ℕ) → i < 64 → i ≢ place_after k p → get_or (swaps words k a) i 0 ≡ get_or (swaps words k b) i 0
  unfolding place_after swaps
  elsewhere a b p e f same zero i h d = same i h d
  elsewhere a b p e f same (suc k) i h d =
      next-swap a k i e
      ∙ elsewhere a b p e f same k (exchange (63 - k) (partner k) i) (exchange_below 64 (63 - k) (partner k) i (omega arith) (partner_below k) h)
      (λ q. d (sym (exchange_twice (63 - k) (partner k) i) ∙ ap (exchange (63 - k) (partner k)) q))
      ∙ sym (next-swap b k i f)

  -- all swaps: the place, and the same facts of the shuffle
  pub shuffled_place : ℕ → ℕ
  shuffled_place = place_after 63

  pub shuffled_below : (p : ℕ) → p < 64 → shuffled_place p < 64
  unfolding shuffled_place
  shuffled_below = place-below 63

  pub shuffled_apart : (p q : ℕ) → shuffled_place p ≡ shuffled_place q → p ≡ q
  unfolding shuffled_place
  shuffled_apart = place_apart 63

  pub shuffled_at : (a : List ℕ) (p : ℕ) → length a ≡ 64 → get_or (shuffle words a) (shuffled_place p) 0 ≡ get_or a p 0
  unfolding shuffled_place shuffle
  shuffled_at a p e = at_place a p 63 e

  pub shuffled_elsewhere : (a b : List ℕ) (p : ℕ) → length a ≡ 64 → length b ≡ 64 → ((i : ℕ) → i < 64 → i ≢ p → get_or a i 0 ≡ get_or b i 0)
      → (i : ℕ) → i < 64 → i ≢ shuffled_place p → get_or (shuffle words a) i 0 ≡ get_or (shuffle words b) i 0
  unfolding shuffled_place shuffle
  shuffled_elsewhere a b p e f same = elsewhere a b p e f same 63
