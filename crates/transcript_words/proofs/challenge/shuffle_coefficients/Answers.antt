use mathlib.Core.Path.{◌≡◌, refl, ◌∙◌, ap, ap₂}
use mathlib.Core.List.{List, [], ◌∷◌}
use Prim.Native.Nat.{ℕ, ◌+◌, ◌-◌, ◌%◌, ◌<◌}
use native.Mathlib.Numerals.{add-one}
use native.Mathlib.Omega.{arith}
use borrow.Author.Rules.{rules}
use lib.ListN.{length, get_or, set}
use Rattle.std.specs.Prelude.{swap as swap_of}
use Rattle.std.proofs.lemmas.List.{get_or_default}
use Rattle.spec_leaves.specs.Challenge.{swap, swaps, shuffle}
use Rattle.transcript_words.proofs.challenge.shuffle_coefficients.Goals as goal

-- swap k of a list that has the swaps before it
next-swap : (words a₀ a : List ℕ) (k j : ℕ) → a ≡ swaps words k a₀ → j ≡ get_or words k 0 % (63 - k + 1) → swap a (63 - k) j ≡ swaps words (k + 1) a₀
unfolding swaps
next-swap words a₀ a k j e h = rw (add-one k) (ap₂ (λ l i. swap l (63 - k) i) e h)

-- after 63 swaps the list is shuffled
all_swapped : (words a₀ a : List ℕ) (k : ℕ) → a ≡ swaps words k a₀ → k ≡ 63 → a ≡ shuffle words a₀
unfolding shuffle
all_swapped words a₀ a k e n = e ∙ ap (λ m. swaps words m a₀) n

-- a swap of the slice is the definition's
swapped : (a after : List ℕ) (i j : ℕ) → i < length a → j < length a → after ≡ swap_of a i j → after ≡ swap a i j
swapped [] after i j hi hj e = absurd (omega arith)
swapped (x ∷ xs) after i j hi hj e =
    e ∙ ap₂ (λ p q. set (set (x ∷ xs) i p) j q) (get_or_default (x ∷ xs) j x 0 hj) (get_or_default (x ∷ xs) i x 0 hi)

pub loop-k-init : goal.loop-k-init
unfolding swaps
loop-k-init c = (omega arith, refl)

pub loop-k-preserved : goal.loop-k-preserved
loop-k-preserved c =
    let l = c.loop-k in
    let size : length l.a ≡ 64 = search rules in
    let j = c.place.ensures in (
      omega arith,
      swapped l.a _ (63 - l.k) c.place.result (omega arith) (omega arith) c.swap.ensures.after ∙ next-swap _ _ l.a l.k c.place.result l.invariant.1 j.0,
    )

pub returns : goal.returns
returns c = all_swapped _ _ _ _ c.loop-k.invariant.1 (omega arith)
