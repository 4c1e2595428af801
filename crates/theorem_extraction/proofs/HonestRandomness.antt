-- Randomness with a sign word flipped: what is before the sign words stays, and one challenge changes.
use mathlib.Core.Path.{◌≡◌, refl, sym, ap, ap₂, subst₂, ◌∙◌}
use mathlib.Core.List.{List}
use mathlib.Core.Logic.{◌≢◌}
use Prim.Native.Nat.{ℕ, ◌+◌, ◌*◌, ◌≤◌, ◌<◌}
use native.Mathlib.Decide.{ℕ_discrete}
use native.Mathlib.Omega.{arith}
use lib.ListN.{length, get_or, set, take, length-set}
use lib.Seq.{get_or-set_same, get_or-set_other, take-set-le, ext_get_or}
use Rattle.math.proofs.lists.Prefix.{get_or_alike, part_alike}
use Rattle.math.proofs.lists.Splice.{length_part, get_d_part, part_ext}
use Rattle.math.proofs.lists.Rows.{index_below}
use Rattle.spec_leaves.specs.Ring.{element}
use Rattle.spec_leaves.specs.Projection.{entry}
use Rattle.spec_leaves.specs.Challenge.{challenge}
use Rattle.spec_protocol.specs.Parameters.{parameters}
use Rattle.spec_protocol.specs.Layout.{part, span, start, randomness_sections}
use Rattle.spec_protocol.specs.Views.{public}
use Rattle.spec_protocol.proofs.Alike.{upto}
use Rattle.theorem_extraction.specs.Fork.{SameΠ, SamePsi, SameOmega, SameAlpha, SameWeights, Node, base, first, second, mixed}
use Rattle.theorem_extraction.specs.Honest.{other_sign, flipped, sign_place, flipped_at, UnitDifferences}
use Rattle.theorem_extraction.proofs.HonestSigns.{flipped-sign_units}

-- a flipped word: the length, the words elsewhere and the word there
length-flipped : (p : ℕ) (R : List ℕ) → length (flipped p R) ≡ length R
unfolding flipped
length-flipped p R = length-set R p (other_sign (get_or R p 0))

flipped_other : (p : ℕ) (R : List ℕ) (i : ℕ) → i ≢ p → get_or (flipped p R) i 0 ≡ get_or R i 0
unfolding flipped
flipped_other p R i d = get_or-set_other R p i (other_sign (get_or R p 0)) 0 d

flipped_there : (p : ℕ) (R : List ℕ) → p < length R → get_or (flipped p R) p 0 ≡ other_sign (get_or R p 0)
unfolding flipped
flipped_there p R h = get_or-set_same R p (other_sign (get_or R p 0)) 0 h

-- a part that has not the place where a word is stored
pub stored_elsewhere : (p v : ℕ) (R : List ℕ) (from n : ℕ) → ((i : ℕ) → from ≤ i → i < from + n → i ≢ p) → part (set R p v) from n ≡ part R from n
stored_elsewhere p v R from n apart = part_ext 0 (set R p v) R from n (length-set R p v) (λ i h l. get_or-set_other R p i v 0 (apart i h l))

part_elsewhere : (p : ℕ) (R : List ℕ) (from n : ℕ) → ((i : ℕ) → from ≤ i → i < from + n → i ≢ p) → part (flipped p R) from n ≡ part R from n
unfolding flipped
part_elsewhere p R from n apart = stored_elsewhere p (other_sign (get_or R p 0)) R from n apart

-- a part that has it
part-flipped : (R : List ℕ) (from n j : ℕ) → j < n → from + n ≤ length R → part (flipped (from + j) R) from n ≡ flipped j (part R from n)
part-flipped R from n j h l =
    ext_get_or 0 (part (flipped (from + j) R) from n) (flipped j (part R from n)) (size ∙ sym (length-flipped j (part R from n) ∙ old)) (λ i m.
    get_d_part 0 (flipped (from + j) R) from n i (omega (arith, m, size)) ∙ go i (omega (arith, m, size)) (ℕ_discrete i j))
  where
    old : length (part R from n) ≡ n
    old = length_part R from n l

    size : length (part (flipped (from + j) R) from n) ≡ n
    size = length_part (flipped (from + j) R) from n (omega (arith, length-flipped (from + j) R))

    go : (i : ℕ) → i < n → Dec (i ≡ j) → get_or (flipped (from + j) R) (from + i) 0 ≡ get_or (flipped j (part R from n)) i 0
    go i m (yes e) =
        ap (λ k. get_or (flipped (from + j) R) (from + k) 0) e
        ∙ flipped_there (from + j) R (omega arith)
        ∙ ap other_sign (sym (get_d_part 0 R from n j h))
        ∙ sym (ap (λ k. get_or (flipped j (part R from n)) k 0) e ∙ flipped_there j (part R from n) (omega (arith, old)))
    go i m (no d) =
        flipped_other (from + j) R (from + i) (λ e. d (omega arith))
        ∙ sym (flipped_other j (part R from n) i d ∙ get_d_part 0 R from n i m)

-- randomness that begins alike
module _ (J R R' : List ℕ) (N : ℕ) (alike : take N R ≡ take N R') where
  open parameters J use {n, r, K, l, L}

  abbrev of : ℕ → ℕ
  of = start (randomness_sections (parameters J))

  word : (i : ℕ) → i < N → get_or R i 0 ≡ get_or R' i 0
  word i = get_or_alike N R R' alike i 0

  -- for a section
  pub alike_Π : upto (parameters J) 1 ≤ N → SameΠ (public J R) (public J R')
  unfolding span start
  alike_Π within i j m hi hj hm = ap entry (word (of 0 + ((i * 256 + j) * (64 * n) + m)) (omega (arith, index_below (r * 256) (64 * n) (i * 256 + j) m (index_below r 256 i j hi hj) hm)))

  -- for two
  pub alike_psi : upto (parameters J) 2 ≤ N → (k : ℕ) → k < L → SamePsi (public J R) (public J R') k
  unfolding span start
  alike_psi within k hk x hx = word (of 1 + (k * l + x)) (omega (arith, index_below L l k x hk hx))

  -- for three
  pub alike_omega : upto (parameters J) 3 ≤ N → (k : ℕ) → k < L → SameOmega (public J R) (public J R') k
  unfolding span start
  alike_omega within k hk j hj = word (of 2 + (k * 256 + j)) (omega (arith, index_below L 256 k j hk hj))

  -- for four
  pub alike_alpha : upto (parameters J) 4 ≤ N → SameAlpha (public J R) (public J R')
  unfolding span start
  alike_alpha within k hk = ap element (part_alike N R R' alike (of 3 + 64 * k) 64 (omega arith))

  -- for five
  pub alike_weights : upto (parameters J) 5 ≤ N → SameWeights (public J R) (public J R')
  unfolding span start
  alike_weights within = record {
    same_Π = alike_Π (omega arith);
    same_psi = alike_psi (omega arith);
    same_omega = alike_omega (omega arith);
    same_alpha = alike_alpha (omega arith);
    same_beta = λ k hk. ap element (part_alike N R R' alike (of 4 + 64 * k) 64 (omega arith));
  }

module _ (J : List ℕ) where
  open parameters J use {r}

  -- the words before the sign words stay
  flipped_alike : (R : List ℕ) (i j : ℕ) → take (upto (parameters J) 5) (flipped (sign_place (parameters J) i j) R) ≡ take (upto (parameters J) 5) R
  unfolding flipped span start
  flipped_alike R i j = take-set-le (upto (parameters J) 5) R (sign_place (parameters J) i j) (other_sign (get_or R (sign_place (parameters J) i j) 0)) (omega arith)

  pub node_alike : (R : List ℕ) (v : Node) → take (upto (parameters J) 5) R ≡ take (upto (parameters J) 5) (flipped_at (parameters J) R v)
  unfolding flipped_at
  node_alike R base = refl
  node_alike R (first i) = sym (flipped_alike R i _)
  node_alike R (second i) = sym (flipped_alike R i _)
  node_alike R (mixed i j) = sym (flipped_alike (flipped (sign_place (parameters J) i 0) R) j 0 ∙ flipped_alike R i 0)

  -- the sign words and the shuffle words of challenge k
  abbrev signs_of : List ℕ → ℕ → List ℕ
  signs_of R k = part R (start (randomness_sections (parameters J)) 5 + 41 * k) 41

  abbrev shuffles_of : List ℕ → ℕ → List ℕ
  shuffles_of R k = part R (start (randomness_sections (parameters J)) 6 + 63 * k) 63

  -- those of another challenge stay
  signs_stay : (R : List ℕ) (i j k : ℕ) → j < 41 → k ≢ i → signs_of (flipped (sign_place (parameters J) i j) R) k ≡ signs_of R k
  signs_stay R i j k h d =
      part_elsewhere (sign_place (parameters J) i j) R (start (randomness_sections (parameters J)) 5 + 41 * k) 41 (λ m a b e. d (omega arith))

  shuffles_stay : (R : List ℕ) (i j k : ℕ) → j < 41 → i < r → shuffles_of (flipped (sign_place (parameters J) i j) R) k ≡ shuffles_of R k
  unfolding start
  shuffles_stay R i j k h l =
      part_elsewhere (sign_place (parameters J) i j) R (start (randomness_sections (parameters J)) 6 + 63 * k) 63 (λ m a b e. omega arith)

  pub challenge_stays : (R : List ℕ) (i j k : ℕ) → j < 41 → i < r → k ≢ i → (public J (flipped (sign_place (parameters J) i j) R)).c k ≡ (public J R).c k
  challenge_stays R i j k h l d = ap₂ (λ a b. element (challenge a b)) (signs_stay R i j k h d) (shuffles_stay R i j k h l)

  -- that of the challenge is flipped
  pub challenge-flipped : (R : List ℕ) (i j : ℕ) → j < 41 → i < r → length R ≡ span (randomness_sections (parameters J))
      → (public J (flipped (sign_place (parameters J) i j) R)).c i ≡ element (challenge (flipped j (signs_of R i)) (shuffles_of R i))
  unfolding start span
  challenge-flipped R i j h l size =
      ap₂ (λ a b. element (challenge a b)) (part-flipped R (start (randomness_sections (parameters J)) 5 + 41 * i) 41 j h (omega arith)) (shuffles_stay R i j i h l)

  -- so it is with another challenge flipped before
  pub challenge_again : (R : List ℕ) (i j : ℕ) → i < j → j < r → length R ≡ span (randomness_sections (parameters J))
      → (public J (flipped (sign_place (parameters J) j 0) (flipped (sign_place (parameters J) i 0) R))).c j ≡ (public J (flipped (sign_place (parameters J) j 0) R)).c j
  challenge_again R i j h l size =
      challenge-flipped (flipped (sign_place (parameters J) i 0) R) j 0 (omega arith) l (length-flipped (sign_place (parameters J) i 0) R ∙ size)
      ∙ ap₂ (λ a b. element (challenge (flipped 0 a) b)) (signs_stay R i 0 j (omega arith) (apart i j h)) (shuffles_stay R i 0 j (omega arith) (omega arith))
      ∙ sym (challenge-flipped R j 0 (omega arith) l size)
    where
      apart : (i j : ℕ) → i < j → j ≢ i
      apart i j h = omega arith

  -- the differences are units
  pub units_at : (R : List ℕ) (i : ℕ) → i < r → length R ≡ span (randomness_sections (parameters J))
      → UnitDifferences ((public J R).c i) ((public J (flipped_at (parameters J) R (first i))).c i) ((public J (flipped_at (parameters J) R (second i))).c i)
  unfolding flipped_at start span
  units_at R i h size =
      subst₂ (UnitDifferences ((public J R).c i)) (sym (challenge-flipped R i 0 (omega arith) h size)) (sym (challenge-flipped R i 1 (omega arith) h size))
      (flipped-sign_units (signs_of R i) (shuffles_of R i) 0 1 (omega arith) (omega arith) (omega arith) (length_part R (start (randomness_sections (parameters J)) 5 + 41 * i) 41 (omega arith)))
