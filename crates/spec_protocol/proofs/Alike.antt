-- Two slices of randomness that begin alike: the views and formulas that read no further are the same.
use mathlib.Core.Path.{◌≡◌, refl, ap, ap₂}
use mathlib.Core.List.{List}
use Prim.Native.Nat.{ℕ, ◌+◌, ◌*◌, ◌%◌, ◌≤◌, ◌<◌}
use native.Mathlib.Omega.{arith}
use lib.ListN.{get_or, take}
use Rattle.math.proofs.lists.Table.{table_ext}
use Rattle.math.proofs.lists.Sum.{Σ_ext}
use Rattle.math.proofs.lists.Prefix.{get_or_alike, part_alike}
use Rattle.math.proofs.lists.Rows.{index_below}
use Rattle.math.proofs.algebra.Sum.{sum_ext}
use Rattle.math.proofs.algebra.Dot.{dot_ext}
use Rattle.math.proofs.algebra.Form.{form_ext}
use Rattle.spec_leaves.specs.Zq.{Q}
use Rattle.spec_leaves.specs.Rq.{Element}
use Rattle.spec_leaves.specs.Ring.{RqOps, element, scale, conj}
use Rattle.spec_leaves.specs.Projection.{entry}
use Rattle.spec_leaves.specs.Challenge.{challenge}
use Rattle.spec_protocol.specs.Parameters.{Parameters, parameters}
use Rattle.spec_protocol.specs.Layout.{part, span, start, randomness_sections}
use Rattle.spec_protocol.specs.Views.{public}
use Rattle.spec_protocol.specs.Formulas as F
use Rattle.spec_protocol.specs.Formulas.{◌⊕◌, ◌⊗◌, coefficient}

-- the words of the first m sections of randomness, counts included
abbrev pub upto : Parameters → ℕ → ℕ
upto P m = span (take m (randomness_sections P))

module _ (P : Parameters) (R R' : List ℕ) (N : ℕ) (alike : take N R ≡ take N R') where
  open P use {n, r, K, l, L}

  -- the projection's words
  Π-word : upto P 1 ≤ N → (i j m : ℕ) → i < r → j < 256 → m < 64 * n
      → get_or R (start (randomness_sections P) 0 + ((i * 256 + j) * (64 * n) + m)) 0 ≡ get_or R' (start (randomness_sections P) 0 + ((i * 256 + j) * (64 * n) + m)) 0
  unfolding span start
  Π-word within i j m hi hj hm =
      get_or_alike N R R' alike (start (randomness_sections P) 0 + ((i * 256 + j) * (64 * n) + m)) 0
      (omega (arith, index_below (r * 256) (64 * n) (i * 256 + j) m (index_below r 256 i j hi hj) hm))

  -- psi's words
  psi-word : upto P 3 ≤ N → (k x : ℕ) → k < L → x < l
      → get_or R (start (randomness_sections P) 1 + (k * l + x)) 0 ≡ get_or R' (start (randomness_sections P) 1 + (k * l + x)) 0
  unfolding span start
  psi-word within k x hk hx = get_or_alike N R R' alike (start (randomness_sections P) 1 + (k * l + x)) 0 (omega (arith, index_below L l k x hk hx))

  -- omega's words
  omega-word : upto P 3 ≤ N → (k j : ℕ) → k < L → j < 256
      → get_or R (start (randomness_sections P) 2 + (k * 256 + j)) 0 ≡ get_or R' (start (randomness_sections P) 2 + (k * 256 + j)) 0
  unfolding span start
  omega-word within k j hk hj = get_or_alike N R R' alike (start (randomness_sections P) 2 + (k * 256 + j)) 0 (omega (arith, index_below L 256 k j hk hj))

  -- alpha's words
  alpha-words : upto P 5 ≤ N → (k : ℕ) → k < K → part R (start (randomness_sections P) 3 + 64 * k) 64 ≡ part R' (start (randomness_sections P) 3 + 64 * k) 64
  unfolding span start
  alpha-words within k hk = part_alike N R R' alike (start (randomness_sections P) 3 + 64 * k) 64 (omega arith)

  -- beta's words
  beta-words : upto P 5 ≤ N → (k : ℕ) → k < L → part R (start (randomness_sections P) 4 + 64 * k) 64 ≡ part R' (start (randomness_sections P) 4 + 64 * k) 64
  unfolding span start
  beta-words within k hk = part_alike N R R' alike (start (randomness_sections P) 4 + 64 * k) 64 (omega arith)

  -- a challenge's sign words
  sign_words_lem : upto P 7 ≤ N → (i : ℕ) → i < r → part R (start (randomness_sections P) 5 + 41 * i) 41 ≡ part R' (start (randomness_sections P) 5 + 41 * i) 41
  unfolding span start
  sign_words_lem within i hi = part_alike N R R' alike (start (randomness_sections P) 5 + 41 * i) 41 (omega arith)

  -- a challenge's shuffle words
  shuffle-words : upto P 7 ≤ N → (i : ℕ) → i < r → part R (start (randomness_sections P) 6 + 63 * i) 63 ≡ part R' (start (randomness_sections P) 6 + 63 * i) 63
  unfolding span start
  shuffle-words within i hi = part_alike N R R' alike (start (randomness_sections P) 6 + 63 * i) 63 (omega arith)

-- what holds three sections holds one
three-hold-one : (P : Parameters) (N : ℕ) → upto P 3 ≤ N → upto P 1 ≤ N
unfolding span
three-hold-one P N h = omega arith

-- what holds five sections holds three
five_hold_three : (P : Parameters) (N : ℕ) → upto P 5 ≤ N → upto P 3 ≤ N
unfolding span
five_hold_three P N h = omega arith

module _ (J R R' : List ℕ) (N : ℕ) (alike : take N R ≡ take N R') where
  open parameters J use {n, r, K, l, L}

  -- a row of a projection matrix
  Π_row_alike : upto (parameters J) 1 ≤ N → (i j m : ℕ) → i < r → j < 256 → m < n → F.Π_row (public J R) i j m ≡ F.Π_row (public J R') i j m
  unfolding F.Π_row
  Π_row_alike within i j m hi hj hm =
      ap element (table_ext 64 (λ q. (public J R).Π i j (64 * m + q)) (λ q. (public J R').Π i j (64 * m + q))
      (λ q hq. ap entry (Π-word (parameters J) R R' N alike within i j (64 * m + q) hi hj (omega arith))))

  -- "φ''_k,i"
  φ''_alike : upto (parameters J) 3 ≤ N → (k i m : ℕ) → k < L → i < r → m < n → F.φ'' (public J R) k i m ≡ F.φ'' (public J R') k i m
  unfolding F.φ''
  φ''_alike within k i m hk hi hm =
      ap₂ ◌⊕◌
      (sum_ext RqOps l (λ x. scale ((public J R).φ' x i m) ((public J R).psi k x)) (λ x. scale ((public J R').φ' x i m) ((public J R').psi k x))
      (λ x hx. ap (scale ((public J R).φ' x i m)) (psi-word (parameters J) R R' N alike within k x hk hx)))
      (sum_ext RqOps 256 (λ j. scale (conj (F.Π_row (public J R) i j m)) ((public J R).omega k j)) (λ j. scale (conj (F.Π_row (public J R') i j m)) ((public J R').omega k j))
      (λ j hj. ap₂ (λ e c. scale (conj e) c) (Π_row_alike (three-hold-one (parameters J) N within) i j m hi hj hm) (omega-word (parameters J) R R' N alike within k j hk hj)))

  -- "Alpha weighs the ring constraints and beta the doubled-prime ones into […] φ"
  φ_sum_alike : upto (parameters J) 5 ≤ N → (i m : ℕ) → i < r → m < n → F.φ_sum (public J R) i m ≡ F.φ_sum (public J R') i m
  unfolding F.φ_sum
  φ_sum_alike within i m hi hm =
      ap₂ ◌⊕◌
      (sum_ext RqOps K (λ k. (public J R).alpha k ⊗ (public J R).φ k i m) (λ k. (public J R').alpha k ⊗ (public J R').φ k i m)
      (λ k hk. ap (λ e. element e ⊗ (public J R).φ k i m) (alpha-words (parameters J) R R' N alike within k hk)))
      (sum_ext RqOps L (λ k. (public J R).beta k ⊗ F.φ'' (public J R) k i m) (λ k. (public J R').beta k ⊗ F.φ'' (public J R') k i m)
      (λ k hk. ap₂ (λ e f. element e ⊗ f) (beta-words (parameters J) R R' N alike within k hk) (φ''_alike (five_hold_three (parameters J) N within) k i m hk hi hm)))

  module _ (s : ℕ → ℕ → Element) where
    -- "u1" reads no randomness
    pub u₁-same : F.u₁ (public J R) s ≡ F.u₁ (public J R') s
    unfolding F.u₁ F.u₁_of F.t F.g
    u₁-same = refl

    -- "p" reads the first section
    pub p_alike : upto (parameters J) 1 ≤ N → (j : ℕ) → j < 256 → F.p (public J R) s j ≡ F.p (public J R') s j
    unfolding F.p F.projection
    p_alike within j hj =
        ap (λ x. x % Q) (Σ_ext r (λ i. F.projection (public J R) s i j) (λ i. F.projection (public J R') s i j)
        (λ i hi. Σ_ext (64 * n) (λ m. (public J R).Π i j m * coefficient (s i) m) (λ m. (public J R').Π i j m * coefficient (s i) m)
        (λ m hm. ap (λ w. entry w * coefficient (s i) m) (Π-word (parameters J) R R' N alike within i j m hi hj hm))))

    -- "b''_k" reads three sections
    pub b''_alike : upto (parameters J) 3 ≤ N → (k : ℕ) → k < L → F.b'' (public J R) s k ≡ F.b'' (public J R') s k
    unfolding F.b'' F.a''
    b''_alike within k hk =
        form_ext RqOps r n (F.a'' (public J R) k) (F.a'' (public J R') k) (F.φ'' (public J R) k) (F.φ'' (public J R') k) s s
        (λ i j hi hj. sum_ext RqOps l (λ x. scale ((public J R).a' x i j) ((public J R).psi k x)) (λ x. scale ((public J R').a' x i j) ((public J R').psi k x))
        (λ x hx. ap (scale ((public J R).a' x i j)) (psi-word (parameters J) R R' N alike within k x hk hx)))
        (λ i m hi hm. φ''_alike within k i m hk hi hm)
        (λ i m hi hm. refl)

    -- "h_ij" reads five sections
    pub h_alike : upto (parameters J) 5 ≤ N → (i j : ℕ) → i < r → j < r → F.h (public J R) s i j ≡ F.h (public J R') s i j
    unfolding F.h
    h_alike within i j hi hj =
        ap₂ ◌⊕◌
        (dot_ext RqOps n (F.φ_sum (public J R) i) (F.φ_sum (public J R') i) (s j) (s j) (λ m hm. φ_sum_alike within i m hi hm) (λ m hm. refl))
        (dot_ext RqOps n (F.φ_sum (public J R) j) (F.φ_sum (public J R') j) (s i) (s i) (λ m hm. φ_sum_alike within j m hj hm) (λ m hm. refl))

    -- "z" reads seven sections
    pub z_alike : upto (parameters J) 7 ≤ N → (m : ℕ) → F.z (public J R) s m ≡ F.z (public J R') s m
    unfolding F.z
    z_alike within m =
        sum_ext RqOps r (λ i. s i m ⊗ (public J R).c i) (λ i. s i m ⊗ (public J R').c i)
        (λ i hi. ap₂ (λ v w. s i m ⊗ element (challenge v w)) (sign_words_lem (parameters J) R R' N alike within i hi) (shuffle-words (parameters J) R R' N alike within i hi))
