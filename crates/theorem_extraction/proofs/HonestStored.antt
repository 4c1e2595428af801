-- Randomness with one word changed within the range of its section is refused nothing where it was refused nothing before: a sign word flipped, or 1 added to a weight.
use mathlib.Core.Path.{◌≡◌, refl, sym, ap, subst, ◌∙◌}
use mathlib.Core.Bool.{Bool, true, false, cond}
use mathlib.Core.List.{List, [], ◌∷◌}
use mathlib.Core.Logic.{◌≢◌}
use Prim.Native.Nat.{ℕ, zero, suc, ◌+◌, ◌-◌, ◌≤◌, ◌<◌}
use native.Mathlib.Decide.{dec_le, ℕ_discrete}
use native.Mathlib.Omega.{arith}
use lib.Dec.{ltb, eqb}
use lib.ListN.{length, get_or, set, take, length-set}
use lib.Seq.{get_or-set_same, get_or-set_other}
use Rattle.math.proofs.lists.Splice.{length_part, get_d_part}
use Rattle.math.proofs.lists.Rows.{index_below}
use Rattle.spec_leaves.specs.Zq.{Q}
use Rattle.spec_leaves.specs.Answer.{fine, refused, ◌then◌}
use Rattle.spec_leaves.specs.Ring.{canonical_mod}
use Rattle.spec_leaves.proofs.Leaf.{below-fine}
use Rattle.spec_protocol.specs.Checks.{require}
use Rattle.spec_protocol.specs.Parameters.{parameters}
use Rattle.spec_protocol.specs.Layout.{under, Section, part, span, start, counted, layout, in_range, ranged, randomness_sections, randomness_refusal}
use Rattle.spec_protocol.proofs.Fine.{then_both_fine, then_fine_left, then_fine_right}
use Rattle.spec_protocol.specs.Laid.{nth, In}
use Rattle.spec_protocol.proofs.Laid.{laid}
use Rattle.theorem_extraction.specs.Honest.{other_sign, flipped, sign_place, raised, alpha_place, beta_place, psi_place, omega_place}
use Rattle.theorem_extraction.proofs.HonestRandomness.{stored_elsewhere}

module _ (p v : ℕ) (R : List ℕ) where
  -- a count is read where it was
  counted_step : (number place : ℕ) (s : Section) (ss : List Section) → place ≢ p
      → counted number (set R p v) (place + 1 + s.count) ss ≡ counted number R (place + 1 + s.count) ss
      → counted number (set R p v) place (s ∷ ss) ≡ counted number R place (s ∷ ss)
  unfolding counted
  counted_step number place s ss d rest = λ i.
      cond (ltb place (length-set R p v i))
      (cond (eqb (get_or-set_other R p place v 0 d i) s.count)
      (require (dec_le (place + 1 + s.count) (length-set R p v i)) (refused number (length-set R p v i)) then rest i)
      (refused number place))
      (refused number (length-set R p v i))

  -- sections after the place
  counted-after : (number place : ℕ) (ss : List Section) → p < place → counted number (set R p v) place ss ≡ counted number R place ss
  unfolding counted
  counted-after number place [] h = refl
  counted-after number place (s ∷ ss) h = counted_step number place s ss (λ e. omega arith) (counted-after number (place + 1 + s.count) ss (omega arith))

  ranged-after : (number place : ℕ) (ss : List Section) → p < place → ranged number (set R p v) place ss ≡ ranged number R place ss
  unfolding ranged
  ranged-after number place [] h = refl
  ranged-after number place (s ∷ ss) h = λ i.
      in_range s.range number (place + 1) (stored_elsewhere p v R (place + 1) s.count (λ k a b e. omega arith) i)
      then ranged-after number (place + 1 + s.count) ss (omega arith) i

  -- the place is one of section m's words
  counted-within : (number place m : ℕ) (ss : List Section) → place + start ss m ≤ p → p < place + start ss m + (nth ss m).count
      → counted number (set R p v) place ss ≡ counted number R place ss
  unfolding counted start
  counted-within number place m [] h l = refl
  counted-within number place zero (s ∷ ss) h l = counted_step number place s ss (λ e. omega arith) (counted-after number (place + 1 + s.count) ss (omega arith))
  counted-within number place (suc m) (s ∷ ss) h l = counted_step number place s ss (λ e. omega arith) (counted-within number (place + 1 + s.count) m ss (omega arith) (omega arith))

  -- whose words are below a limit, as what is stored is
  ranged-within : (limit : ℕ) → v < limit → (number place m : ℕ) (ss : List Section) → place + start ss m ≤ p → p < place + start ss m + (nth ss m).count → place + span ss ≤ length R
      → (nth ss m).range ≡ under limit
      → ((q : ℕ) → place + start ss m ≤ q → q < place + start ss m + (nth ss m).count → get_or R q 0 < limit)
      → ranged number R place ss ≡ fine → ranged number (set R p v) place ss ≡ fine
  unfolding ranged start span
  ranged-within limit below number place m [] h l i range all e = refl
  ranged-within limit below number place zero (s ∷ ss) h l i range all e =
      then_both_fine
      (subst (λ ρ. in_range ρ number (place + 1) (part (set R p v) (place + 1) s.count) ≡ fine) (sym range)
      (below-fine limit number (place + 1) (part (set R p v) (place + 1) s.count) (λ k b.
      let c : k < s.count = omega (arith, b, size) in
      subst (λ w. w < limit) (sym (get_d_part 0 (set R p v) (place + 1) s.count k c)) (word (place + 1 + k) (omega arith) (omega arith) (ℕ_discrete (place + 1 + k) p)))))
      (ranged-after number (place + 1 + s.count) ss (omega arith)
      ∙ then_fine_right (in_range s.range number (place + 1) (part R (place + 1) s.count)) (ranged number R (place + 1 + s.count) ss) e)
    where
      size : length (part (set R p v) (place + 1) s.count) ≡ s.count
      size = length_part (set R p v) (place + 1) s.count (omega (arith, length-set R p v))

      word : (q : ℕ) → place + 1 ≤ q → q < place + 1 + s.count → Dec (q ≡ p) → get_or (set R p v) q 0 < limit
      word q a b (yes e) = subst (λ k. get_or (set R p v) k 0 < limit) (sym e) (subst (λ w. w < limit) (sym (get_or-set_same R p v 0 (omega arith))) below)
      word q a b (no d) = subst (λ w. w < limit) (sym (get_or-set_other R p q v 0 d)) (all q a b)
  ranged-within limit below number place (suc m) (s ∷ ss) h l i range all e =
      then_both_fine
      (ap (in_range s.range number (place + 1)) (stored_elsewhere p v R (place + 1) s.count (λ k a b e. omega arith))
      ∙ then_fine_left (in_range s.range number (place + 1) (part R (place + 1) s.count)) (ranged number R (place + 1 + s.count) ss) e)
      (ranged-within limit below number (place + 1 + s.count) m ss (omega arith) (omega arith) (omega arith) range (λ q a b. all q (omega arith) (omega arith))
      (then_fine_right (in_range s.range number (place + 1) (part R (place + 1) s.count)) (ranged number R (place + 1 + s.count) ss) e))

-- a sign word of the other sign is 0 or 1
other_below : (w : ℕ) → other_sign w < 2
other_below w = go (eqb w 1)
  where
    go : (t : Bool) → cond t 0 1 < 2
    go true = omega arith
    go false = omega arith

module _ (J : List ℕ) where
  open parameters J use {r, K, l, L}

  abbrev ss : List Section
  ss = take 7 (randomness_sections (parameters J))

  -- 7 and 8 of randomness with a word of section m changed
  stored-fine : (R : List ℕ) (m p v limit : ℕ) → m < 7 → start ss m ≤ p → p < start ss m + (nth ss m).count → (nth ss m).range ≡ under limit → v < limit
      → randomness_refusal (parameters J) 7 R ≡ fine → randomness_refusal (parameters J) 7 (set R p v) ≡ fine
  unfolding randomness_refusal layout
  stored-fine R m p v limit few from to range below e =
      let sizes = then_fine_left (layout 7 R 0 ss) (ranged 8 R 0 ss) e in
      let ranges = then_fine_right (layout 7 R 0 ss) (ranged 8 R 0 ss) e in
      let words = laid 7 8 R 0 ss (omega arith) sizes ranges in
      then_both_fine
      ((λ t. counted-within p v R 7 0 m ss (omega arith) (omega arith) t then require (dec_le (length-set R p v t) (0 + span ss)) (refused 7 (0 + span ss))) ∙ sizes)
      (ranged-within p v R limit below 8 0 m ss (omega arith) (omega arith) (omega (arith, words.whole)) range
      (λ q a b.
      let k : 0 + start ss m + (q - (0 + start ss m)) ≡ q = omega arith in
      subst (λ n. get_or R n 0 < limit) k (subst (λ ρ. In ρ (get_or R (0 + start ss m + (q - (0 + start ss m))) 0)) range (words.ranges m (q - (0 + start ss m)) few (omega arith)))) ranges)

  -- with sign word j of challenge i flipped
  pub flipped-fine : (R : List ℕ) (i j : ℕ) → i < r → j < 41 → randomness_refusal (parameters J) 7 R ≡ fine → randomness_refusal (parameters J) 7 (flipped (sign_place (parameters J) i j) R) ≡ fine
  unfolding flipped start
  flipped-fine R i j h k e =
      let p = sign_place (parameters J) i j in
      stored-fine R 5 p (other_sign (get_or R p 0)) 2 (omega arith) (omega arith) (omega arith) refl (other_below (get_or R p 0)) e

  -- with 1 added to a word of a section of canonical words
  raised-fine : (R : List ℕ) (m p : ℕ) → m < 7 → start ss m ≤ p → p < start ss m + (nth ss m).count → (nth ss m).range ≡ under Q
      → randomness_refusal (parameters J) 7 R ≡ fine → randomness_refusal (parameters J) 7 (raised p R) ≡ fine
  unfolding raised
  raised-fine R m p few from to range e = stored-fine R m p _ Q few from to range (canonical_mod (get_or R p 0 + 1)) e

  -- of alpha_k and beta_k, and of the entries of row k of psi and of omega
  pub alpha-fine : (R : List ℕ) (k : ℕ) → k < K → randomness_refusal (parameters J) 7 R ≡ fine → randomness_refusal (parameters J) 7 (raised (alpha_place (parameters J) k) R) ≡ fine
  unfolding start
  alpha-fine R k h = raised-fine R 3 (alpha_place (parameters J) k) (omega arith) (omega arith) (omega arith) refl

  pub beta-fine : (R : List ℕ) (k : ℕ) → k < L → randomness_refusal (parameters J) 7 R ≡ fine → randomness_refusal (parameters J) 7 (raised (beta_place (parameters J) k) R) ≡ fine
  unfolding start
  beta-fine R k h = raised-fine R 4 (beta_place (parameters J) k) (omega arith) (omega arith) (omega arith) refl

  pub psi-fine : (R : List ℕ) (k x : ℕ) → k < L → x < l → randomness_refusal (parameters J) 7 R ≡ fine → randomness_refusal (parameters J) 7 (raised (psi_place (parameters J) k x) R) ≡ fine
  unfolding start
  psi-fine R k x h i = raised-fine R 1 (psi_place (parameters J) k x) (omega arith) (omega arith) (omega (arith, index_below L l k x h i)) refl

  pub omega-fine : (R : List ℕ) (k j : ℕ) → k < L → j < 256 → randomness_refusal (parameters J) 7 R ≡ fine → randomness_refusal (parameters J) 7 (raised (omega_place (parameters J) k j) R) ≡ fine
  unfolding start
  omega-fine R k j h i = raised-fine R 2 (omega_place (parameters J) k j) (omega arith) (omega arith) (omega (arith, index_below L 256 k j h i)) refl
