-- The sign word of a coefficient of size 1 flipped adds twice X^p or −X^p to a challenge.
use mathlib.Core.Path.{◌≡◌, refl, sym, ap, ap₂, ◌∙◌}
use mathlib.Core.Bool.{Bool, true, false, cond}
use mathlib.Core.List.{List}
use mathlib.Core.Logic.{◌≢◌}
use Prim.Native.Nat.{ℕ, suc, ◌+◌, ◌-◌, ◌%◌, ◌<◌}
use native.Mathlib.Nat.{mod-eq_of_lt}
use native.Mathlib.Decide.{ℕ_discrete}
use native.Mathlib.Omega.{arith}
use lib.Dec.{eqb}
use lib.ListN.{length, get_or}
use lib.Seq.{get_or-set_same, get_or-set_other}
use borrow.Author.Tests.{eq-eqb, ne_eqb, lt-ltb}
use Rattle.math.specs.lists.Table.{table}
use Rattle.math.specs.algebra.Ops.{Ops}
use Rattle.math.proofs.algebra.Ring.{CRing, ring, neg_add_cancel, neg-neg, neg-nil}
use Rattle.spec_leaves.specs.Zq.{zneg}
use Rattle.spec_leaves.specs.Rq.{Element}
use Rattle.spec_leaves.specs.Ring.{Residue, residue, ZqOps, words, element}
use Rattle.spec_leaves.specs.Challenge.{start_size, start_coeff, start, challenge}
use Rattle.spec_leaves.proofs.ZqRing.{zq_ring, residue-zneg}
use Rattle.spec_leaves.proofs.RqRing.{coefficient, element_path, coefficient-element, coefficient-table, coefficient-radd, coefficient-neg}
use Rattle.spec_leaves.proofs.Challenge.{length-start, get_or-start}
use Rattle.spec_leaves.proofs.Cases.{ltb_cases}
use Rattle.spec_protocol.specs.Formulas.{◌⊕◌}
use Rattle.spec_binding.specs.Openings.{neg}
use Rattle.theorem_soundness.specs.Weights.{monomial, shift}
use Rattle.theorem_extraction.specs.Honest.{other_sign, flipped}
use Rattle.theorem_extraction.proofs.HonestShuffle.{shuffled_place, shuffled_below, shuffled_at, shuffled_elsewhere}

module _ (O : Ops) (R : CRing O) where
  open O use {Carrier, add as ◌⊕'◌, mul as ◌⊗'◌, neg as minus, nil as zero, one}

  infixl 60 ◌⊕'◌
  infixl 70 ◌⊗'◌
  nothing_added : (a : Carrier) → a ≡ a ⊕' (zero ⊕' zero)
  nothing_added a = simp (ring, R)

  -- v = −v + (v + v)
  twice-added : (v : Carrier) → v ≡ minus v ⊕' (v ⊕' v)
  twice-added v = sym (neg_add_cancel O R v v)

-- the element with v at place p, and 0 elsewhere
pub single : ℕ → ℕ → Element
single p v = element (table 64 (λ k. cond (eqb k p) v 0))

module _ (signs shuffles : List ℕ) (j : ℕ) (size-one : j < 31) (within : j < length signs) where
  -- the coefficient with the sign word flipped
  abbrev pub v : ℕ
  v = start_coeff (flipped j signs) j

  -- its place after the shuffle
  abbrev pub p : ℕ
  p = shuffled_place shuffles j

  -- the sign is the other one
  other : (s : ℕ) → residue (cond (eqb s 1) (start_size j) (zneg (start_size j))) ≡ ZqOps.neg (residue (cond (eqb (other_sign s) 1) (start_size j) (zneg (start_size j))))
  other s = go (eqb s 1)
    where
      go : (t : Bool) → residue (cond t (start_size j) (zneg (start_size j))) ≡ ZqOps.neg (residue (cond (eqb (cond t 0 1) 1) (start_size j) (zneg (start_size j))))
      go true = sym (ap ZqOps.neg (residue-zneg (start_size j)) ∙ neg-neg ZqOps zq_ring (residue (start_size j)))
      go false = residue-zneg (start_size j)

  sign_there : get_or (flipped j signs) j 0 ≡ other_sign (get_or signs j 0)
  unfolding flipped
  sign_there = get_or-set_same signs j (other_sign (get_or signs j 0)) 0 within

  there : residue (start_coeff signs j) ≡ ZqOps.neg (residue v)
  there = other (get_or signs j 0) ∙ ap (λ s. ZqOps.neg (residue (cond (eqb s 1) (start_size j) (zneg (start_size j))))) (sym sign_there)

  -- before the shuffle the two differ at j alone
  before : (i : ℕ) → i < 64 → i ≢ j → get_or (start signs) i 0 ≡ get_or (start (flipped j signs)) i 0
  unfolding flipped
  before i h d =
      get_or-start signs i h
      ∙ ap (λ s. cond (eqb s 1) (start_size i) (zneg (start_size i))) (sym (get_or-set_other signs j i (other_sign (get_or signs j 0)) 0 d))
      ∙ sym (get_or-start (flipped j signs) i h)

  -- after it at p alone
  pub added : element (challenge (flipped j signs) shuffles) ≡ element (challenge signs shuffles) ⊕ (single p v ⊕ single p v)
  unfolding challenge single
  added = element_path (element (challenge (flipped j signs) shuffles)) (element (challenge signs shuffles) ⊕ (single p v ⊕ single p v)) (λ k h.
      coefficient-element (challenge (flipped j signs) shuffles) k h
      ∙ go k h (ℕ_discrete k p)
      ∙ sym (coefficient-radd (words (element (challenge signs shuffles))) (words (single p v ⊕ single p v)) k h
      ∙ ap₂ ZqOps.add (coefficient-element (challenge signs shuffles) k h) (coefficient-radd (words (single p v)) (words (single p v)) k h ∙ ap₂ ZqOps.add (one_place k h) (one_place k h))))
    where
      one_place : (k : ℕ) → k < 64 → coefficient (single p v) k ≡ residue (cond (eqb k p) v 0)
      one_place k h = coefficient-table (λ i. cond (eqb i p) v 0) k h

      old : ℕ → Residue
      old k = residue (get_or (challenge signs shuffles) k 0)

      at_place : (signs : List ℕ) (k : ℕ) → k ≡ p → get_or (challenge signs shuffles) k 0 ≡ start_coeff signs j
      at_place signs k e = ap (λ i. get_or (challenge signs shuffles) i 0) e ∙ shuffled_at shuffles (start signs) j (length-start signs) ∙ get_or-start signs j (omega arith)

      go : (k : ℕ) → k < 64 → Dec (k ≡ p) → residue (get_or (challenge (flipped j signs) shuffles) k 0) ≡ ZqOps.add (old k) (ZqOps.add (residue (cond (eqb k p) v 0)) (residue (cond (eqb k p) v 0)))
      go k h (yes e) =
          ap residue (at_place (flipped j signs) k e)
          ∙ twice-added ZqOps zq_ring (residue v)
          ∙ ap₂ ZqOps.add (sym (ap residue (at_place signs k e) ∙ there)) (ap (λ t. ZqOps.add (residue (cond t v 0)) (residue (cond t v 0))) (sym (eq-eqb k p e)))
      go k h (no d) =
          ap residue (sym (shuffled_elsewhere shuffles (start signs) (start (flipped j signs)) j (length-start signs) (length-start (flipped j signs)) before k h d))
          ∙ nothing_added ZqOps zq_ring (old k)
          ∙ ap (λ t. ZqOps.add (old k) (ZqOps.add (residue (cond t v 0)) (residue (cond t v 0)))) (sym (ne_eqb k p d))

  -- which of the elements X^i and −X^i it is
  pub number : ℕ
  number = cond (eqb (get_or (flipped j signs) j 0) 1) p (p + 64)

  pub number-below : number < 128
  unfolding number
  number-below = go (eqb (get_or (flipped j signs) j 0) 1)
    where
      low : p < 64
      low = shuffled_below shuffles j (omega arith)

      go : (t : Bool) → cond t p (p + 64) < 128
      go true = omega (arith, low)
      go false = omega (arith, low)

  -- the place, of the number
  pub number-place : number % 64 ≡ p
  unfolding number
  number-place = go (eqb (get_or (flipped j signs) j 0) 1)
    where
      low : p < 64
      low = shuffled_below shuffles j (omega arith)

      go : (t : Bool) → cond t p (p + 64) % 64 ≡ p
      go true = mod-eq_of_lt low
      go false = omega (arith, low)

  pub single_shift : single p v ≡ shift (suc number)
  unfolding number single shift monomial
  single_shift = go (eqb (get_or (flipped j signs) j 0) 1)
    where
      low : p < 64
      low = shuffled_below shuffles j (omega arith)

      go : (t : Bool) → element (table 64 (λ k. cond (eqb k p) (cond t (start_size j) (zneg (start_size j))) 0)) ≡ shift (suc (cond t p (p + 64)))
      go true = rw (lt-ltb j 31 size-one, lt-ltb p 64 low) refl
      go false = rw (lt-ltb j 31 size-one) (sym negative)
        where
          negative : shift (suc (p + 64)) ≡ element (table 64 (λ k. cond (eqb k p) (zneg 1) 0))
          negative = ltb_cases (λ t. cond t (monomial (p + 64)) (neg (monomial (p + 64 - 64))) ≡ element (table 64 (λ k. cond (eqb k p) (zneg 1) 0))) (p + 64) 64
              (λ h. absurd (omega arith))
              (λ h. ap (λ i. neg (monomial i)) back ∙ element_path (neg (monomial p)) (element (table 64 (λ k. cond (eqb k p) (zneg 1) 0))) (λ k h.
              coefficient-neg (monomial p) k h
              ∙ ap ZqOps.neg (coefficient-table (λ i. cond (eqb i p) 1 0) k h)
              ∙ signs_of (eqb k p)
              ∙ sym (coefficient-table (λ i. cond (eqb i p) (zneg 1) 0) k h)))
            where
              back : p + 64 - 64 ≡ p
              back = omega arith

              signs_of : (t : Bool) → ZqOps.neg (residue (cond t 1 0)) ≡ residue (cond t (zneg 1) 0)
              signs_of true = sym (residue-zneg 1)
              signs_of false = neg-nil ZqOps zq_ring
