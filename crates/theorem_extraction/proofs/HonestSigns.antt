-- Units exist: the sign word of a coefficient of size 1 flipped changes a challenge by 2·X^p or −2·X^p, and two such challenges and the first differ by units.
use mathlib.Core.Path.{◌≡◌, sym, ap, ap₂, subst, ◌∙◌}
use mathlib.Core.List.{List}
use mathlib.Core.Logic.{◌≢◌}
use Prim.Native.Nat.{ℕ, suc, ◌%◌, ◌<◌}
use native.Mathlib.Omega.{arith}
use lib.ListN.{length}
use Rattle.math.specs.algebra.Ops.{Ops}
use Rattle.math.proofs.algebra.Ring.{CRing, ring, neg_add_cancel, two-mul, sub_common}
use Rattle.spec_leaves.specs.Rq.{Element}
use Rattle.spec_leaves.specs.Ring.{RqOps, element}
use Rattle.spec_leaves.specs.Challenge.{challenge}
use Rattle.spec_leaves.proofs.RqRing.{rq_ring}
use Rattle.spec_protocol.specs.Formulas.{◌⊕◌, ◌⊗◌}
use Rattle.spec_binding.specs.Openings.{neg}
use Rattle.theorem_soundness.specs.Weights.{shift, IsUnit}
use Rattle.theorem_soundness.proofs.Units.{unit-mul}
use Rattle.theorem_soundness.proofs.Monomials.{two-unit, shift-unit, difference-unit}
use Rattle.theorem_extraction.specs.Fork.{◌⊖◌}
use Rattle.theorem_extraction.specs.Honest.{flipped, UnitDifferences}
use Rattle.theorem_extraction.proofs.HonestShuffle.{shuffled_apart}
use Rattle.theorem_extraction.proofs.HonestUnits.{single, v, p, added, number, number-below, number-place, single_shift}

module _ (O : Ops) (R : CRing O) where
  open O use {Carrier, add as ◌⊕'◌, mul as ◌⊗'◌, neg as minus, nil as zero, one}

  infixl 60 ◌⊕'◌
  infixl 70 ◌⊗'◌
  -- c + (e + e) − c = 2·e
  added_less : (c e : Carrier) → c ⊕' (e ⊕' e) ⊕' minus c ≡ (one ⊕' one) ⊗' e
  added_less c e = R.add_comm (c ⊕' (e ⊕' e)) (minus c) ∙ neg_add_cancel O R c (e ⊕' e) ∙ sym (two-mul O R e)

  -- 2·p − 2·q = 2·(p − q)
  twice-difference : (p q : Carrier) → (one ⊕' one) ⊗' p ⊕' minus ((one ⊕' one) ⊗' q) ≡ (one ⊕' one) ⊗' (p ⊕' minus q)
  twice-difference p q = simp (ring, R)

module _ (signs shuffles : List ℕ) (j : ℕ) (size-one : j < 31) (within : j < length signs) where
  -- which of the elements X^i and −X^i it changes by twice
  abbrev number_here : ℕ
  number_here = number signs shuffles j size-one within

  -- the challenge changes by 2·X^p or −2·X^p
  flipped-difference : element (challenge (flipped j signs) shuffles) ⊖ element (challenge signs shuffles) ≡ (RqOps.one ⊕ RqOps.one) ⊗ shift (suc number_here)
  flipped-difference =
      ap (λ x. x ⊖ element (challenge signs shuffles)) (added signs shuffles j size-one within)
      ∙ added_less RqOps rq_ring (element (challenge signs shuffles)) (single (p signs shuffles j size-one within) (v signs shuffles j size-one within))
      ∙ ap (λ e. (RqOps.one ⊕ RqOps.one) ⊗ e) (single_shift signs shuffles j size-one within)

  flipped-unit : IsUnit RqOps (element (challenge (flipped j signs) shuffles) ⊖ element (challenge signs shuffles))
  flipped-unit = subst (IsUnit RqOps) (sym flipped-difference) (unit-mul RqOps rq_ring (RqOps.one ⊕ RqOps.one) (shift (suc number_here)) two-unit
      (shift-unit number_here (number-below signs shuffles j size-one within)))

-- sign words at two places below 31, each flipped: all three differences are units
pub flipped-sign_units : (signs shuffles : List ℕ) (j j' : ℕ) → j < 31 → j' < 31 → j ≢ j' → length signs ≡ 41
    → UnitDifferences (element (challenge signs shuffles)) (element (challenge (flipped j signs) shuffles)) (element (challenge (flipped j' signs) shuffles))
flipped-sign_units signs shuffles j j' h h' apart size = record {
  unit_x = flipped-unit signs shuffles j h (omega arith);
  unit_y = flipped-unit signs shuffles j' h' (omega arith);
  unit_x_y = subst (IsUnit RqOps) (sym difference)
      (unit-mul RqOps rq_ring two (shift (suc d) ⊖ shift (suc d')) two-unit
      (difference-unit (suc d) (suc d') (omega (arith, below)) (omega (arith, below')) unlike));
}
  where
    c : Element
    c = element (challenge signs shuffles)

    x : Element
    x = element (challenge (flipped j signs) shuffles)

    y : Element
    y = element (challenge (flipped j' signs) shuffles)

    two : Element
    two = RqOps.one ⊕ RqOps.one

    d : ℕ
    d = number signs shuffles j h (omega arith)

    d' : ℕ
    d' = number signs shuffles j' h' (omega arith)

    below : d < 128
    below = number-below signs shuffles j h (omega arith)

    below' : d' < 128
    below' = number-below signs shuffles j' h' (omega arith)

    unlike : suc d ≡ suc d' → ⊥
    unlike e = apart (shuffled_apart shuffles j j' (sym (number-place signs shuffles j h (omega arith)) ∙ ap (λ m. m % 64) same ∙ number-place signs shuffles j' h' (omega arith)))
      where
        same : d ≡ d'
        same = omega arith

    difference : x ⊖ y ≡ two ⊗ (shift (suc d) ⊖ shift (suc d'))
    difference =
        sym (sub_common RqOps rq_ring x (neg c) y)
        ∙ ap₂ (λ p q. p ⊖ q) (flipped-difference signs shuffles j h (omega arith)) (flipped-difference signs shuffles j' h' (omega arith))
        ∙ twice-difference RqOps rq_ring (shift (suc d)) (shift (suc d'))
