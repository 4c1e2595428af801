-- The ends of a range: what is picked lies in it, and its size is the smallest or the largest.
use mathlib.Core.Path.{◌≡◌, refl, sym, ap, subst}
use mathlib.Core.Bool.{Bool, true, false, not, cond}
use Prim.Native.Nat.{ℕ, suc, ◌≤◌, ◌<◌}
use native.Mathlib.Nat.{zero-add}
use native.Mathlib.Omega.{arith}
use borrow.Author.Tests.{ltb-true, ltb-false}
use lib.IntN.{ℤ, pos, negsuc, nat_abs, ◌-ℤ◌}
use lib.Signed.{lt_z, non_neg, ◌≤ℤ◌, ≤ℤ_refl, lt_z_no}
use lib.Dec.{T, ltb, leb→le}
use mir.Syntax.{w64}
use mir.Val.{SFits}
use Rattle.spec_leaves.specs.Zq.{half_Q}
use Rattle.spec_leaves.proofs.Cases.{no_both}
use Rattle.ranges_vectors.specs.Ends.{nearest, farthest}

-- a number below zero taken from zero is its size
pub zero_less : (x : ℤ) → lt_z x (pos 0) ≡ true → pos 0 -ℤ x ≡ pos (nat_abs x)
zero_less (pos n) h = absurd (let l : n < 0 = ltb-true n 0 h in omega arith)
zero_less (negsuc n) h = ap pos (zero-add (suc n))

-- a number not below zero is its size
pub not_below_zero : (x : ℤ) → lt_z x (pos 0) ≡ false → T (non_neg x)
not_below_zero (pos n) h = tt
not_below_zero (negsuc n) h = let z : ◌≡◌ {A = Bool} true false = h in absurd (subst (λ b. T b) z tt)

-- a size is an i64
pub size_fits : (n : ℕ) → n ≤ half_Q → SFits w64 (pos n)
size_fits n h = record { sfits = omega arith }

-- a number above zero has the smallest size from it on
above_zero : (l x : ℤ) → lt_z (pos 0) l ≡ true → l ≤ℤ x → nat_abs l ≤ nat_abs x
above_zero (pos a) (pos e) t h = leb→le a e h.le
above_zero (pos a) (negsuc e) t h = absurd h.le
above_zero (negsuc a) x t h = absurd (no_both t refl)

-- a number below zero has the smallest size up to it
below_zero : (h x : ℤ) → lt_z h (pos 0) ≡ true → x ≤ℤ h → nat_abs h ≤ nat_abs x
below_zero (pos b) x t k = absurd (let l : b < 0 = ltb-true b 0 t in omega arith)
below_zero (negsuc b) (pos e) t k = absurd k.le
below_zero (negsuc b) (negsuc e) t k = let l : b ≤ e = leb→le b e k.le in omega arith

-- sizes between two numbers are at most what bounds the two
between : (l h x : ℤ) (c : ℕ) → l ≤ℤ x → x ≤ℤ h → nat_abs l ≤ c → nat_abs h ≤ c → nat_abs x ≤ c
between l (pos b) (pos e) c p q i j = let m : e ≤ b = leb→le e b q.le in omega arith
between l (negsuc b) (pos e) c p q i j = absurd q.le
between (pos a) h (negsuc e) c p q i j = absurd p.le
between (negsuc a) h (negsuc e) c p q i j = let m : e ≤ a = leb→le e a p.le in omega arith

-- a number not below another
not_less : (a b : ℤ) → lt_z a b ≡ false → b ≤ℤ a
not_less a b e = lt_z_no {a = a} {b = b} (subst (λ t. T (not t)) (sym e) tt)

module _ (l h : ℤ) where
  -- what is nearest to zero has the smallest size
  pub nearest-least : (x : ℤ) → l ≤ℤ x → x ≤ℤ h → nat_abs (nearest l h) ≤ nat_abs x
  nearest-least x p q = by (lt_z (pos 0) l) refl (lt_z h (pos 0)) refl
    where
      by : (b : Bool) → lt_z (pos 0) l ≡ b → (d : Bool) → lt_z h (pos 0) ≡ d → nat_abs (cond b l (cond d h (pos 0))) ≤ nat_abs x
      by true e d f = above_zero l x e p
      by false e true f = below_zero h x f q
      by false e false f = omega arith

  -- what is farthest from zero has the largest size
  pub farthest-most : (x : ℤ) → l ≤ℤ x → x ≤ℤ h → nat_abs x ≤ nat_abs (farthest l h)
  farthest-most x p q = by (ltb (nat_abs l) (nat_abs h)) refl
    where
      by : (b : Bool) → ltb (nat_abs l) (nat_abs h) ≡ b → nat_abs x ≤ nat_abs (cond b h l)
      by true e = let m : nat_abs l < nat_abs h = ltb-true _ _ e in between l h x (nat_abs h) p q (omega arith) (omega arith)
      by false e = let m : nat_abs h ≤ nat_abs l = ltb-false _ _ e in between l h x (nat_abs l) p q (omega arith) (omega arith)

  -- both lie in the range
  module _ (ordered : l ≤ℤ h) where
    pub nearest-from_low : l ≤ℤ nearest l h
    nearest-from_low = by (lt_z (pos 0) l) refl (lt_z h (pos 0))
      where
        by : (b : Bool) → lt_z (pos 0) l ≡ b → (d : Bool) → l ≤ℤ cond b l (cond d h (pos 0))
        by true e d = ≤ℤ_refl l
        by false e true = ordered
        by false e false = not_less (pos 0) l e

    pub nearest-to_high : nearest l h ≤ℤ h
    nearest-to_high = by (lt_z (pos 0) l) (lt_z h (pos 0)) refl
      where
        by : (b d : Bool) → lt_z h (pos 0) ≡ d → cond b l (cond d h (pos 0)) ≤ℤ h
        by true d f = ordered
        by false true f = ≤ℤ_refl h
        by false false f = not_less h (pos 0) f

    pub farthest-from_low : l ≤ℤ farthest l h
    farthest-from_low = by (ltb (nat_abs l) (nat_abs h))
      where
        by : (b : Bool) → l ≤ℤ cond b h l
        by true = ordered
        by false = ≤ℤ_refl l

    pub farthest-to_high : farthest l h ≤ℤ h
    farthest-to_high = by (ltb (nat_abs l) (nat_abs h))
      where
        by : (b : Bool) → cond b h l ≤ℤ h
        by true = ≤ℤ_refl h
        by false = ordered
