use Rattle.std.proofs.Common.{◌≡◌, ℕ, ◌<◌, Bool, refl, ap, ◌∙◌, ap₂, add-one, arith}
use mathlib.Core.Bool.{xor}
use Rattle.math.specs.lists.Table.{padded}
use Rattle.math.proofs.lists.Padded.{padded-none, padded-next}
use Rattle.spec_leaves.specs.Zq.{is_larger_than_half, size}
use Rattle.spec_leaves.specs.Digits.{size_after, next_size, signed, rem_below, rem_size, digit, digit_places, leftover}
use Rattle.ring_zq.proofs.digits.decompose.Invariants.{digit_of}
use Rattle.ring_zq.proofs.digits.decompose.Goals as goal

-- what `digit` gives of the size after k digits is digit k
digit_is : (negative : Bool) (base size₀ size k d : ℕ) → size ≡ size_after base k size₀
    → d ≡ signed (xor negative (rem_below base size)) (rem_size base size) → d ≡ digit_of negative base size₀ k
unfolding digit_of
digit_is negative base size₀ size k d e h = h ∙ ap (λ s. signed (xor negative (rem_below base s)) (rem_size base s)) e

-- all places filled are the definition's
filled : (base parts k value size₀ : ℕ) (negative : Bool) → k ≡ parts → negative ≡ is_larger_than_half value → size₀ ≡ size value
    → padded 32 k 0 (digit_of negative base size₀) ≡ digit_places base parts value
unfolding digit_of digit digit_places
filled base parts k value size₀ negative e n s = rw (e, n, s)

pub loop-k-init : goal.loop-k-init
unfolding size_after
loop-k-init c = (omega arith, refl, padded-none 32 0 _)

pub loop-k-preserved : goal.loop-k-preserved
unfolding size_after
loop-k-preserved c =
    let l = c.loop-k in
    let at : l.k < 32 = omega arith in (
      omega arith,
      rw (add-one l.k) (c.next_size-size.ensures ∙ ap (next_size _) l.invariant.1),
      padded-next 32 0 _ _ l.k _ l.invariant.2 at (digit_is _ _ _ _ _ _ l.invariant.1 c.digit.ensures),
    )

pub returns : goal.returns
unfolding leftover
returns c =
    let l = c.loop-k in
    let s = c.args in
    let n : l.k ≡ s.parts = omega arith in
    λ i. record {
      digits = (l.invariant.2 ∙ filled s.base s.parts l.k s.value.0 _ _ n c.is_larger_than_half-negative.ensures c.size-size.ensures) i;
      left = (l.invariant.1 ∙ ap₂ (λ k x. size_after s.base k x) n c.size-size.ensures) i;
    }
