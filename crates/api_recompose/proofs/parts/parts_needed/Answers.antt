use mathlib.Core.Path.{◌≡◌, refl, sym, ◌∙◌, ap}
use Prim.Native.Nat.{ℕ, ◌+◌, ◌*◌, ◌/◌, ◌≤◌, ◌<◌}
use native.Mathlib.Nat.{mul-le-mul_left}
use native.Mathlib.Decide.{dec_lt}
use native.Mathlib.Omega.{arith}
use Rattle.spec_leaves.specs.Zq.{half_Q}
use Rattle.spec_leaves.proofs.Fits.{product_max}
use Rattle.spec_leaves.proofs.Recompose.{reach, reach_none, reach_next, needed-by_reach}
use Rattle.api_recompose.proofs.parts.parts_needed.Goals as goal

-- one part more: no fewer parts reach the greatest size
fewer_next : (base p r : ℕ) → r ≡ reach base p → r < half_Q → ((fewer : ℕ) → fewer < p → reach base fewer < half_Q)
    → (fewer : ℕ) → fewer < p + 1 → reach base fewer < half_Q
fewer_next base p r e l f fewer h = by (dec_lt fewer p)
  where
    by : Dec (fewer < p) → reach base fewer < half_Q
    by (yes k) = f fewer k
    by (no k) = let same : fewer ≡ p = omega arith in omega (arith, ap (reach base) same)

-- what one part more reaches is more than twice as much
grows : (base r : ℕ) → 2 ≤ base → 2 * r + 1 ≤ r * base + base / 2
grows base r h = omega (arith, mul-le-mul_left r h)

pub returns-then-base-lt2 : goal.returns-then-base-lt2
returns-then-base-lt2 c = record { parts_needed = λ h. absurd (omega arith); value = λ h. refl }

pub loop-reach-init : goal.loop-reach-init
loop-reach-init c = (sym (reach_none _), omega arith, λ fewer h. absurd (omega arith))

pub overflow_mul-reach : goal.overflow_mul-reach
overflow_mul-reach c =
    let base = c.args.base in
    let r = c.loop-reach.reach in
    omega (arith, product_max {a = r} {b = base} (omega arith) (omega arith))

pub overflow_add-reach : goal.overflow_add-reach
overflow_add-reach c =
    let base = c.args.base in
    let r = c.loop-reach.reach in
    omega (arith, product_max {a = r} {b = base} (omega arith) (omega arith))

pub loop-reach-smaller : goal.loop-reach-smaller
loop-reach-smaller c =
    let base = c.args.base in
    omega (arith, grows base c.loop-reach.reach (omega arith))

pub loop-reach-preserved : goal.loop-reach-preserved
loop-reach-preserved c =
    let base = c.args.base in
    let l = c.loop-reach in (
      ap (λ r. r * base + base / 2) l.invariant.0 ∙ sym (reach_next base l.parts),
      omega (arith, grows base l.reach (omega arith)),
      fewer_next base l.parts l.reach l.invariant.0 (omega arith) l.invariant.2,
    )

pub returns : goal.returns
returns c =
    let l = c.loop-reach in
    record { parts_needed = λ h. needed-by_reach _ l.parts (omega arith) (omega arith) l.invariant.2; value = λ h. absurd (omega arith) }
