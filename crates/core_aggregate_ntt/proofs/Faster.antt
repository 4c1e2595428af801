-- Where weights in NTT form are chosen, they have room.
use mathlib.Core.Path.{◌≡◌, refl}
use mathlib.Core.Bool.{Bool, true, false, cond, false≢true}
use Prim.Native.Nat.{ℕ, ◌+◌}
use borrow.Author.Tests.{ltb-false}
use Rattle.core_aggregate_ntt.specs.Terms.{Weights, ntt_faster}
use lib.Dec.{ltb, leb}

-- a test that did not hold, and what came after it
passed : (test rest : Bool) → cond test false rest ≡ true → (test ≡ false) × (rest ≡ true)
passed true rest e = absurd (false≢true e)
passed false rest e = (refl, e)

pub faster_weights : (width alphas betas : ℕ) → ntt_faster width alphas betas ≡ true → Weights alphas betas
faster_weights width alphas betas e =
    let many = passed (ltb (alphas + betas) 4) (cond (ltb 96 (alphas + betas)) false (leb 8 width)) e in
    let few = passed (ltb 96 (alphas + betas)) (leb 8 width) many.1 in
    ltb-false 96 (alphas + betas) few.0
