-- `flipped` meets its contract.
use mathlib.Core.Path.{◌≡◌, ◌∙◌, ap, ap₂}
use mathlib.Core.Bool.{cond}
use Prim.Native.Nat.{ℕ, ◌-◌, ◌<◌, ◌^◌}
use native.Mathlib.Omega.{arith}
use lib.Bits.{bit_and, bit_xor, and_zero_r, xor_zero_r, xor_add_and, and_mask}
use lib.Dec.{ltb}
use Rattle.spec_leaves.proofs.Cases.{ltb_cases}
use Rattle.transcript_words.specs.Entries.{by_entry}
use Rattle.core_jl.specs.Rows.{flipped}
use Rattle.core_jl.proofs.projection.flipped.Goals as goal

-- each bit of a word changed
turned : (x : ℕ) → x < 2 ^ 32 → bit_xor x 4294967295 ≡ 4294967295 - x
turned x h = omega (arith, xor_add_and x 4294967295, and_mask x 32)

-- the two masks
masked : (code x changed kept : ℕ) → x < 2 ^ 32 → changed ≡ by_entry code 4294967295 0 0 → kept ≡ by_entry code 4294967295 4294967295 0
    → bit_and (bit_xor x changed) kept ≡ flipped code x
masked code x changed kept h e d =
    let b = ltb code 2147483648 in
    ap₂ (λ m n. bit_and (bit_xor x m) n) e d
    ∙ ltb_cases (λ t. bit_and (bit_xor x (cond t 4294967295 (cond b 0 0))) (cond t 4294967295 (cond b 4294967295 0)) ≡ cond t (4294967295 - x) (cond b x 0)) code 1073741824
    (λ l. ap (λ y. bit_and y 4294967295) (turned x h) ∙ omega (arith, and_mask (4294967295 - x) 32))
    (λ l. ltb_cases (λ t. bit_and (bit_xor x (cond t 0 0)) (cond t 4294967295 0) ≡ cond t x 0) code 2147483648
    (λ m. ap (λ y. bit_and y 4294967295) (xor_zero_r x) ∙ omega (arith, and_mask x 32))
    (λ m. and_zero_r (bit_xor x 0)))

pub returns : goal.returns
returns c =
    let s = c.args in
    masked s.code s.word _ _ (omega arith) c.by_entry-changed.ensures c.by_entry-kept.ensures
