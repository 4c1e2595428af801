-- The slots of 257 and of 65537.
use mathlib.Core.Path.{◌≡◌}
use mathlib.Core.Logic.{◌↔◌}
use Prim.Native.Nat.{◌%◌}
use Rattle.spec_leaves.specs.Rq.{Element, coeff}
use Rattle.spec_leaves.specs.Ring.{RqOps, words, scalar}
use Rattle.spec_protocol.specs.Formulas.{◌⊕◌, ◌⊗◌}
use Rattle.theorem_soundness.specs.Share.{ExactlyOne}
use Rattle.theorem_soundness.specs.Slot.{e, at_ζ}
use Rattle.theorem_soundness.specs.Slot257.{slot_257, slot_65537}
use Rattle.theorem_soundness.proofs.Slot.{zero_exactly_when, constant-e, one_weight}

-- coeff0(e) = Q/257
pub constant_257 : coeff (words (e slot_257)) 0 ≡ 16711935
constant_257 = constant-e slot_257

-- α⊗e = 0 exactly when α(9) ≡ 0 modulo 257
pub zero_modulo_257 : (α : Element) → (α ⊗ e slot_257 ≡ RqOps.nil) ↔ (at_ζ slot_257 α % 257 ≡ 0)
zero_modulo_257 = zero_exactly_when slot_257

-- one weight in 257 sends e to 0
pub one_weight_in_257 : (α : Element) → ExactlyOne 257 (λ j. (α ⊕ scalar j) ⊗ e slot_257 ≡ RqOps.nil)
one_weight_in_257 = one_weight slot_257

-- coeff0(e) = Q/65537
pub constant_65537 : coeff (words (e slot_65537)) 0 ≡ 65535
constant_65537 = constant-e slot_65537

-- α⊗e = 0 exactly when α(13987) ≡ 0 modulo 65537
pub zero_modulo_65537 : (α : Element) → (α ⊗ e slot_65537 ≡ RqOps.nil) ↔ (at_ζ slot_65537 α % 65537 ≡ 0)
zero_modulo_65537 = zero_exactly_when slot_65537

-- one weight in 65537 sends e to 0
pub one_weight_in_65537 : (α : Element) → ExactlyOne 65537 (λ j. (α ⊕ scalar j) ⊗ e slot_65537 ≡ RqOps.nil)
one_weight_in_65537 = one_weight slot_65537
