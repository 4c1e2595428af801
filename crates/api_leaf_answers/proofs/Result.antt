-- The result of a leaf call whose operands are refused.
use Rattle.std.proofs.Common.{◌≡◌, refl}
use Rattle.spec_leaves.specs.declared.answers.OperandError.{OperandError}
use Rattle.spec_leaves.specs.declared.answers.OperandError.TheVariants as O
use Rattle.spec_leaves.specs.Answer.{Answer, result_of, ◌then◌, of_operand_error}

-- there is none of it
pub dropped {ℓ} : {A : Type ℓ} (e : OperandError) (value none : A) → none ≡ result_of (of_operand_error e) value none
dropped (O.ParameterOutOfLimits p) value none = refl
dropped (O.Word p) value none = refl
dropped (O.SignWord p) value none = refl
dropped (O.BaseOrParts p) value none = refl

-- the refusal comes before any later one
pub refused-first : (e : OperandError) (later : Answer) → of_operand_error e ≡ of_operand_error e then later
refused-first (O.ParameterOutOfLimits p) later = refl
refused-first (O.Word p) later = refl
refused-first (O.SignWord p) later = refl
refused-first (O.BaseOrParts p) later = refl
