-- Checks 21 and 23 as the code makes them.
use mathlib.Core.Path.{◌≡◌, sym, ap, ap₂, ◌∙◌}
use mathlib.Core.Bool.{Bool, cond}
use mathlib.Core.List.{List, [], ◌∷◌}
use Prim.Native.Nat.{ℕ, ◌+◌, ◌*◌, ◌≤◌}
use native.Mathlib.Decide.{dec_le}
use lib.Dec.{leb}
use lib.ListN.{length, get_or}
use Rattle.math.specs.lists.Part.{part}
use Rattle.math.specs.lists.Table.{table}
use Rattle.math.proofs.lists.Splice.{part-table}
use Rattle.spec_leaves.specs.Answer.{fine, failed}
use Rattle.spec_leaves.specs.Norm.{norm}
use Rattle.spec_protocol.specs.Checks.{require}
use Rattle.spec_protocol.specs.Parameters.{Parameters}
use Rattle.spec_protocol.specs.Layout.{start, transcript_sections}
use Rattle.spec_protocol.specs.Views.{message}
use Rattle.spec_protocol.specs.Verifier.{check_21, check_23}
use Rattle.commitments_outer.proofs.Answers.{require-by}
use Rattle.relation_env_params.specs.declared.env_params.EnvironmentParameters.{EnvironmentParameters}
use Rattle.relation_env_params.specs.Parameters.{parameters_of}
use Rattle.verifier_common.specs.Answers.{bare, norm_sum}
use Rattle.verifier_digits.specs.declared.SentDigits.{SentDigits}
use Rattle.verifier_digits.specs.Taken.{Taken}
use Rattle.verifier_norms.specs.Order.{sum_within}

-- 23 of the sum that is found
pub check_23_is : (P : Parameters) (T : List ℕ) (d : SentDigits) → Taken P T d → sum_within (d.sum) P.beta_prime_sq ≡ norm_sum P T
unfolding check_23
check_23_is P T d found = ap (λ sum. sum_within sum P.beta_prime_sq) found.sum

-- a test of a norm and a limit, both given, by the boolean's value
limited_is : (number x y a b : ℕ) (t : Bool) → a ≡ x → b ≡ y → t ≡ leb a b → require (dec_le x y) (failed number (x ∷ y ∷ [])) ≡ cond t fine (failed number (a ∷ b ∷ []))
limited_is number x y a b t e g h =
    ap₂ (λ x y. require (dec_le x y) (failed number (x ∷ y ∷ []))) (sym e) (sym g) ∙ require-by a b (failed number (a ∷ b ∷ [])) t h

module _ (T : List ℕ) (params : EnvironmentParameters) where
  -- 21, by the boolean's value
  pub check_21_is : (at a b : ℕ) (t : Bool) → at ≡ start (transcript_sections (parameters_of params)) 1 → at + 256 ≤ length T → a ≡ norm (part T at 256) → b ≡ 128 * (parameters_of params).beta_sq
      → t ≡ leb a b
      → check_21 (bare (parameters_of params)) (message (parameters_of params) T) ≡ cond t fine (failed 21 (a ∷ b ∷ []))
  unfolding check_21
  check_21_is at a b t place room e g h =
      limited_is 21 (norm (table 256 (message (parameters_of params) T).p)) (128 * (parameters_of params).beta_sq) a b t
      (e ∙ ap norm (sym (part-table 0 T at 256 room)) ∙ ap (λ at. norm (table 256 (λ j. get_or T (at + j) 0))) place)
      g
      h
