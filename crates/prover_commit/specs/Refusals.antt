-- What the prover's work refuses, and what a call makes, of a job, a randomness and a witness.
use Rattle.std.specs.Prelude.{List, ℕ, ◌*◌}
use Rattle.std.proofs.Math.Decide.{dec_le}
use Rattle.spec_leaves.specs.Answer.{Answer, of_refusal, ◌then◌}
use Rattle.spec_leaves.specs.declared.answers.Refusal.{Refusal}
use Rattle.spec_leaves.specs.declared.answers.Refusal.TheVariants as R
use Rattle.spec_protocol.specs.Checks.{require}
use Rattle.spec_protocol.specs.Parameters.{triangular}
use Rattle.spec_protocol.specs.Formulas as F
use Rattle.spec_protocol.specs.Formulas.{norm_of}
use Rattle.spec_protocol.specs.Prover as P
use Rattle.spec_protocol.specs.Prover.{Call, witness_norm, t_norm, g_norm, h_norm}
use Rattle.commitments_outer.specs.declared.outer_commitments.Digits.{Digits}
use Rattle.commitments_outer.specs.Cells.{digits_at}
use Rattle.layout_regions.specs.declared.Regions.{Regions}
use Rattle.relation_env_params.specs.declared.env_params.EnvironmentParameters.{EnvironmentParameters}
use Rattle.prover_commit.specs.Words.{statement, X, s}

-- "14 digits of t above B's bound, 15 of g above C's"
module _ (J W : List ℕ) where
  unfoldable pub t_refusal : Answer
  t_refusal = t_norm (statement J) (F.t (statement J) (s J W))

  unfoldable pub g_refusal : Answer
  g_refusal = g_norm (statement J) (F.g (statement J) (s J W))

  -- "Prover: 13, 14, 15": the refusals that no randomness is in
  unfoldable pub first_refusal : Answer
  first_refusal = witness_norm (statement J) (s J W) then t_refusal then g_refusal

module _ (J R W : List ℕ) where
  -- "16 of h above D's"
  unfoldable pub h_refusal : Answer
  h_refusal = h_norm (X J R) (F.h (X J R) (s J W))

  -- what the work of a call answers, and the words that it makes
  abbrev pub work : Call → Answer
  work call = P.work_refusal (X J R) call (s J W)

  abbrev pub makes : Call → List ℕ
  makes call = P.made (X J R) call (s J W)

-- 14 of the cells of t that stand in a region, 15 and 16 of the triangle of cells of a region
module _ (params : EnvironmentParameters) where
  abbrev above : Refusal → Digits → ℕ → List ℕ → Answer
  above refusal d bound scratch = require (dec_le (norm_of (digits_at scratch d params.b)) bound) (of_refusal refusal)

  abbrev pub triangle_check : (at parts bound : ℕ) → Refusal → List ℕ → Answer
  triangle_check at parts bound refusal = above refusal (record { at = at; cells = triangular params.multiplicity; parts = parts }) bound

  module _ (regions : Regions) where
    abbrev pub t_check : List ℕ → Answer
    t_check = above R.DigitsOfT (record { at = regions.t; cells = params.multiplicity * params.kappa; parts = params.t_1 }) params.bound_b

    abbrev pub g_check : List ℕ → Answer
    g_check = triangle_check regions.g params.t_2 params.bound_c R.DigitsOfG

    abbrev pub h_check : List ℕ → Answer
    h_check = triangle_check regions.a_or_h params.t_1 params.bound_d R.DigitsOfH
