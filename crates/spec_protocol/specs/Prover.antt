-- The prover's whole call and its five rounds: answer, output and scratch for any slices (document 01, "Who can cause which refusal" and "What the prover works out").
use Rattle.std.specs.Prelude.{Bool, true, false, cond, List, [], ◌∷◌, ◌++◌, ℕ, length, take, drop, replicate}
use Rattle.std.proofs.Math.Decide.{dec_le}
use Rattle.math.specs.lists.Table.{table}
use Rattle.spec_leaves.specs.Answer.{Answer, fine, refused, result_of, ◌then◌}
use Rattle.spec_leaves.specs.Rq.{Element}
use Rattle.spec_protocol.specs.Checks.{require, first}
use Rattle.spec_protocol.specs.Parameters.{Parameters, parameters}
use Rattle.spec_protocol.specs.Layout.{Section, span, sections, transcript_sections, job_refusal, randomness_refusal, witness_refusal, scratch_refusal, output_refusal, scratch_need}
use Rattle.spec_protocol.specs.Views.{Public, public, witness}
use Rattle.spec_protocol.specs.Formulas as F
use Rattle.spec_protocol.specs.Formulas.{flat, norm_of, rows, triangle, t_digits, g_digits, h_digits}

-- a call of the prover: how many sections of randomness it is handed, the first transcript section that it makes, how many it makes, and whether h is among what it works out
pub record Call : Type 0 where
  pub handed : ℕ
  pub from : ℕ
  pub makes : ℕ
  pub has_h : Bool

-- the whole call
abbrev pub whole : Call
whole = record { handed = 7; from = 0; makes = 8; has_h = true }

-- "The prover also runs in five rounds, whose outputs are u1; p; b''; u2; then z, t, g, h. A round's randomness slice ends after the first 0, 1, 3, 5 or 7 sections."
abbrev pub round₁ : Call
round₁ = record { handed = 0; from = 0; makes = 1; has_h = false }

abbrev pub round₂ : Call
round₂ = record { handed = 1; from = 1; makes = 1; has_h = false }

abbrev pub round₃ : Call
round₃ = record { handed = 3; from = 2; makes = 1; has_h = false }

abbrev pub round₄ : Call
round₄ = record { handed = 5; from = 3; makes = 1; has_h = true }

abbrev pub round₅ : Call
round₅ = record { handed = 7; from = 4; makes = 4; has_h = true }

-- the sections that a call makes
abbrev pub made_sections : Call → Parameters → List Section
made_sections call P = take call.makes (drop call.from (transcript_sections P))

-- "3, 4, 5; 3, 6; 7, 8; 11, 12; 1, 2; then the work"
unfoldable pub prove_refusal : Call → (J R W : List ℕ) → (scratch output : ℕ) → Answer
prove_refusal call J R W scratch output =
    let P = parameters J in
    job_refusal J
    then randomness_refusal P call.handed R
    then witness_refusal P W
    then scratch_refusal P scratch
    then output_refusal (made_sections call P) output

module _ (X : Public) where
  open X use {P}
  open P use {n, r, κ, κ₁, κ₂, L, bound_A, bound_B, bound_C, bound_D}

  -- "13 norm of s_i above A's bound (lowest i, from 0)"
  unfoldable pub witness_norm : (ℕ → ℕ → Element) → Answer
  witness_norm s = first r (λ i. require (dec_le (norm_of (table n (s i))) bound_A) (refused 13 i))

  -- "14 digits of t above B's bound, 15 of g above C's, 16 of h above D's (place 0)"
  unfoldable pub t_norm : (ℕ → ℕ → Element) → Answer
  t_norm t = require (dec_le (norm_of (t_digits X t)) bound_B) (refused 14 0)

  unfoldable pub g_norm : (ℕ → ℕ → Element) → Answer
  g_norm g = require (dec_le (norm_of (g_digits X g)) bound_C) (refused 15 0)

  unfoldable pub h_norm : (ℕ → ℕ → Element) → Answer
  h_norm h = require (dec_le (norm_of (h_digits X h)) bound_D) (refused 16 0)

  -- "Prover: 13, 14, 15, 16."; 16 only where h is worked out
  unfoldable pub work_refusal : Call → (ℕ → ℕ → Element) → Answer
  work_refusal call s = witness_norm s then t_norm (F.t X s) then g_norm (F.g X s) then cond call.has_h (h_norm (F.h X s)) fine

  -- the words of the transcript's sections: u1, p, b'', u2, z, t, g, h
  unfoldable pub transcript : (ℕ → ℕ → Element) → List (List ℕ)
  transcript s =
      flat (table κ₁ (F.u₁ X s))
      ∷ table 256 (F.p X s)
      ∷ flat (table L (F.b'' X s))
      ∷ flat (table κ₂ (F.u₂ X s))
      ∷ flat (table n (F.z X s))
      ∷ flat (rows r κ (F.t X s))
      ∷ flat (triangle r (F.g X s))
      ∷ flat (triangle r (F.h X s))
      ∷ []

  -- the words that a call makes, counts included
  unfoldable pub made : Call → (ℕ → ℕ → Element) → List ℕ
  made call s = sections (take call.makes (drop call.from (transcript s)))

-- the first words of a buffer set to zero
abbrev pub zeroed : ℕ → List ℕ → List ℕ
zeroed need buffer = replicate need 0 ++ drop need buffer

-- what a call of the prover answers
unfoldable pub prove : Call → (J R W : List ℕ) → (scratch output : ℕ) → Answer
prove call J R W scratch output = prove_refusal call J R W scratch output then work_refusal (public J R) call (witness (parameters J) W)

-- the output at exit: "Refusals before the work touch no buffer."; "after 13 to 16 the output's needed part is zero too. Words beyond never change."
unfoldable pub prove_output : Call → (J R W scratch output : List ℕ) → List ℕ
prove_output call J R W scratch output =
    let X = public J R in
    let s = witness (parameters J) W in
    let need = span (made_sections call (parameters J)) in
    result_of (prove_refusal call J R W (length scratch) (length output))
    (result_of (work_refusal X call s) (made X call s ++ drop need output) (zeroed need output))
    output

-- the scratch at exit: "After any later answer scratch is zero to the length needed"
unfoldable pub prove_scratch : Call → (J R W scratch output : List ℕ) → List ℕ
prove_scratch call J R W scratch output =
    result_of (prove_refusal call J R W (length scratch) (length output)) (zeroed (scratch_need (parameters J)) scratch) scratch
