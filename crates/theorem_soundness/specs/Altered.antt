-- A transcript whose b'' is altered: what check 22 does not force.
use Rattle.std.specs.Prelude.{◌≡◌, List, [], ◌∷◌, ℕ, ◌*◌, ◌<◌, take}
use Rattle.std.proofs.Math.Decide.{dec_le}
use Rattle.math.specs.lists.Table.{table}
use Rattle.math.specs.lists.Part.{splice}
use Rattle.spec_leaves.specs.Zq.{zneg}
use Rattle.spec_leaves.specs.Answer.{Answer, fine, failed, ◌then◌}
use Rattle.spec_leaves.specs.Rq.{Element, coeff, rzero}
use Rattle.spec_leaves.specs.Ring.{words}
use Rattle.spec_protocol.specs.Checks.{require}
use Rattle.spec_protocol.specs.Parameters.{Parameters, parameters}
use Rattle.spec_protocol.specs.Layout.{span, start, transcript_sections}
use Rattle.spec_protocol.specs.Views.{Public, Message, message}
use Rattle.spec_protocol.specs.Formulas as F
use Rattle.spec_protocol.specs.Formulas.{◌⊕◌, ◌⊗◌, sum, flat}
use Rattle.spec_protocol.specs.Prover.{t_norm, g_norm, h_norm, whole, prove_output}
use Rattle.spec_protocol.specs.Conditions.{p_norm, psi_error, digit_sum, ring_error}

-- a message with another b''
abbrev pub with_b'' : (ℕ → Element) → Message → Message
with_b'' b'' M = record { u₁ = M.u₁; p = M.p; b'' = b''; u₂ = M.u₂; z = M.z; t = M.t; g = M.g; h = M.h }

-- b''_k ⊕ ε_k in place of b''_k
abbrev pub altered : (ℕ → Element) → Message → Message
altered ε M = with_b'' (λ k. M.b'' k ⊕ ε k) M

-- the same on a transcript's words: those of section b'' are replaced
unfoldable pub altered_words : Parameters → (ℕ → Element) → List ℕ → List ℕ
altered_words P ε T = splice T (start (transcript_sections P) 2) (flat (table P.L (altered ε (message P T)).b''))

-- the message that the formulas give of a witness
abbrev pub honest : Public → (ℕ → ℕ → Element) → Message
honest X s = record { u₁ = F.u₁ X s; p = F.p X s; b'' = F.b'' X s; u₂ = F.u₂ X s; z = F.z X s; t = F.t X s; g = F.g X s; h = F.h X s }

-- the transcript that the prover makes: its output to the length needed
abbrev pub made_transcript : (J R W scratch output : List ℕ) → List ℕ
made_transcript J R W scratch output = take (span (transcript_sections (parameters J))) (prove_output whole J R W scratch output)

module _ (X : Public) where
  open X use {P, beta}
  open P use {K, L, beta_sq, beta_prime_sq}

  -- Σ β_k⊗ε_k
  unfoldable pub beta_sum : (ℕ → Element) → Element
  beta_sum ε = sum L (λ k. beta k ⊗ ε k)

  module _ (s : ℕ → ℕ → Element) where
    -- 14 to 16 refuse nothing
    abbrev pub Within : Type 0
    Within = t_norm X (F.t X s) then g_norm X (F.g X s) then h_norm X (F.h X s) ≡ fine

    -- the ring constraints are all met
    abbrev pub RingsMet : Type 0
    RingsMet = (k : ℕ) → k < K → words (ring_error X s k) ≡ rzero

    -- coeff0(ε_k) = −psi-error_k
    abbrev pub Corrects : (ℕ → Element) → Type 0
    Corrects ε = (k : ℕ) → k < L → coeff (words (ε k)) 0 ≡ zneg (psi_error X s k)

    -- 21 and 23 of the honest transcript
    unfoldable pub norms : Answer
    norms =
        require (dec_le (p_norm X s) (128 * beta_sq)) (failed 21 (p_norm X s ∷ 128 * beta_sq ∷ []))
        then require (dec_le (digit_sum X s) beta_prime_sq) (failed 23 (digit_sum X s ∷ beta_prime_sq ∷ []))
