-- Transcripts that the prover made of one witness: forks and trees of them.
use Rattle.std.specs.Prelude.{◌≡◌, cond, List, ℕ, ◌+◌, ◌*◌, ◌%◌, eqb, length, get_or, set}
use Rattle.spec_leaves.specs.Zq.{Q}
use Rattle.spec_leaves.specs.Answer.{fine}
use Rattle.spec_leaves.specs.Rq.{Element}
use Rattle.spec_leaves.specs.Ring.{RqOps}
use Rattle.spec_protocol.specs.Parameters.{Parameters, parameters}
use Rattle.spec_protocol.specs.Layout.{start, randomness_sections}
use Rattle.spec_protocol.specs.Prover.{whole, prove}
use Rattle.theorem_soundness.specs.Altered.{made_transcript}
use Rattle.theorem_soundness.specs.Weights.{IsUnit}
use Rattle.theorem_extraction.specs.Fork.{Branch, Node, base, first, second, mixed, Used, ◌⊖◌, Fork}
use Rattle.theorem_extraction.specs.Tree.{Place, root, beta, alpha, psi, psi-beta, omega, omega-beta, Within, Tree}

-- the prover's whole call on a witness, with the randomness that the transcript is accepted with, made it
pub record Made {J : List ℕ} (W : List ℕ) (X : Branch J) : Type 0 where
  pub scratch : List ℕ
  pub output : List ℕ
  pub proved : prove whole J X.accepted.randomness W (length scratch) (length output) ≡ fine
  pub is_output : X.transcript ≡ made_transcript J X.accepted.randomness W scratch output

-- a fork whose transcripts the prover made of one witness
abbrev pub HonestFork : {J : List ℕ} → List ℕ → Fork J → Type 0
HonestFork {J} W F = (v : Node) → Used (parameters J).r v → Made W (F.branch v)

-- a tree of such forks
abbrev pub HonestTree : {J : List ℕ} → List ℕ → Tree J → Type 0
HonestTree {J} W T = (p : Place) → Within (parameters J) p → HonestFork W (T.fork p)

-- a sign word of the other sign
abbrev pub other_sign : ℕ → ℕ
other_sign w = cond (eqb w 1) 0 1

-- words with the sign word at a place changed to the other sign
unfoldable pub flipped : ℕ → List ℕ → List ℕ
flipped place words = set words place (other_sign (get_or words place 0))

-- "x_i − c_i, y_i − c_i, x_i − y_i are units"
pub record UnitDifferences (c x y : Element) : Type 0 where
  pub unit_x : IsUnit RqOps (x ⊖ c)
  pub unit_y : IsUnit RqOps (y ⊖ c)
  pub unit_x_y : IsUnit RqOps (x ⊖ y)

-- where sign word j of challenge i stands in the randomness
abbrev pub sign_place : Parameters → ℕ → ℕ → ℕ
sign_place P i j = start (randomness_sections P) 5 + 41 * i + j

-- randomness for the transcripts of a fork: sign word 0 of challenge i flipped gives x_i, sign word 1 gives y_i
unfoldable pub flipped_at : Parameters → List ℕ → Node → List ℕ
flipped_at P R base = R
flipped_at P R (first i) = flipped (sign_place P i 0) R
flipped_at P R (second i) = flipped (sign_place P i 1) R
flipped_at P R (mixed i j) = flipped (sign_place P j 0) (flipped (sign_place P i 0) R)

-- words with 1 added to the word at a place, modulo Q
unfoldable pub raised : ℕ → List ℕ → List ℕ
raised place words = set words place ((get_or words place 0 + 1) % Q)

module _ (P : Parameters) where
  -- where the constant coefficients of alpha_k and of beta_k, and the entries of row k of psi and of omega, stand in the randomness
  abbrev pub alpha_place : ℕ → ℕ
  alpha_place k = start (randomness_sections P) 3 + 64 * k

  abbrev pub beta_place : ℕ → ℕ
  beta_place k = start (randomness_sections P) 4 + 64 * k

  abbrev pub psi_place : ℕ → ℕ → ℕ
  psi_place k x = start (randomness_sections P) 1 + (k * P.l + x)

  abbrev pub omega_place : ℕ → ℕ → ℕ
  omega_place k j = start (randomness_sections P) 2 + (k * 256 + j)

  -- randomness for the forks of a tree: 1 added to what is changed
  unfoldable pub raised_at : ℕ → List ℕ → Place → List ℕ
  raised_at row R root = R
  raised_at row R beta = raised (beta_place row) R
  raised_at row R (alpha k) = raised (alpha_place k) R
  raised_at row R (psi x) = raised (psi_place row x) R
  raised_at row R (psi-beta x) = raised (beta_place row) (raised (psi_place row x) R)
  raised_at row R (omega j) = raised (omega_place row j) R
  raised_at row R (omega-beta j) = raised (beta_place row) (raised (omega_place row j) R)
