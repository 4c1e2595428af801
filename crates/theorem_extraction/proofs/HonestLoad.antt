-- Of every test load with parts enough there is a fork and a tree of the prover's transcripts: nothing is left to assume, and the premises of T4 and T5 are met.
use mathlib.Core.Path.{◌≡◌, refl, ap, ◌∙◌}
use mathlib.Core.List.{List}
use Prim.Native.Nat.{ℕ, ◌≤◌, ◌<◌, ◌^◌}
use native.Mathlib.Nat.{le_refl}
use native.Mathlib.Decide.{dec_le}
use native.Mathlib.Omega.{arith}
use lib.ListN.{length, take, replicate, length-replicate}
use Rattle.spec_leaves.specs.Answer.{fine, accepted}
use Rattle.spec_leaves.specs.Recompose.{PartsNeeded}
use Rattle.spec_leaves.proofs.Recompose.{needed_of_2}
use Rattle.spec_protocol.specs.Parameters.{parameters, limits, enough_aggregations}
use Rattle.spec_protocol.specs.Layout.{sections, span, transcript_sections, scratch_need, randomness_refusal}
use Rattle.spec_protocol.specs.Views.{public, witness}
use Rattle.spec_protocol.specs.Formulas as Formulas
use Rattle.spec_protocol.specs.Prover.{whole, prove, prove_output}
use Rattle.spec_protocol.specs.Conditions.{cells_left, digit_sum, conditions}
use Rattle.spec_protocol.specs.Load.{Given, load_parameters, needs_refusal, load_job, load_witness, load_randomness}
use Rattle.spec_protocol.proofs.Acceptance.{base_at-least}
use Rattle.spec_protocol.proofs.CellsLeft.{none-with-enough, cells_left-by_formulas}
use Rattle.spec_protocol.proofs.Load.{load_proved_with, load_conditions, load_accepted}
use Rattle.spec_protocol.proofs.LoadJob.{load_randomness-fine}
use Rattle.spec_protocol.proofs.Stated.{stated}
use Rattle.theorem_extraction.specs.Fork.{Fork}
use Rattle.theorem_extraction.specs.Tree.{Tree}
use Rattle.theorem_extraction.specs.Honest.{HonestFork, HonestTree, flipped_at, raised_at}
use Rattle.theorem_extraction.proofs.HonestExists.{honest-fork_exists}
use Rattle.theorem_extraction.proofs.HonestTree.{place-fine, honest_tree_exists}

-- a load that is refused nothing, of so many parts that no cell has something left
module _ (G : Given) (seed : ℕ) (fits : seed < 2 ^ 32) (admitted : needs_refusal G ≡ fine)
    (parts : ℕ) (needed : PartsNeeded G.b parts) (enough₁ : parts ≤ G.t₁) (enough₂ : parts ≤ G.t₂) where
  abbrev J : List ℕ
  J = load_job G seed

  abbrev W : List ℕ
  W = load_witness G seed

  -- scratch and output as long as they must be
  abbrev scratch : List ℕ
  scratch = replicate (scratch_need (load_parameters G)) 0

  abbrev output : List ℕ
  output = replicate (span (transcript_sections (load_parameters G))) 0

  scratch-enough : scratch_need (load_parameters G) ≤ length scratch
  scratch-enough = rw (length-replicate {A = ℕ} (scratch_need (load_parameters G)) 0) (le_refl (scratch_need (load_parameters G)))

  output-enough : span (transcript_sections (load_parameters G)) ≤ length output
  output-enough = rw (length-replicate {A = ℕ} (span (transcript_sections (load_parameters G))) 0) (le_refl (span (transcript_sections (load_parameters G))))

  -- the prover makes a transcript with any randomness that is refused nothing
  proved : (R : List ℕ) → randomness_refusal (parameters J) 7 R ≡ fine → prove whole J R W (length scratch) (length output) ≡ fine
  unfolding load_job sections
  proved R e = load_proved_with G seed fits admitted R e (length scratch) (length output) scratch-enough output-enough

  base_positive : 0 < G.b
  unfolding load_job sections
  base_positive =
      let R = load_randomness G seed in
      let X = take (span (transcript_sections (load_parameters G))) (prove_output whole J R W scratch output) in
      let verdict = load_accepted G seed fits admitted scratch output (scratch_need (load_parameters G)) scratch-enough output-enough (le_refl (scratch_need (load_parameters G))) in
      let two : 2 ≤ G.b = base_at-least J R X (scratch_need (load_parameters G)) (cells_left (public J R) (witness (load_parameters G) W)) verdict in
      omega arith

  -- the conditions hold, with no cell left
  held : (R : List ℕ) → conditions (public J R) (witness (parameters J) W) ≡ accepted 0
  unfolding load_job sections
  held R =
      let X = public J R in
      let s = witness (load_parameters G) W in
      load_conditions G seed fits admitted R
      ∙ ap accepted (cells_left-by_formulas X s ∙ none-with-enough X (Formulas.t X s) (Formulas.g X s) (Formulas.h X s) parts base_positive needed enough₁ enough₂)

  room : (R : List ℕ) → digit_sum (public J R) (witness (parameters J) W) ≤ (parameters J).beta_prime_sq
  room R = (((stated {X = public J R} {s = witness (parameters J) W} refl).accepts_exactly_when 0).0 (held R)).0.digits

  randomness-fine : randomness_refusal (parameters J) 7 (load_randomness G seed) ≡ fine
  unfolding load_job sections
  randomness-fine = load_randomness-fine G seed fits

  -- there is a fork of the prover's transcripts of the load
  pub load_fork_exists : (F : Fork (load_job G seed)) × HonestFork (load_witness G seed) F
  load_fork_exists =
      honest-fork_exists J (load_randomness G seed) W scratch output (proved (load_randomness G seed) randomness-fine) (held (load_randomness G seed))
      (λ v used. room (flipped_at (parameters J) (load_randomness G seed) v))

  -- and a tree, whichever row of psi and omega is changed
  pub load_tree_exists : (row : ℕ) → row < G.L → (T : Tree (load_job G seed)) × HonestTree (load_witness G seed) T
  unfolding load_job sections
  load_tree_exists row below =
      let R = load_randomness G seed in
      let at = raised_at (parameters J) row R in
      honest_tree_exists J R W scratch output row below
      (λ p within. proved (at p) (place-fine J R row below p within randomness-fine))
      (λ p within. held (at p))
      (λ p within v used. room (flipped_at (parameters J) (at p) v))

-- one such load: n = r = κ = κ1 = κ2 = K = l = 1, base 2 in 31 parts, L = 4
abbrev pub least : Given
least = record { n = 1; r = 1; κ = 1; κ₁ = 1; κ₂ = 1; K = 1; l = 1; log_q = 32; b = 2; t₁ = 31; t₂ = 31; L = 4 }

least_admitted : needs_refusal least ≡ fine
unfolding limits enough_aggregations dec_le
least_admitted = refl

pub least-fork : (seed : ℕ) → seed < 2 ^ 32 → (F : Fork (load_job least seed)) × HonestFork (load_witness least seed) F
least-fork seed fits = load_fork_exists least seed fits least_admitted 31 needed_of_2 (le_refl 31) (le_refl 31)

pub least_tree : (seed : ℕ) → seed < 2 ^ 32 → (T : Tree (load_job least seed)) × HonestTree (load_witness least seed) T
least_tree seed fits = load_tree_exists least seed fits least_admitted 31 needed_of_2 (le_refl 31) (le_refl 31) 0 (omega arith)
