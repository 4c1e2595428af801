-- What holds of a job, a randomness and a transcript that are refused nothing: sizes, and the room from the places on that `offsets` gives.
use mathlib.Core.Path.{◌≡◌, sym, subst}
use mathlib.Core.List.{List}
use Prim.Native.Nat.{ℕ, ◌+◌, ◌*◌, ◌≤◌, ◌<◌, ◌^◌}
use native.Mathlib.Nat.{mul-le-mul}
use native.Mathlib.Omega.{arith}
use lib.ListN.{length}
use Rattle.ring_inner_product.specs.Run.{Run}
use Rattle.spec_protocol.specs.Parameters.{Parameters, parameters, triangular}
use Rattle.spec_protocol.specs.Layout.{start, job_sections, transcript_sections}
use Rattle.spec_protocol.specs.Laid.{Laid, nth}
use Rattle.relation_env_params.specs.declared.env_params.EnvironmentParameters.{EnvironmentParameters}
use Rattle.relation_env_params.specs.Parameters.{parameters_of}
use Rattle.layout_sizes.specs.Sizes.{Sized}
use Rattle.layout_sizes.proofs.Sized.{sized}
use Rattle.core_aggregate.proofs.Grid.{row-run}
use Rattle.verifier_common.specs.Work.{Received, Posed}

-- a section that starts after no words
from_nothing : (s n len : ℕ) → 0 + s + n ≤ len → s + n ≤ len
from_nothing s n len h = omega arith

-- a product of two numbers up to 16
pub product_small : (r κ : ℕ) → r ≤ 16 → κ ≤ 16 → r * κ ≤ 256
product_small r κ h h' = mul-le-mul h h'

module _ {T : List ℕ} {params : EnvironmentParameters} (w : Received T params) where
  -- the words of a section of the transcript
  pub received_room : (m at : ℕ) → m < 8 → at ≡ start (transcript_sections (parameters_of params)) m → at + (nth (transcript_sections (parameters_of params)) m).count ≤ length T
  received_room m at h e =
      subst (λ x. x + (nth (transcript_sections (parameters_of params)) m).count ≤ length T) (sym e)
      (from_nothing (start (transcript_sections (parameters_of params)) m) (nth (transcript_sections (parameters_of params)) m).count (length T) (w.transcript.inside m h))

-- where the words of the transcript's section m start
abbrev pub transcript_at : Parameters → ℕ → ℕ
transcript_at P m = start (transcript_sections P) m

module _ {J T : List ℕ} {params : EnvironmentParameters} (w : Posed J T params) where
  -- the record's parameters can be reckoned with
  pub reckoned : Sized (parameters_of params)
  reckoned = sized J (parameters_of params) w.sound w.same

  -- the transcript is one of theirs
  pub received : Received T params
  received = record { sized = reckoned; transcript = subst (λ (P : Parameters). Laid T 0 (transcript_sections P)) (sym w.same) w.transcript }

  -- the words of a section of the job
  pub job-room : (m at : ℕ) → m < 10 → at ≡ 31 + start (job_sections (parameters_of params)) m → at + (nth (job_sections (parameters_of params)) m).count ≤ length J
  job-room m at h e =
      subst (λ x. x + (nth (job_sections (parameters_of params)) m).count ≤ length J) (sym e)
      (subst (λ (P : Parameters). 31 + start (job_sections P) m + (nth (job_sections P) m).count ≤ length J) (sym w.same) (w.job.inside m h))

  -- of the transcript
  pub transcript-room : (m at : ℕ) → m < 8 → at ≡ start (transcript_sections (parameters_of params)) m → at + (nth (transcript_sections (parameters_of params)) m).count ≤ length T
  transcript-room = received_room received

module _ (J X : List ℕ) (params : EnvironmentParameters) (s : Posed J X params) where
  -- a bound by the job's parameters is one by the parameters and the place that the code holds
  pub placed : (ws : List ℕ) (place count : Parameters → ℕ) (at : ℕ) → at ≡ place (parameters_of params) → place (parameters J) + 64 * count (parameters J) ≤ length ws
      → at + 64 * count (parameters_of params) ≤ length ws
  placed ws place count at e h = subst (λ a. a + 64 * count (parameters_of params) ≤ length ws) (sym e) (subst (λ Q. place Q + 64 * count Q ≤ length ws) (sym s.same) h)

  -- b'' lies within the transcript
  pub b''-within : (at : ℕ) → at ≡ transcript_at (parameters_of params) 2 → at + 64 * params.const_agg_length ≤ length X
  b''-within at e =
      placed X (λ Q. transcript_at Q 2) (λ Q. Q.L) at e
      (from_nothing (transcript_at (parameters J) 2) (64 * (parameters J).L) (length X) (s.transcript.inside 2 (omega arith)))

module _ (X : List ℕ) (params : EnvironmentParameters) (s : Received X params) where
  -- z, t, g and h lie within the transcript
  pub z-within : (at : ℕ) → at ≡ transcript_at (parameters_of params) 4 → at + 64 * params.rank ≤ length X
  z-within at e = received_room s 4 at (omega arith) e

  pub t_within : (at : ℕ) → at ≡ transcript_at (parameters_of params) 5 → at + 64 * (params.multiplicity * params.kappa) ≤ length X
  t_within at e = received_room s 5 at (omega arith) e

  pub g_within : (at : ℕ) → at ≡ transcript_at (parameters_of params) 6 → at + 64 * triangular params.multiplicity ≤ length X
  g_within at e = received_room s 6 at (omega arith) e

  pub h-within : (at : ℕ) → at ≡ transcript_at (parameters_of params) 7 → at + 64 * triangular params.multiplicity ≤ length X
  h-within at e = received_room s 7 at (omega arith) e

  -- z as a run
  pub z-run : (at : ℕ) → at ≡ transcript_at (parameters_of params) 4 → length X < 2 ^ 61 → Run X at 64 params.rank
  z-run at e short = row-run X at params.rank (z-within at e) (omega (arith, s.sized.within.n.1)) short
