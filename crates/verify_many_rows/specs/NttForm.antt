-- z of every transcript in NTT form in its window, and the products of a row of A in NTT form with it.
use Rattle.std.specs.Prelude.{◌≡◌, Bool, true, false, cond, List, ℕ, ◌+◌, ◌*◌, ◌≤◌, ◌<◌, ltb, leb}
use Rattle.math.specs.lists.Part.{splice}
use Rattle.spec_leaves.specs.Ring.{words}
use Rattle.spec_protocol.specs.Parameters.{Parameters, parameters}
use Rattle.spec_protocol.specs.Layout.{start, job_sections, transcript_sections, scratch_need}
use Rattle.spec_protocol.specs.Many.{many_need, transcript_part, AllRowsDone}
use Rattle.spec_protocol.specs.Laid.{Laid}
use Rattle.relation_env_params.specs.declared.env_params.EnvironmentParameters.{EnvironmentParameters}
use Rattle.relation_env_params.specs.Parameters.{parameters_of}
use Rattle.relation_env_params.specs.SectionOne.{Sound}
use Rattle.ntt_vectors.specs.NttForm.{NttForm, AllValues, ntt_words, ntt_dot}

-- whether the rows of A are taken in NTT form, which costs less from two transcripts, two rows and five elements on
abbrev pub shares : Parameters → (count : ℕ) → Bool
shares P count = cond (ltb count 2) false (cond (ltb P.κ 2) false (leb 5 P.n))

-- where z stands in a transcript
abbrev pub z_at : Parameters → ℕ
z_at P = start (transcript_sections P) 4

-- the scratch after the values of z are stored for transcript m, where it passes
abbrev pub z_for : Parameters → (T : List ℕ) (count m start : ℕ) → (pass : Bool) → List ℕ → List ℕ
z_for P T count m start pass S = cond pass (splice S start (ntt_words (transcript_part P count T m) (z_at P) P.n)) S

-- a slice holds z of transcript m in NTT form from a place on
abbrev pub NttFormZ : Parameters → (T : List ℕ) (count m start : ℕ) → List ℕ → Type 0
NttFormZ P T count m start S = NttForm S start (transcript_part P count T m) (z_at P) P.n

-- z of every transcript that passes is in NTT form at the start of its window
abbrev pub AllZ : (J : List ℕ) → (count : ℕ) → (passes : ℕ → Bool) → (T S : List ℕ) → Type 0
AllZ J count passes T S = (m : ℕ) → m < count → passes m ≡ true → NttFormZ (parameters J) T count m (m * scratch_need (parameters J)) S

-- the scratch after the product of a row in NTT form with the values in one window, where its transcript passes
abbrev pub product_for : (values : List ℕ) (n start place : ℕ) → (pass : Bool) → List ℕ → List ℕ
product_for values n start place pass S = cond pass (splice S place (words (ntt_dot values 0 S start n))) S

-- a job that is refused nothing, scratch enough for so many transcripts, and values in the windows of those that pass
pub record Valued (J : List ℕ) (count : ℕ) (passes : ℕ → Bool) (S : List ℕ) (scratch : ℕ) (params : EnvironmentParameters) : Type 0 where
  pub same : parameters_of params ≡ parameters J
  pub sound : Sound J
  pub job : Laid J 31 (job_sections (parameters J))
  pub few : count ≤ 8
  pub room : many_need (parameters J) count ≤ scratch
  pub values : (m : ℕ) → m < count → passes m ≡ true → AllValues S (m * scratch_need (parameters J)) (parameters J).n

-- row ρ is made for all transcripts whose z is in NTT form: their products are those of one row more, and z stays
abbrev pub RowMade : (J : List ℕ) → (count : ℕ) → (passes : ℕ → Bool) → (ρ : ℕ) → (S S' : List ℕ) → Type 0
RowMade J count passes ρ S S' =
    (T : List ℕ) → AllZ J count passes T S → AllRowsDone J count passes T S ρ → AllZ J count passes T S' × AllRowsDone J count passes T S' (ρ + 1)
