-- What 24 to 26 answer of challenges that are handed in, which the code takes from their region of the scratch, and of Σ⟨φ_i,z⟩·c_i.
use Rattle.std.specs.Prelude.{List, [], ℕ, ◌+◌, ◌*◌, ◌≤◌, length}
use Rattle.spec_leaves.specs.Answer.{Answer, failed}
use Rattle.spec_leaves.specs.Rq.{Element}
use Rattle.ring_inner_product.specs.Run.{run}
use Rattle.spec_protocol.specs.Checks.{require}
use Rattle.spec_protocol.specs.Parameters.{Parameters, parameters}
use Rattle.spec_protocol.specs.Views.{Public, public, message}
use Rattle.spec_protocol.specs.Formulas.{◌⊗◌, sum, dot, pairs, φ_sum}
use Rattle.spec_protocol.specs.Verifier.{same, twice, check_24, check_25}
use Rattle.layout_regions.specs.declared.Regions.{Regions}
use Rattle.relation_env_params.specs.declared.env_params.EnvironmentParameters.{EnvironmentParameters}
use Rattle.verifier_common.specs.Answers.{bare}

-- the public values with challenges handed in
abbrev pub with_challenges : Public → (ℕ → Element) → Public
with_challenges X c = record {
  P = X.P;
  a' = X.a';
  φ' = X.φ';
  b₀ = X.b₀;
  a = X.a;
  φ = X.φ;
  b = X.b;
  A = X.A;
  B = X.B;
  C = X.C;
  D = X.D;
  Π = X.Π;
  psi = X.psi;
  omega = X.omega;
  alpha = X.alpha;
  beta = X.beta;
  c = c;
}

-- the challenges' region
abbrev pub challenges_in : List ℕ → Regions → ℕ → Element
challenges_in S regions = run S regions.challenges 64

-- the challenges' region lies within the scratch
abbrev pub ChallengesWithin : EnvironmentParameters → Regions → List ℕ → Type 0
ChallengesWithin params regions S = regions.challenges + 64 * params.multiplicity ≤ length S

-- so does that of φ
abbrev pub LinesWithin : EnvironmentParameters → Regions → List ℕ → Type 0
LinesWithin params regions S = regions.phi + 64 * (params.multiplicity * params.rank) ≤ length S

-- "24 A·z is not Σ t_i·c_i."
abbrev pub az_of : (J T : List ℕ) → (ℕ → Element) → Answer
az_of J T c = check_24 (with_challenges (public J []) c) (message (parameters J) T)

module _ (P : Parameters) (T : List ℕ) (c : ℕ → Element) where
  -- "25 ⟨z,z⟩ is not Σ g_ij·c_i·c_j."
  abbrev pub z_inner_of : Answer
  z_inner_of = check_25 (with_challenges (bare P) c) (message P T)

  -- "26 twice Σ⟨φ_i,z⟩·c_i is not Σ h_ij·c_i·c_j.", of the former sum
  abbrev pub phi_of : Element → Answer
  phi_of lines = require (same (twice lines) (pairs P.r (λ i j. (message P T).h i j ⊗ c i ⊗ c j))) (failed 26 [])

-- "Σ⟨φ_i,z⟩·c_i"
abbrev pub φ_lines : (J R T : List ℕ) → Element
φ_lines J R T =
    let P = parameters J in
    let X = public J R in
    sum P.r (λ i. dot P.n (φ_sum X i) (message P T).z ⊗ X.c i)
