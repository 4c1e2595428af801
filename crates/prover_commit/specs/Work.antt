-- What the steps of the prover's work stand on, and what they leave in the scratch.
use Rattle.std.specs.Prelude.{Bool, ◌||◌, List, ℕ, ◌+◌, ◌*◌, ◌≤◌, eqb, leb, length}
use Rattle.math.specs.lists.Part.{splice}
use Rattle.spec_protocol.specs.Parameters.{parameters, triangular}
use Rattle.spec_protocol.specs.Layout.{start, witness_sections}
use Rattle.spec_protocol.specs.Formulas.{flat, triangle}
use Rattle.admission_slices.specs.declared.calls.Call.{Call}
use Rattle.admission_slices.specs.declared.calls.Call.TheVariants as C
use Rattle.layout_regions.specs.declared.Regions.{Regions}
use Rattle.relation_env_params.specs.declared.env_params.EnvironmentParameters.{EnvironmentParameters}
use Rattle.relation_env_params.specs.Parameters.{parameters_of}
use Rattle.layout_sizes.specs.Sizes.{Sized}
use Rattle.core_workspace.specs.Ready.{Ready}
use Rattle.core_workspace.specs.Holds.{Holds}
use Rattle.core_workspace.specs.Aggregated.{a''_words, φ''_words, φ_words, c_words}
use Rattle.core_garbage_polynomials.specs.Garbage.{h_of}
use Rattle.core_garbage_ntt.specs.NttLines.{HRoom}
use Rattle.prover_commit.specs.Words.{t_words, g_words, b''_words, h_words}

-- a job that is refused nothing, and a witness of the job's size
pub record WorkGiven (J W : List ℕ) (params : EnvironmentParameters) (regions : Regions) (scratch : List ℕ) : Type 0 where
  pub ready : Ready J params regions scratch
  pub witness : start (witness_sections (parameters J)) 0 + 64 * ((parameters J).r * (parameters J).n) ≤ length W

-- parameters within their limits, and regions within a scratch
pub record Placed (params : EnvironmentParameters) (regions : Regions) (scratch : List ℕ) : Type 0 where
  pub sized : Sized (parameters_of params)
  pub t : regions.t + 64 * (params.multiplicity * params.kappa) ≤ length scratch
  pub g : regions.g + 64 * triangular params.multiplicity ≤ length scratch
  pub h : regions.a_or_h + 64 * triangular params.multiplicity ≤ length scratch
  pub b'' : regions.b2 + 64 * params.const_agg_length ≤ length scratch
  pub challenges : regions.challenges + 64 * params.multiplicity ≤ length scratch

-- t and g stand in their regions
pub record Committed (J W : List ℕ) (regions : Regions) (scratch : List ℕ) : Type 0 where
  pub t : Holds scratch regions.t (t_words J W)
  pub g : Holds scratch regions.g (g_words J W)

module _ (J R W : List ℕ) (regions : Regions) (scratch : List ℕ) where
  -- φ'', a'' and φ too
  pub record Weighed : Type 0 where
    pub committed : Committed J W regions scratch
    pub phi2 : Holds scratch regions.phi2 (φ''_words J R)
    pub a2 : Holds scratch regions.a2 (a''_words J R)
    pub phi : Holds scratch regions.phi (φ_words J R)

  -- t, g and h
  pub record Aggregated : Type 0 where
    pub committed : Committed J W regions scratch
    pub h : Holds scratch regions.a_or_h (h_words J R W)

  -- b'' too
  abbrev pub AllMade : Type 0
  AllMade = Aggregated × Holds scratch regions.b2 (b''_words J R W)

  -- what the sections of a call are made of stands in its regions
  abbrev pub Filled : Call → Type 0
  Filled C.Whole = Aggregated × (Holds scratch regions.b2 (b''_words J R W) × Holds scratch regions.challenges (c_words J R))
  Filled C.Round1 = Committed J W regions scratch
  Filled C.Round2 = Committed J W regions scratch
  Filled C.Round3 = Holds scratch regions.b2 (b''_words J R W)
  Filled C.Round4 = Aggregated
  Filled C.Round5 = Aggregated × Holds scratch regions.challenges (c_words J R)

-- r vectors of n elements whose t, g and h are made by plain products: one element each, or few in all, are used too seldom for transforms to pay (docs/DECISIONS.md)
abbrev pub plain_sizes : (n r : ℕ) → Bool
plain_sizes n r = eqb n 1 || leb (n * r) 4

-- the witness's vectors, and the regions with room for what h is made of
pub record ReadyForH (W : List ℕ) (params : EnvironmentParameters) (regions : Regions) (scratch : List ℕ) : Type 0 where
  pub placed : Placed params regions scratch
  pub witness : 1 + 64 * (params.multiplicity * params.rank) ≤ length W
  pub room : HRoom scratch params.multiplicity params.rank regions.phi2 regions.a2 regions.phi regions.a_or_h

-- a scratch into which h of the vectors φ that stand in it is stored
abbrev pub with_h : List ℕ → EnvironmentParameters → Regions → List ℕ → List ℕ
with_h W params regions scratch = splice scratch regions.a_or_h (flat (triangle params.multiplicity (h_of scratch regions.phi W 1 params.rank)))
