-- The words of p and b'' as they are made of slices and of what stands in the scratch, and sections in an output.
use Rattle.std.specs.Prelude.{◌≡◌, List, ℕ, ◌+◌, ◌*◌, ◌≤◌, length}
use Rattle.math.specs.lists.Part.{part, splice}
use Rattle.spec_protocol.specs.Parameters.{Parameters}
use Rattle.spec_protocol.specs.Layout.{start, sections, randomness_sections}
use Rattle.core_jl.specs.Run as Jl
use Rattle.layout_regions.specs.declared.Regions.{Regions}
use Rattle.relation_env_params.specs.declared.env_params.EnvironmentParameters.{EnvironmentParameters}
use Rattle.relation_env_params.specs.Parameters.{parameters_of}
use Rattle.layout_sizes.specs.Sizes.{Sized}

module _ (P : Parameters) where
  open P use {n, r, L}

  -- "p = Σ Π_i·s_i over coefficients"
  abbrev pub p_in : (R W : List ℕ) → List ℕ
  p_in R W = Jl.run R (start (randomness_sections P) 0) W 1 n 0 r

  module _ (regions : Regions) (scratch : List ℕ) where
    -- b'' as it stands
    abbrev pub b''_in : List ℕ
    b''_in = part scratch regions.b2 (64 * L)

-- room for sections from a place on
abbrev pub SectionsRoom : ℕ → List (List ℕ) → List ℕ → Type 0
SectionsRoom at ws output = at + length (sections ws) ≤ length output

-- sections stored from a place on, and the place after them
abbrev pub Put : (at next : ℕ) → (entry exit : List ℕ) → List (List ℕ) → Type 0
Put at next entry exit ws = (next ≡ at + length (sections ws)) × (exit ≡ splice entry at (sections ws))

-- the witness's vectors lie within its slice
abbrev pub Vectors : EnvironmentParameters → List ℕ → Type 0
Vectors params W = 1 + 64 * (params.multiplicity * params.rank) ≤ length W

-- the parameters are within their limits, and the projection words and the witness's vectors within their slices
pub record Projects (params : EnvironmentParameters) (R W : List ℕ) : Type 0 where
  pub sized : Sized (parameters_of params)
  pub matrices : start (randomness_sections (parameters_of params)) 0 + 16384 * params.rank * params.multiplicity ≤ length R
  pub vectors : Vectors params W
