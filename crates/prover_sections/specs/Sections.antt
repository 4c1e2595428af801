-- The words of the transcript's sections as they are made of slices and of what stands in the scratch's regions.
use Rattle.std.specs.Prelude.{List, [], ◌∷◌, ℕ, ◌+◌, ◌*◌}
use Rattle.math.specs.lists.Table.{table}
use Rattle.math.specs.lists.Part.{part}
use Rattle.ring_inner_product.specs.Run.{run}
use Rattle.spec_protocol.specs.Parameters.{Parameters, T}
use Rattle.spec_protocol.specs.Layout.{start, job_sections}
use Rattle.spec_protocol.specs.Formulas.{◌⊕◌, ◌⊗◌, sum, flat, times}
use Rattle.ring_rq_matrix.specs.Region.{vector}
use Rattle.commitments_outer.specs.Cells.{digits_at}
use Rattle.layout_regions.specs.declared.Regions.{Regions}
use Rattle.prover_p_and_b.specs.Sections.{p_in, b''_in}

module _ (P : Parameters) where
  open P use {n, r, κ, κ₁, κ₂, b, t₁, t₂}

  module _ (regions : Regions) (scratch : List ℕ) where
    -- "u1 = B·digits(t) + C·digits(g)", of the cells in their regions
    abbrev pub u₁_in : List ℕ → List ℕ
    u₁_in J =
        flat
        (table κ₁
        (λ k.
        times (vector J (31 + start (job_sections P) 7) (r * κ * t₁)) (digits_at scratch (record { at = regions.t; cells = r * κ; parts = t₁ }) b) k
        ⊕ times (vector J (31 + start (job_sections P) 8) (T P * t₂)) (digits_at scratch (record { at = regions.g; cells = T P; parts = t₂ }) b) k))

    -- "u2 = D·digits(h)"
    abbrev pub u₂_in : List ℕ → List ℕ
    u₂_in J = flat (table κ₂ (times (vector J (31 + start (job_sections P) 9) (T P * t₁)) (digits_at scratch (record { at = regions.a_or_h; cells = T P; parts = t₁ }) b)))

    -- "z = Σ s_i·c_i"
    abbrev pub z_in : List ℕ → List ℕ
    z_in W = flat (table n (λ m. sum r (λ i. vector W 1 n i m ⊗ run scratch regions.challenges 64 i)))

    -- t, g and h as they stand
    abbrev pub t_in : List ℕ
    t_in = part scratch regions.t (64 * (r * κ))

    abbrev pub g_in : List ℕ
    g_in = part scratch regions.g (64 * T P)

    abbrev pub h_in : List ℕ
    h_in = part scratch regions.a_or_h (64 * T P)

    abbrev pub t_g_h_in : List (List ℕ)
    t_g_h_in = t_in ∷ g_in ∷ h_in ∷ []

    -- round 5's sections, and all
    abbrev pub last_in : List ℕ → List (List ℕ)
    last_in W = z_in W ∷ t_g_h_in

    abbrev pub all_in : (J R W : List ℕ) → List (List ℕ)
    all_in J R W = u₁_in J ∷ p_in P R W ∷ b''_in P regions scratch ∷ u₂_in J ∷ last_in W
