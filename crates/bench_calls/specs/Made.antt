-- What the calls leave.
use Rattle.std.specs.Prelude.{Bool, cond, List, ℕ, ◌+◌, ◌*◌, get_or}
use Rattle.math.specs.lists.Table.{table, cat}
use Rattle.math.specs.lists.Part.{splice}
use Rattle.spec_leaves.specs.Rq.{Element}
use Rattle.spec_leaves.specs.Ring.{RqOps, words, scale}
use Rattle.ring_inner_product.specs.Run.{run}
use Rattle.core_jl.specs.Run.{run as projection_of}
use Rattle.spec_protocol.specs.Formulas.{sum, dot, flat, rows, times, digits_of}
use Rattle.ring_rq_matrix.specs.Region.{vector}
use Rattle.core_aggregate.specs.Weighed.{both}
use Rattle.bench_calls.specs.Fits.{psi_place, omega_place}

-- what the output holds: what was made from its start on where the arguments fit, and what it held where they do not
abbrev pub left : Bool → List ℕ → List ℕ → List ℕ
left fits before made = cond fits (splice before 0 made) before

-- the inner product of two vectors of n elements
abbrev pub inner_product_made : List ℕ → List ℕ → ℕ → List ℕ
inner_product_made x y n = words (dot n (run x 0 64) (run y 0 64))

-- the linear combination of n elements with as many numbers
abbrev pub combination_made : List ℕ → List ℕ → ℕ → List ℕ
combination_made x factors n = words (sum n (λ m. scale (run x 0 64 m) (get_or factors m 0)))

-- the projection of r vectors of n elements
abbrev pub projection_made : List ℕ → List ℕ → (n r : ℕ) → List ℕ
projection_made pi s n r = projection_of pi 0 s 0 n 0 r

-- the digits of cells from a place on, cell after cell
abbrev pub digits_from : List ℕ → (at cells base parts : ℕ) → List Element
digits_from words at cells base parts = digits_of base parts (table cells (run words at 64))

-- φ'' for each row of psi and of omega
abbrev pub phi_made : List ℕ → List ℕ → (r n count number : ℕ) → List ℕ
phi_made phi randomness r n count number =
    flat (cat number (λ k. rows r n (both phi 0 r n count randomness 0 (psi_place r n + k * count) (omega_place r n count number + k * 256))))

-- u1 of the matrices B and C and the cells of t and g
abbrev pub u1_made : List ℕ → List ℕ → (number t_cells t-parts g_cells g-parts base : ℕ) → List ℕ
u1_made matrices from number t_cells t-parts g_cells g-parts base =
    let b = times (vector matrices 0 (t_cells * t-parts)) (digits_from from 0 t_cells base t-parts) in
    let c = times (vector matrices (64 * (number * (t_cells * t-parts))) (g_cells * g-parts)) (digits_from from (64 * t_cells) g_cells base g-parts) in
    flat (table number (λ k. RqOps.add (b k) (c k)))
