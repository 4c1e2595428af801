-- Whether the lengths of slices are exactly those that sizes within document 01's limits tell.
use Rattle.std.specs.Prelude.{Bool, ◌&&◌, ℕ, ◌+◌, ◌*◌, leb, eqb}

-- two vectors of n elements, and an element
abbrev pub inner_product_fits : (x y out n : ℕ) → Bool
inner_product_fits x y out n = leb n 64 && (eqb x (64 * n) && eqb y (64 * n) && eqb out 64)

-- n elements, as many numbers, and an element
abbrev pub combination_fits : (x factors out n : ℕ) → Bool
combination_fits x factors out n = leb n 64 && (eqb x (64 * n) && eqb factors n && eqb out 64)

-- r matrices of 256 rows of n elements, as many vectors, and 256 words
abbrev pub projection_fits : (pi s out n r : ℕ) → Bool
projection_fits pi s out n r = (leb n 64 && leb r 16) && (eqb pi (r * 256 * (64 * n)) && eqb s (r * (64 * n)) && eqb out 256)

-- where psi starts, behind r matrices of 256 rows of n elements, and omega, behind `number` rows of psi
abbrev pub psi_place : (r n : ℕ) → ℕ
psi_place r n = r * 256 * (64 * n)

abbrev pub omega_place : (r n count number : ℕ) → ℕ
omega_place r n count number = psi_place r n + number * count

-- `count` constraints of r vectors of n elements; the matrices, psi and omega; and `number` times r vectors
abbrev pub phi_fits : (phi randomness out r n count number : ℕ) → Bool
phi_fits phi randomness out r n count number =
    (leb n 64 && leb r 16 && (leb count 64 && leb number 32))
    && (eqb phi (64 * (r * n * count)) && eqb randomness (omega_place r n count number + number * 256) && eqb out (64 * (number * (r * n))))

-- the matrices B and C of `rows` rows, with an entry for each digit of t's and g's cells; those cells; and `rows` elements
abbrev pub u1_fits : (matrices from out rows t_cells t-parts g_cells g-parts base : ℕ) → Bool
u1_fits matrices from out rows t_cells t-parts g_cells g-parts base =
    (leb t_cells 256 && leb t-parts 32 && leb rows 16 && (leb g_cells 136 && leb g-parts 32 && leb 2 base))
    && (eqb matrices (64 * (rows * (t_cells * t-parts)) + 64 * (rows * (g_cells * g-parts))) && eqb from (64 * t_cells + 64 * g_cells) && eqb out (64 * rows))
