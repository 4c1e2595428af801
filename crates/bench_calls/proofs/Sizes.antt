-- The sizes and lengths of arguments that fit.
use mathlib.Core.Path.{◌≡◌}
use mathlib.Core.Bool.{true, ◌&&◌}
use Prim.Native.Nat.{ℕ, ◌+◌, ◌*◌, ◌≤◌}
use native.Mathlib.Nat.{mul-le-mul}
use borrow.Author.Tests.{leb-true, eqb-true}
use lib.Dec.{leb, eqb}
use Rattle.bench_calls.specs.Fits.{inner_product_fits, combination_fits, projection_fits, omega_place, phi_fits, u1_fits}
use Rattle.bench_calls.proofs.Tests.{both, three}

-- of an inner product
pub inner_product_sizes : (x y out n : ℕ) → inner_product_fits x y out n ≡ true → (n ≤ 64) × (x ≡ 64 * n) × (y ≡ 64 * n) × (out ≡ 64)
inner_product_sizes x y out n e =
    let h = both (leb n 64) (eqb x (64 * n) && eqb y (64 * n) && eqb out 64) e in
    let l = three (eqb x (64 * n)) (eqb y (64 * n)) (eqb out 64) h.1 in
    (leb-true n 64 h.0, eqb-true x (64 * n) l.0, eqb-true y (64 * n) l.1, eqb-true out 64 l.2)

-- of a linear combination
pub combination_sizes : (x factors out n : ℕ) → combination_fits x factors out n ≡ true → (n ≤ 64) × (x ≡ 64 * n) × (factors ≡ n) × (out ≡ 64)
combination_sizes x factors out n e =
    let h = both (leb n 64) (eqb x (64 * n) && eqb factors n && eqb out 64) e in
    let l = three (eqb x (64 * n)) (eqb factors n) (eqb out 64) h.1 in
    (leb-true n 64 h.0, eqb-true x (64 * n) l.0, eqb-true factors n l.1, eqb-true out 64 l.2)

-- the sizes of a projection, and a product of them
pub projection-limits : (n r : ℕ) → leb n 64 && leb r 16 ≡ true → (n ≤ 64) × (r ≤ 16) × (r * n ≤ 16 * 64)
projection-limits n r e =
    let h = both (leb n 64) (leb r 16) e in
    let n≤ = leb-true n 64 h.0 in
    let r≤ = leb-true r 16 h.1 in
    (n≤, r≤, mul-le-mul r≤ n≤)

-- of a projection
pub projection_sizes : (pi s out n r : ℕ) → projection_fits pi s out n r ≡ true
    → (n ≤ 64) × (r ≤ 16) × (pi ≡ r * 256 * (64 * n)) × (s ≡ r * (64 * n)) × (out ≡ 256)
projection_sizes pi s out n r e =
    let h = both (leb n 64 && leb r 16) (eqb pi (r * 256 * (64 * n)) && eqb s (r * (64 * n)) && eqb out 256) e in
    let m = projection-limits n r h.0 in
    let l = three (eqb pi (r * 256 * (64 * n))) (eqb s (r * (64 * n))) (eqb out 256) h.1 in
    (m.0, m.1, eqb-true pi (r * 256 * (64 * n)) l.0, eqb-true s (r * (64 * n)) l.1, eqb-true out 256 l.2)

-- the sizes of φ'', and the products of them
pub phi-limits : (r n count number : ℕ) → leb n 64 && leb r 16 && (leb count 64 && leb number 32) ≡ true
    → (n ≤ 64) × (r ≤ 16) × (count ≤ 64) × (number ≤ 32) × (r * n ≤ 16 * 64) × (number * count ≤ 32 * 64) × (r * n * count ≤ 16 * 64 * 64) × (number * (r * n) ≤ 32 * (16 * 64))
phi-limits r n count number e =
    let h = three (leb n 64) (leb r 16) (leb count 64 && leb number 32) e in
    let k = both (leb count 64) (leb number 32) h.2 in
    let n≤ = leb-true n 64 h.0 in
    let r≤ = leb-true r 16 h.1 in
    let count≤ = leb-true count 64 k.0 in
    let number≤ = leb-true number 32 k.1 in
    let rn≤ : r * n ≤ 16 * 64 = mul-le-mul r≤ n≤ in
    (n≤, r≤, count≤, number≤, rn≤, mul-le-mul number≤ count≤, mul-le-mul rn≤ count≤, mul-le-mul number≤ rn≤)

-- the lengths of φ''
pub phi_lengths : (phi randomness out r n count number : ℕ) → phi_fits phi randomness out r n count number ≡ true
    → (leb n 64 && leb r 16 && (leb count 64 && leb number 32) ≡ true) × (phi ≡ 64 * (r * n * count)) × (randomness ≡ omega_place r n count number + number * 256) × (out ≡ 64 * (number * (r * n)))
phi_lengths phi randomness out r n count number e =
    let a = eqb phi (64 * (r * n * count)) in
    let b = eqb randomness (omega_place r n count number + number * 256) in
    let c = eqb out (64 * (number * (r * n))) in
    let h = both (leb n 64 && leb r 16 && (leb count 64 && leb number 32)) (a && b && c) e in
    let l = three a b c h.1 in
    (h.0, eqb-true phi (64 * (r * n * count)) l.0, eqb-true randomness (omega_place r n count number + number * 256) l.1, eqb-true out (64 * (number * (r * n))) l.2)

-- the sizes of u1, and the products of them
pub u1_limits : (rows t_cells t-parts g_cells g-parts base : ℕ) → leb t_cells 256 && leb t-parts 32 && leb rows 16 && (leb g_cells 136 && leb g-parts 32 && leb 2 base) ≡ true
    → (t_cells ≤ 256) × (t-parts ≤ 32) × (rows ≤ 16) × (g_cells ≤ 136) × (g-parts ≤ 32) × (2 ≤ base) × (t_cells * t-parts ≤ 256 * 32) × (g_cells * g-parts ≤ 136 * 32)
    × (rows * (t_cells * t-parts) ≤ 16 * (256 * 32)) × (rows * (g_cells * g-parts) ≤ 16 * (136 * 32))
u1_limits rows t_cells t-parts g_cells g-parts base e =
    let h = both (leb t_cells 256 && leb t-parts 32 && leb rows 16) (leb g_cells 136 && leb g-parts 32 && leb 2 base) e in
    let t = three (leb t_cells 256) (leb t-parts 32) (leb rows 16) h.0 in
    let g = three (leb g_cells 136) (leb g-parts 32) (leb 2 base) h.1 in
    let rows≤ = leb-true rows 16 t.2 in
    let tc≤ = leb-true t_cells 256 t.0 in
    let tp≤ = leb-true t-parts 32 t.1 in
    let gc≤ = leb-true g_cells 136 g.0 in
    let gp≤ = leb-true g-parts 32 g.1 in
    let tt≤ : t_cells * t-parts ≤ 256 * 32 = mul-le-mul tc≤ tp≤ in
    let gg≤ : g_cells * g-parts ≤ 136 * 32 = mul-le-mul gc≤ gp≤ in
    (tc≤, tp≤, rows≤, gc≤, gp≤, leb-true 2 base g.2, tt≤, gg≤, mul-le-mul rows≤ tt≤, mul-le-mul rows≤ gg≤)

-- the lengths of u1
pub u1_lengths : (matrices from out rows t_cells t-parts g_cells g-parts base : ℕ) → u1_fits matrices from out rows t_cells t-parts g_cells g-parts base ≡ true
    → (leb t_cells 256 && leb t-parts 32 && leb rows 16 && (leb g_cells 136 && leb g-parts 32 && leb 2 base) ≡ true)
    × (matrices ≡ 64 * (rows * (t_cells * t-parts)) + 64 * (rows * (g_cells * g-parts))) × (from ≡ 64 * t_cells + 64 * g_cells) × (out ≡ 64 * rows)
u1_lengths matrices from out rows t_cells t-parts g_cells g-parts base e =
    let m = 64 * (rows * (t_cells * t-parts)) + 64 * (rows * (g_cells * g-parts)) in
    let s = leb t_cells 256 && leb t-parts 32 && leb rows 16 && (leb g_cells 136 && leb g-parts 32 && leb 2 base) in
    let h = both s (eqb matrices m && eqb from (64 * t_cells + 64 * g_cells) && eqb out (64 * rows)) e in
    let l = three (eqb matrices m) (eqb from (64 * t_cells + 64 * g_cells)) (eqb out (64 * rows)) h.1 in
    (h.0, eqb-true matrices m l.0, eqb-true from (64 * t_cells + 64 * g_cells) l.1, eqb-true out (64 * rows) l.2)
