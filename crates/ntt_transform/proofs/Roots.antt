-- The entries of the table are the powers of the roots in the rings of remainders, and those that the layers take are where the layers look.
use mathlib.Core.Path.{◌≡◌, refl, sym, ap, ap₂, subst, ◌∙◌}
use mathlib.Core.Bool.{cond}
use Prim.Native.Nat.{ℕ, zero, suc, ◌+◌, ◌-◌, ◌*◌, ◌/◌, ◌%◌, ◌≤◌, ◌<◌}
use native.Mathlib.Nat as Nat
use native.Mathlib.Decide.{dec_lt, ℕ_discrete}
use native.Mathlib.Omega.{arith}
use borrow.Author.Tests.{eq-eqb, ne_eqb, lt-ltb, le-ltb}
use lib.ListN.{get_or}
use Rattle.math.proofs.lists.Table.{length-table, get_or-table}
use Rattle.math.specs.transform.Layers.{pow, exponent}
use Rattle.math.proofs.transform.Computed.{agree}
use Rattle.spec_leaves.proofs.Modulo.{mul_mod_first}
use Rattle.ntt_layers.specs.Fold.{prime, Opposite, inverse32}
use Rattle.ntt_layers.proofs.Residues.{Below, res, ModOps, res_mod, res_less, res_reduced, res_mul}
use Rattle.ntt_layers.proofs.Folds.{prime_pos, inverse32_is}
use Rattle.ntt_layers.proofs.Layer.{Turns}
use Rattle.ntt_transform.specs.Roots.{delta, root, opposite, next, entry, scaled, layer_index, index_of, twiddle, twiddle_table}
use Rattle.ntt_transform.specs.Transforms.{TwiddlesFit}
use Rattle.ntt_transform.proofs.Rule.{half_way}

-- each prime is 2^27 less at most 2175
pub delta-small : (i : ℕ) → delta i ≤ 2175
delta-small zero = omega arith
delta-small (suc zero) = omega arith
delta-small (suc (suc i)) = omega arith

-- the prime i, its ring and the root in it
abbrev pub prime_of : ℕ → ℕ
prime_of i = prime (delta i)

pub positive : (i : ℕ) → 0 < prime_of i
positive i = prime_pos (delta i) (delta-small i)

pub root_in : (i : ℕ) → Below (prime_of i)
root_in i = res (prime_of i) (positive i) (root i)

-- where a prime begins the entry is 1
entry_first : (k : ℕ) → k % 128 ≡ 0 → entry k ≡ 1
unfolding entry
entry_first zero h = refl
entry_first (suc k) h = ap (λ b. cond b 1 (entry k * root (suc k / 128) % prime (delta (suc k / 128)))) (eq-eqb (suc k % 128) 0 h)

-- elsewhere it is the one before times the root
entry_next : (i e : ℕ) → e + 1 < 128 → entry (suc (i * 128 + e)) ≡ entry (i * 128 + e) * root i % prime_of i
unfolding entry
entry_next i e h =
    let n : suc (i * 128 + e) / 128 ≡ i = omega arith in
    ap (λ b. cond b 1 (entry (i * 128 + e) * root (suc (i * 128 + e) / 128) % prime (delta (suc (i * 128 + e) / 128)))) (ne_eqb (suc (i * 128 + e) % 128) 0 (omega arith))
    ∙ ap (λ x. entry (i * 128 + e) * root x % prime (delta x)) n

-- the entries are the powers of the root
pub entry-pow : (i e : ℕ) → e < 128 → res (prime_of i) (positive i) (entry (i * 128 + e)) ≡ pow (ModOps (prime_of i) (positive i)) (root_in i) e
unfolding pow root_in
entry-pow i zero h = ap (res (prime_of i) (positive i)) (entry_first (i * 128 + 0) (omega arith))
entry-pow i (suc e) h =
    ap (λ x. res (prime_of i) (positive i) (entry x)) (Nat.add-suc (i * 128) e)
    ∙ ap (res (prime_of i) (positive i)) (entry_next i e (omega arith))
    ∙ res_reduced (prime_of i) (positive i) (entry (i * 128 + e) * root i)
    ∙ res_mul (prime_of i) (positive i) (entry (i * 128 + e)) (root i)
    ∙ ap (λ x. (ModOps (prime_of i) (positive i)).mul x (res (prime_of i) (positive i) (root i))) (entry-pow i e (omega arith))

-- the 64th power is −1
pub root_half : (i : ℕ) → i < 3 → pow (ModOps (prime_of i) (positive i)) (root_in i) 64 ≡ (ModOps (prime_of i) (positive i)).neg (ModOps (prime_of i) (positive i)).one
root_half i h =
    let s : delta i ≤ 2175 = delta-small i in
    let one : 1 < prime_of i = omega arith in
    sym (entry-pow i 64 (omega arith))
    ∙ ap (res (prime_of i) (positive i)) (half_way i h)
    ∙ ap (λ x. res (prime_of i) (positive i) (prime_of i - x)) (sym (Nat.mod-eq_of_lt one))

-- q of each prime is minus its inverse
opposite_is : (i : ℕ) → i < 3 → Opposite (delta i) (opposite i)
opposite_is i h = agree 3 (λ i. (opposite i * prime_of i + 1) % 4294967296) (λ i. 0) tt i h

-- the inverse of 2^32 modulo prime i
abbrev inverse_of : ℕ → ℕ
inverse_of i = inverse32 (delta i) (opposite i)

-- the entries times 2^32 and its inverse are the powers of the root
scaled-pow : (i e : ℕ) → i < 3 → e < 128 → Turns (delta i) (opposite i) (positive i) (root_in i) e (scaled (i * 128 + e))
unfolding scaled
scaled-pow i e hi h =
    let n : (i * 128 + e) / 128 ≡ i = omega arith in
    let x : ℕ = entry (i * 128 + e) in
    ap (λ k. res (prime_of i) (positive i) (x * 4294967296 % prime (delta k) * inverse_of i)) n
    ∙ res_mod (prime_of i) (positive i) (x * 4294967296 % prime_of i * inverse_of i) (x * 4294967296 * inverse_of i) (mul_mod_first (prime_of i) (x * 4294967296) (inverse_of i))
    ∙ ap (res (prime_of i) (positive i)) (Nat.mul_assoc x 4294967296 (inverse_of i) ∙ ap (λ y. x * y) (Nat.mul_comm 4294967296 (inverse_of i) ∙ inverse32_is (delta i) (opposite i) (opposite_is i hi)))
    ∙ sym (res_less (prime_of i) (positive i) x (x * (opposite i * prime_of i + 1)) (x * opposite i) (more x (opposite i) (prime_of i)))
    ∙ entry-pow i e h
  where
    more : (x neginv p : ℕ) → x + x * neginv * p ≡ x * (neginv * p + 1)
    more x neginv p = omega (arith, Nat.mul_assoc x neginv p)

-- an exponent is below 128
pub exponent_small : (j k : ℕ) → exponent j k < 128
unfolding exponent
exponent_small zero k = omega arith
exponent_small (suc j) k = omega (arith, exponent_small j (k / 2))

-- an index is one of the table
pub index-small : (m : ℕ) → m < 1152 → index_of m < 384
index-small m h = by (dec_lt m 576)
  where
    of : (place : ℕ) → place < 576 → layer_index place < 384
    of place l = omega (arith, exponent_small (place % 192 / 32) (place % 192 % 32))

    by : Dec (m < 576) → index_of m < 384
    by (yes l) = subst (λ b. layer_index (cond b m ((m - 576) / 32 * 32 + (31 - (m - 576) % 32))) < 384) (sym (lt-ltb m 576 l)) (of m l)
    by (no l) = subst (λ b. layer_index (cond b m ((m - 576) / 32 * 32 + (31 - (m - 576) % 32))) < 384) (sym (le-ltb m 576 (omega arith)))
        (of ((m - 576) / 32 * 32 + (31 - (m - 576) % 32)) (omega arith))

-- where the power of prime i, layer j and place t stands
layer_index_lem : (i j t : ℕ) → j < 6 → t < 32 → layer_index (192 * i + 32 * j + t) ≡ i * 128 + exponent j t / 2
layer_index_lem i j t hj ht =
    let a : (192 * i + 32 * j + t) / 192 ≡ i = omega arith in
    let b : (192 * i + 32 * j + t) % 192 / 32 ≡ j = omega arith in
    let c : (192 * i + 32 * j + t) % 192 % 32 ≡ t = omega arith in
    ap (λ x. x * 128 + exponent ((192 * i + 32 * j + t) % 192 / 32) ((192 * i + 32 * j + t) % 192 % 32) / 2) a ∙ ap₂ (λ x y. i * 128 + exponent x y / 2) b c

-- the twiddle there
twiddle_at : (i j t : ℕ) → i < 3 → j < 6 → t < 32 → get_or twiddle_table (192 * i + 32 * j + t) 0 ≡ scaled (i * 128 + exponent j t / 2)
unfolding twiddle_table twiddle
twiddle_at i j t hi hj ht =
    let m : ℕ = 192 * i + 32 * j + t in
    get_or-table 1152 twiddle m 0 (omega arith)
    ∙ ap (λ b. scaled (layer_index (cond b m ((m - 576) / 32 * 32 + (31 - (m - 576) % 32))))) (lt-ltb m 576 (omega arith))
    ∙ ap scaled (layer_index_lem i j t hj ht)

-- and that of the inverse NTT
inverse_at : (i j t : ℕ) → i < 3 → j < 6 → t < 32 → get_or twiddle_table (576 + 192 * i + 32 * j + t) 0 ≡ scaled (i * 128 + exponent j (31 - t) / 2)
unfolding twiddle_table twiddle
inverse_at i j t hi hj ht =
    let m : ℕ = 576 + 192 * i + 32 * j + t in
    let place : (m - 576) / 32 * 32 + (31 - (m - 576) % 32) ≡ 192 * i + 32 * j + (31 - t) = omega arith in
    get_or-table 1152 twiddle m 0 (omega arith)
    ∙ ap (λ b. scaled (layer_index (cond b m ((m - 576) / 32 * 32 + (31 - (m - 576) % 32))))) (le-ltb m 576 (omega arith))
    ∙ ap (λ x. scaled (layer_index x)) place
    ∙ ap scaled (layer_index_lem i j (31 - t) hj (omega arith))

-- they are the powers that the layer takes, times 2^32
pub twiddle-pow : (i j t : ℕ) → i < 3 → j < 6 → t < 32 → Turns (delta i) (opposite i) (positive i) (root_in i) (exponent j t / 2) (get_or twiddle_table (192 * i + 32 * j + t) 0)
twiddle-pow i j t hi hj ht =
    ap (λ x. res (prime_of i) (positive i) (x * inverse_of i)) (twiddle_at i j t hi hj ht) ∙ scaled-pow i (exponent j t / 2) hi (omega (arith, exponent_small j t))

pub inverse-pow : (i j t : ℕ) → i < 3 → j < 6 → t < 32 → Turns (delta i) (opposite i) (positive i) (root_in i) (exponent j (31 - t) / 2) (get_or twiddle_table (576 + 192 * i + 32 * j + t) 0)
inverse-pow i j t hi hj ht =
    ap (λ x. res (prime_of i) (positive i) (x * inverse_of i)) (inverse_at i j t hi hj ht) ∙ scaled-pow i (exponent j (31 - t) / 2) hi (omega (arith, exponent_small j (31 - t)))

-- a scaled entry is below 2^27
scaled_small : (k : ℕ) → scaled k < 134217728
unfolding scaled
scaled_small k = omega (arith, Nat.mod-lt (entry k * 4294967296) (positive (k / 128)))

-- an entry too
pub entry-small : (k : ℕ) → entry k < 134217728
unfolding entry
entry-small zero = omega arith
entry-small (suc k) = by (ℕ_discrete (suc k % 128) 0)
  where
    by : Dec (suc k % 128 ≡ 0) → next k (entry k) < 134217728
    by (yes e) = subst (λ x. x < 134217728) (sym (ap (λ b. cond b 1 (entry k * root (suc k / 128) % prime_of (suc k / 128))) (eq-eqb (suc k % 128) 0 e))) (omega arith)
    by (no e) =
        subst (λ x. x < 134217728) (sym (ap (λ b. cond b 1 (entry k * root (suc k / 128) % prime_of (suc k / 128))) (ne_eqb (suc k % 128) 0 e)))
        (omega (arith, Nat.mod-lt (entry k * root (suc k / 128)) (positive (suc k / 128))))

-- each prime finds its twiddles in the table
fit_at : (i at : ℕ) → i < 3 → at + 192 ≤ 1152 → TwiddlesFit (delta i) (opposite i) twiddle_table at
unfolding twiddle_table twiddle
fit_at i at h l = record {
  small = delta-small i;
  opposite = opposite_is i h;
  within = omega (arith, length-table 1152 twiddle);
  below = λ m k. rw (get_or-table 1152 twiddle (at + m) 0 (omega arith)) (scaled_small (index_of (at + m)));
}

pub twiddles_fit : (i : ℕ) → i < 3 → TwiddlesFit (delta i) (opposite i) twiddle_table (192 * i)
twiddles_fit i h = fit_at i (192 * i) h (omega arith)

pub inverses_fit : (i : ℕ) → i < 3 → TwiddlesFit (delta i) (opposite i) twiddle_table (576 + 192 * i)
inverses_fit i h = fit_at i (576 + 192 * i) h (omega arith)
