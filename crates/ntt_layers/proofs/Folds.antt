-- A fold keeps the remainder, and brings a number down.
use mathlib.Core.Path.{◌≡◌, sym, ap, ◌∙◌}
use Prim.Native.Nat.{ℕ, ◌+◌, ◌*◌, ◌/◌, ◌%◌, ◌≤◌, ◌<◌, ◌^◌}
use native.Mathlib.Nat.{mul-le-mul, mul_assoc, mul_comm, mul-zero, add-mul, add-mod-mod, div-add-mod', mod-eq_of_lt, add-mul-mod_self_right}
use native.Mathlib.Omega.{arith}
use Rattle.spec_leaves.proofs.Modulo.{mul_mod_first, mul_mod_second}
use Rattle.ntt_layers.specs.Fold.{prime, fold, reduced, montgomery, Opposite, inverse32}
use Rattle.ntt_layers.specs.Words.{reduced_sum}
use Rattle.ntt_layers.proofs.Residues.{Below, res, res_less}

-- the prime is not zero
pub prime_pos : (d : ℕ) → d ≤ 2175 → 0 < prime d
prime_pos d h = omega arith

-- a factor of at most h and d of at most 2175
pub product_bound : (neginv h d : ℕ) → neginv ≤ h → d ≤ 2175 → neginv * d ≤ h * 2175
product_bound neginv h d l s = mul-le-mul l s

-- a number with at most h above bit 27
pub fold-bound : (d z h : ℕ) → d ≤ 2175 → z / 134217728 ≤ h → fold d z ≤ h * 2175 + 134217727
unfolding fold
fold-bound d z h s l = omega (arith, product_bound (z / 134217728) h d l s)

-- a word folded is below twice the prime
pub fold_word : (d z : ℕ) → d ≤ 2175 → z < 4294967296 → fold d z ≤ 134285152
fold_word d z s l = let h : z / 134217728 ≤ 31 = omega arith in omega (arith, fold-bound d z 31 s h)

-- a number below 2^59 folded is below 2^44
pub fold-once : (d z : ℕ) → d ≤ 2175 → z < 576460752303423488 → fold d z ≤ 9341688084352
fold-once d z s l = let h : z / 134217728 ≤ 4294967295 = omega arith in omega (arith, fold-bound d z 4294967295 s h)

-- and folded twice below three times the prime
pub reduced-bound : (d z : ℕ) → d ≤ 2175 → z < 576460752303423488 → reduced d z ≤ 285600000
unfolding reduced
reduced-bound d z s l =
    let a : fold d z ≤ 9341688084352 = fold-once d z s l in
    let h : fold d z / 134217728 ≤ 69601 = omega arith in
    omega (arith, fold-bound d (fold d z) 69601 s h)

module _ (d : ℕ) (small : d ≤ 2175) (pos : 0 < prime d) where
  -- a fold takes off a multiple of the prime
  pub fold-taken : (z : ℕ) → fold d z + z / 134217728 * prime d ≡ z
  unfolding fold
  fold-taken z = let e : prime d + d ≡ 134217728 = omega arith in sums (z / 134217728) (z % 134217728) (prime d) e ∙ div-add-mod' z 134217728
    where
      sums : (neginv r p : ℕ) → p + d ≡ 134217728 → neginv * d + r + neginv * p ≡ neginv * 134217728 + r
      sums neginv r p e = omega (arith, ap (λ x. neginv * x) e)

  pub res_fold : (z : ℕ) → res (prime d) pos (fold d z) ≡ res (prime d) pos z
  res_fold z = res_less (prime d) pos (fold d z) z (z / 134217728) (fold-taken z)

  pub res_reduced_is : (z : ℕ) → res (prime d) pos (reduced d z) ≡ res (prime d) pos z
  unfolding reduced
  res_reduced_is z = res_fold (fold d z) ∙ res_fold z

  -- and so does 2^32 = 32·d
  pub word-taken : (z : ℕ) → z / 4294967296 * (32 * d) + z % 4294967296 + z / 4294967296 * 32 * prime d ≡ z
  word-taken z = let e : prime d + d ≡ 134217728 = omega arith in sums (z / 4294967296) (z % 4294967296) (prime d) e ∙ div-add-mod' z 4294967296
    where
      sums : (neginv r p : ℕ) → p + d ≡ 134217728 → neginv * (32 * d) + r + neginv * 32 * p ≡ neginv * 4294967296 + r
      sums neginv r p e = omega (arith, ap (λ x. neginv * x) e)

  -- a sum reduced
  pub res_sum : (s : ℕ) → res (prime d) pos (reduced_sum d s) ≡ res (prime d) pos s
  unfolding reduced_sum
  res_sum s =
      res_reduced_is (s / 4294967296 * (32 * d) + s % 4294967296) ∙ res_less (prime d) pos (s / 4294967296 * (32 * d) + s % 4294967296) s (s / 4294967296 * 32) (word-taken s)

-- the bound of a sum with 2^32 = 32·d, and of a sum reduced
pub word_bound : (d s : ℕ) → d ≤ 2175 → s < 2 ^ 64 → s / 4294967296 * (32 * d) + s % 4294967296 < 576460752303423488
word_bound d s h l = let neginv : s / 4294967296 ≤ 4294967295 = omega arith in omega (arith, product_bound (s / 4294967296) 4294967295 d neginv h)

pub sum_bound : (d s : ℕ) → d ≤ 2175 → s < 2 ^ 64 → reduced_sum d s ≤ 285600000
unfolding reduced_sum
sum_bound d s h l = reduced-bound d (s / 4294967296 * (32 * d) + s % 4294967296) h (word_bound d s h l)

-- what is left once multiples of p are taken off is the remainder
pub rest_is : (r p rest neginv : ℕ) → rest + neginv * p ≡ r → rest < p → rest ≡ r % p
rest_is r p rest neginv t l = sym (mod-eq_of_lt l) ∙ sym (add-mul-mod_self_right rest neginv p) ∙ ap (λ x. x % p) t

-- a number folded twice has its remainder
pub reduced-mod : (d z : ℕ) → d ≤ 2175 → reduced d z % prime d ≡ z % prime d
reduced-mod d z s = ap (λ (x : Below (prime d)). x.0) (res_reduced_is d s (prime_pos d s) z)

-- 2^32 divided out of a number below 2^59
pub montgomery-bound : (d neginv z : ℕ) → d ≤ 2175 → z < 576460752303423488 → montgomery d neginv z ≤ 285600000
unfolding montgomery
montgomery-bound d neginv z s l =
    let m : z * neginv % 4294967296 ≤ 4294967295 = omega arith in
    let p : prime d ≤ 134217728 = omega arith in
    let b : z * neginv % 4294967296 * prime d ≤ 4294967295 * 134217728 = mul-le-mul m p in
    omega arith

module _ (d neginv : ℕ) (opposite : Opposite d neginv) where
  -- 2^32 and its inverse
  pub inverse32_is : inverse32 d neginv * 4294967296 ≡ neginv * prime d + 1
  inverse32_is = omega (arith, div-add-mod' (neginv * prime d + 1) 4294967296)

  -- the multiple of the prime makes a multiple of 2^32
  whole : (z : ℕ) → (z + z * neginv % 4294967296 * prime d) % 4294967296 ≡ 0
  whole z =
      sym (add-mod-mod z (z * neginv % 4294967296 * prime d) 4294967296)
      ∙ ap (λ x. (z + x) % 4294967296) (mul_mod_first 4294967296 (z * neginv) (prime d))
      ∙ add-mod-mod z (z * neginv * prime d) 4294967296
      ∙ ap (λ x. x % 4294967296) (order z neginv (prime d))
      ∙ sym (mul_mod_second 4294967296 z (neginv * prime d + 1))
      ∙ ap (λ x. z * x % 4294967296) opposite
      ∙ ap (λ x. x % 4294967296) (mul-zero z)
    where
      order : (z neginv p : ℕ) → z + z * neginv * p ≡ z * (neginv * p + 1)
      order z neginv p = omega (arith, mul_assoc z neginv p)

  montgomery_is : (z : ℕ) → montgomery d neginv z * 4294967296 ≡ z + z * neginv % 4294967296 * prime d
  unfolding montgomery
  montgomery_is z = omega (arith, div-add-mod' (z + z * neginv % 4294967296 * prime d) 4294967296, whole z)

  -- the number times the inverse of 2^32
  pub res_montgomery : (pos : 0 < prime d) (z : ℕ) → res (prime d) pos (montgomery d neginv z) ≡ res (prime d) pos (z * inverse32 d neginv)
  res_montgomery pos z =
      res_less (prime d) pos (montgomery d neginv z) (montgomery d neginv z * (neginv * prime d + 1)) (montgomery d neginv z * neginv) (more (montgomery d neginv z) neginv (prime d))
      ∙ ap (res (prime d) pos) (ap (λ x. montgomery d neginv z * x) (sym inverse32_is) ∙ turn (montgomery d neginv z) (inverse32 d neginv) 4294967296
      ∙ ap (λ x. x * inverse32 d neginv) (montgomery_is z))
      ∙ sym (res_less (prime d) pos (z * inverse32 d neginv) ((z + z * neginv % 4294967296 * prime d) * inverse32 d neginv) (z * neginv % 4294967296 * inverse32 d neginv)
      (apart z (z * neginv % 4294967296) (prime d) (inverse32 d neginv)))
    where
      more : (m neginv p : ℕ) → m + m * neginv * p ≡ m * (neginv * p + 1)
      more m neginv p = omega (arith, mul_assoc m neginv p)

      turn : (m i w : ℕ) → m * (i * w) ≡ m * w * i
      turn m i w = ap (λ x. m * x) (mul_comm i w) ∙ sym (mul_assoc m w i)

      apart : (z m p i : ℕ) → z * i + m * i * p ≡ (z + m * p) * i
      apart z m p i = ap (λ x. z * i + x) (mul_assoc m i p ∙ ap (λ x. m * x) (mul_comm i p) ∙ sym (mul_assoc m p i)) ∙ sym (add-mul z (m * p) i)
