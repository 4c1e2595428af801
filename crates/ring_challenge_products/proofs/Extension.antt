-- The entries that the products read: those of −a, a, −a and zeros, and twice those.
use mathlib.Core.Path.{◌≡◌, refl, sym, ap, ap₂, ◌∙◌}
use mathlib.Core.List.{List}
use Prim.Native.Nat.{ℕ, ◌+◌, ◌-◌, ◌*◌, ◌%◌, ◌≤◌, ◌<◌, ◌^◌}
use native.Mathlib.Nat.{zero-add}
use native.Mathlib.Decide.{dec_lt}
use native.Mathlib.Omega.{arith}
use borrow.Author.Tests.{lt-ltb, le-ltb}
use lib.ListN.{length, get_or, replicate, length-replicate, get_or-replicate}
use Rattle.math.specs.lists.Table.{table}
use Rattle.math.specs.lists.Part.{splice}
use Rattle.math.proofs.lists.Table.{length-table, get_or-table}
use Rattle.math.proofs.lists.Splice.{length-splice, get_or-splice-before, get_or-splice-after}
use Rattle.math.proofs.lists.Fill.{get_or-splice-table}
use Rattle.spec_leaves.specs.Zq.{Q, zneg}
use Rattle.spec_leaves.specs.Rq.{coeff}
use Rattle.spec_leaves.proofs.Modulo.{add-mod}
use Rattle.ring_zq.specs.Words.{lack}
use Rattle.ring_zq.proofs.Words.{lack-neg}
use Rattle.ring_rq_product.specs.Product.{extended, extended_coeff}
use Rattle.ring_rq_product.proofs.Coefficient.{length-extended, extended-words}
use Rattle.ring_challenge_products.specs.Powers.{turned, entry}
use Rattle.ring_challenge_products.specs.Sums.{Extension}
use Rattle.ring_challenge_products.proofs.Product.{first, second, third, fourth, once, twice, reduced}

-- the first numbers of a list
abbrev front : List ℕ → ℕ → List ℕ
front l n = table n (λ m. get_or l m 0)

-- the entries as they are stored
abbrev pub stored : List ℕ → List ℕ → List ℕ
stored o t = splice (splice (splice (splice (replicate 448 0) 0 (front o 128)) 128 (front o 64)) 256 (front t 128)) 384 (front t 64)

-- one copy after the other
pub stored-by : (o t e₁ e₂ e₃ e₄ : List ℕ) → e₁ ≡ splice (replicate 448 0) 0 (front o 128) → e₂ ≡ splice e₁ 128 (front o 64) → e₃ ≡ splice e₂ 256 (front t 128) → e₄ ≡ splice e₃ 384 (front t 64)
    → e₄ ≡ stored o t
stored-by o t e₁ e₂ e₃ e₄ p q r s = s ∙ ap (λ l. splice l 384 (front t 64)) (r ∙ ap (λ l. splice l 256 (front t 128)) (q ∙ ap (λ l. splice l 128 (front o 64)) p))

module _ (o t : List ℕ) where
  -- the lists on the way
  first-stored : List ℕ
  first-stored = splice (replicate 448 0) 0 (front o 128)

  once-stored : List ℕ
  once-stored = splice first-stored 128 (front o 64)

  most-stored : List ℕ
  most-stored = splice once-stored 256 (front t 128)

  length-first : length first-stored ≡ 448
  unfolding first-stored
  length-first = length-splice (replicate 448 0) 0 (front o 128) ∙ length-replicate {A = ℕ} 448 0

  length-once : length once-stored ≡ 448
  unfolding once-stored
  length-once = length-splice first-stored 128 (front o 64) ∙ length-first

  length_most : length most-stored ≡ 448
  unfolding most-stored
  length_most = length-splice once-stored 256 (front t 128) ∙ length-once

  pub length-stored : length (stored o t) ≡ 448
  unfolding first-stored once-stored most-stored
  length-stored = length-splice most-stored 384 (front t 64) ∙ length_most

  -- entries before 256 are those of `once-stored`
  lower : (m : ℕ) → m < 256 → get_or (stored o t) m 0 ≡ get_or once-stored m 0
  unfolding first-stored once-stored most-stored
  lower m h = get_or-splice-before most-stored 384 (front t 64) m 0 (omega arith) ∙ get_or-splice-before once-stored 256 (front t 128) m 0 h

  -- the parts
  part-one : (i : ℕ) → i < 128 → get_or (stored o t) i 0 ≡ get_or o i 0
  unfolding first-stored once-stored
  part-one i h =
      lower i (omega arith) ∙ get_or-splice-before first-stored 128 (front o 64) i 0 h ∙ ap (λ j. get_or first-stored j 0) (sym (zero-add i))
      ∙ get_or-splice-table (replicate 448 0) 0 128 (λ m. get_or o m 0) i 0 h (omega (arith, length-replicate {A = ℕ} 448 0))

  part-two : (i : ℕ) → i < 64 → get_or (stored o t) (128 + i) 0 ≡ get_or o i 0
  unfolding once-stored
  part-two i h = lower (128 + i) (omega arith) ∙ get_or-splice-table first-stored 128 64 (λ m. get_or o m 0) i 0 h (omega (arith, length-first))

  part-three : (m : ℕ) → 192 ≤ m → m < 256 → get_or (stored o t) m 0 ≡ 0
  unfolding first-stored once-stored
  part-three m l h =
      lower m h ∙ get_or-splice-after first-stored 128 (front o 64) m 0 (omega (arith, length-table 64 (λ m. get_or o m 0)))
      ∙ get_or-splice-after (replicate 448 0) 0 (front o 128) m 0 (omega (arith, length-table 128 (λ m. get_or o m 0))) ∙ get_or-replicate {A = ℕ} 448 m 0 0 (omega arith)

  part_four : (i : ℕ) → i < 128 → get_or (stored o t) (256 + i) 0 ≡ get_or t i 0
  unfolding first-stored once-stored most-stored
  part_four i h =
      get_or-splice-before most-stored 384 (front t 64) (256 + i) 0 (omega arith) ∙ get_or-splice-table once-stored 256 128 (λ m. get_or t m 0) i 0 h (omega (arith, length-once))

  part_five : (i : ℕ) → i < 64 → get_or (stored o t) (384 + i) 0 ≡ get_or t i 0
  unfolding first-stored once-stored most-stored
  part_five i h = get_or-splice-table most-stored 384 64 (λ m. get_or t m 0) i 0 h (omega (arith, length_most))

module _ (a o t e : List ℕ) (words : (i : ℕ) → i < 64 → coeff a i < 2 ^ 32) (eo : o ≡ extended a) (et : t ≡ table 128 (λ m. get_or o m 0 + get_or o m 0)) (ee : e ≡ stored o t) where
  -- the coefficients of −a, then those of a
  lower_half : (i : ℕ) → i < 64 → get_or o i 0 % Q ≡ zneg (coeff a i) % Q
  unfolding extended
  lower_half i h =
      ap (λ v. v % Q) (ap (λ l. get_or l i 0) eo ∙ get_or-table 128 (extended_coeff a) i 0 (omega arith) ∙ simp (lt-ltb i 64 h))
      ∙ reduced (lack (coeff a i)) (zneg (coeff a i)) (lack-neg (coeff a i) (words i h))

  upper_half : (i : ℕ) → i < 64 → get_or o (64 + i) 0 ≡ coeff a i
  unfolding extended
  upper_half i h =
      let less : 64 + i - 64 ≡ i = omega arith in
      ap (λ l. get_or l (64 + i) 0) eo ∙ get_or-table 128 (extended_coeff a) (64 + i) 0 (omega arith) ∙ simp (le-ltb (64 + i) 64 (omega arith)) (ap (coeff a) less)

  word_at : (i : ℕ) → i < 128 → get_or o i 0 ≤ 2 ^ 32
  word_at i h = omega (arith, ap (λ l. get_or l i 0) eo, extended-words a words i (omega (arith, length-extended a)))

  doubled_at : (i : ℕ) → i < 128 → get_or t i 0 ≡ get_or o i 0 + get_or o i 0
  doubled_at i h = ap (λ l. get_or l i 0) et ∙ get_or-table 128 (λ m. get_or o m 0 + get_or o m 0) i 0 h

  -- an entry before 192: where it is, what it is modulo Q, and its double
  record At (m : ℕ) : Type 0 where
    value : get_or e m 0 % Q ≡ turned a m % Q
    small : get_or e m 0 ≤ 2 ^ 32
    double : get_or e (256 + m) 0 ≡ get_or e m 0 + get_or e m 0

  read : (m v : ℕ) → get_or (stored o t) m 0 ≡ v → get_or e m 0 ≡ v
  read m v h = ap (λ l. get_or l m 0) ee ∙ h

  at : (m : ℕ) → m < 192 → Dec (m < 64) → Dec (m < 128) → At m
  at m h (yes l) d =
      let p = read m _ (part-one o t m (omega arith)) in record {
        value = ap (λ v. v % Q) p ∙ lower_half m l ∙ ap (λ v. v % Q) (sym (first a m l));
        small = omega (arith, p, word_at m (omega arith));
        double = read (256 + m) _ (part_four o t m (omega arith)) ∙ doubled_at m (omega arith) ∙ ap₂ ◌+◌ (sym p) (sym p);
      }
  at m h (no l) (yes d) =
      let p = read m _ (part-one o t m (omega arith)) in
      let place : m ≡ 64 + (m - 64) = omega arith in record {
        value = ap (λ v. v % Q) (p ∙ ap (λ j. get_or o j 0) place ∙ upper_half (m - 64) (omega arith) ∙ sym (second a m (m - 64) place (omega arith)));
        small = omega (arith, p, word_at m (omega arith));
        double = read (256 + m) _ (part_four o t m (omega arith)) ∙ doubled_at m (omega arith) ∙ ap₂ ◌+◌ (sym p) (sym p);
      }
  at m h (no l) (no d) =
      let place : m ≡ 128 + (m - 128) = omega arith in
      let far : 256 + m ≡ 384 + (m - 128) = omega arith in
      let p : get_or e m 0 ≡ get_or o (m - 128) 0 = ap (λ j. get_or e j 0) place ∙ read (128 + (m - 128)) _ (part-two o t (m - 128) (omega arith)) in record {
        value = ap (λ v. v % Q) p ∙ lower_half (m - 128) (omega arith) ∙ ap (λ v. v % Q) (sym (third a m (m - 128) place (omega arith)));
        small = omega (arith, p, word_at (m - 128) (omega arith));
        double = ap (λ j. get_or e j 0) far ∙ read (384 + (m - 128)) _ (part_five o t (m - 128) (omega arith)) ∙ doubled_at (m - 128) (omega arith) ∙ ap₂ ◌+◌ (sym p) (sym p);
      }

  -- every entry below 448
  each : (m : ℕ) → m < 448 → Dec (m < 192) → Dec (m < 256) → (get_or e m 0 ≤ 2 ^ 33) × (get_or e m 0 % Q ≡ entry a m % Q)
  each m h (yes l) d =
      let r = at m l (dec_lt m 64) (dec_lt m 128) in
      (omega (arith, r.small), r.value ∙ ap (λ v. v % Q) (sym (once a m (turned a m) (omega arith) refl)))
  each m h (no l) (yes d) =
      let p = read m _ (part-three o t m (omega arith) d) in
      (omega (arith, p), ap (λ v. v % Q) (p ∙ sym (once a m 0 d (fourth a m (omega arith)))))
  each m h (no l) (no d) =
      let i = m - 256 in
      let place : m ≡ 256 + i = omega arith in
      let r = at i (omega arith) (dec_lt i 64) (dec_lt i 128) in
      let p : get_or e m 0 ≡ get_or e i 0 + get_or e i 0 = ap (λ j. get_or e j 0) place ∙ r.double in
      let two : turned a i + turned a i ≡ 2 * turned a i = double (turned a i) in (
        omega (arith, p, r.small),
        ap (λ v. v % Q) p ∙ add-mod Q (get_or e i 0) (get_or e i 0) (turned a i) (turned a i) r.value r.value ∙ ap (λ v. v % Q) (two ∙ sym (twice a m i (turned a i) place refl)),
      )
    where
      double : (x : ℕ) → x + x ≡ 2 * x
      double x = omega arith

  -- what is stored is the extension
  pub extension : Extension e a
  extension = record {
    entries = record {
      count = ap length ee ∙ length-stored o t;
      small = λ m h. (each m h (dec_lt m 192) (dec_lt m 256)).0;
    };
    value = λ m h. (each m h (dec_lt m 192) (dec_lt m 256)).1;
  }
