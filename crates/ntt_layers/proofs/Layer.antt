-- A layer on words is the layer in the ring of remainders, and an inverse layer undoes it, doubled.
use mathlib.Core.Path.{◌≡◌, sym, ap, ap₂, ◌∙◌}
use mathlib.Core.Bool.{cond}
use mathlib.Core.List.{List}
use Prim.Native.Nat.{ℕ, ◌+◌, ◌-◌, ◌*◌, ◌/◌, ◌%◌, ◌≤◌, ◌<◌}
use native.Mathlib.Nat.{add_comm, mul-le-mul, mul_assoc, mul_comm}
use native.Mathlib.Decide.{dec_lt, ℕ_discrete}
use native.Mathlib.Omega.{arith}
use borrow.Author.Tests.{lt-ltb, le-ltb, eq-eqb, ne_eqb}
use lib.Dec.{eqb}
use lib.ListN.{length, get_or}
use Rattle.math.specs.lists.Table.{table}
use Rattle.math.specs.lists.Part.{splice}
use Rattle.math.proofs.lists.Table.{get_or-table, table_ext}
use Rattle.math.proofs.lists.Splice.{get_or-splice-before}
use Rattle.math.proofs.lists.Fill.{get_or-splice-table}
use Rattle.math.specs.transform.Layers.{pow, exponent, layer}
use Rattle.math.proofs.transform.Layers.{layer_even, layer_odd, inverse-low, inverse-high}
use Rattle.ntt_layers.specs.Fold.{prime, montgomery, Opposite, inverse32}
use Rattle.ntt_layers.specs.Layer.{LayerFits, SpreadFits, InverseLayerFits, turned, turned_of, layer_at, layer_of, spread_at, spread_of, lower_at, upper_at, inverse_layer_at, inverse_layer_of}
use Rattle.ntt_layers.proofs.Residues.{Below, res, ModOps, mod_ring, res_add, res_mul, res_sub}
use Rattle.ntt_layers.proofs.Folds.{fold-bound, montgomery-bound, res_fold, res_montgomery}

-- a power below 2^27 times a number below 2^32
pub times-bound : (w x : ℕ) → w < 134217728 → x < 4294967296 → w * x < 576460752303423488
times-bound w x hw hx = omega (arith, mul-le-mul {n₁ = w} {m₁ = x} {n₂ = 134217727} {m₂ = 4294967295} (omega arith) (omega arith))

-- a word is power e of the root times 2^32, modulo the prime
abbrev pub Turns : (d neginv : ℕ) (pos : 0 < prime d) (g : Below (prime d)) → ℕ → ℕ → Type 0
Turns d neginv pos g e w = res (prime d) pos (w * inverse32 d neginv) ≡ pow (ModOps (prime d) pos) g e

module _ (d neginv : ℕ) (opposite : Opposite d neginv) (pos : 0 < prime d) (g : Below (prime d)) (e w x : ℕ) (turns : Turns d neginv pos g e w) where
  open ModOps (prime d) pos use {Carrier, mul as ◌⊗◌}

  infixl 70 ◌⊗◌
  -- 2^32 divided out of its product with a number
  res_turn : res (prime d) pos (montgomery d neginv (w * x)) ≡ pow (ModOps (prime d) pos) g e ⊗ res (prime d) pos x
  res_turn =
      res_montgomery d neginv opposite pos (w * x)
      ∙ ap (res (prime d) pos) (turn w x (inverse32 d neginv))
      ∙ res_mul (prime d) pos (w * inverse32 d neginv) x
      ∙ ap (λ y. y ⊗ res (prime d) pos x) turns
    where
      turn : (w x i : ℕ) → w * x * i ≡ w * i * x
      turn w x i = mul_assoc w x i ∙ ap (λ y. w * y) (mul_comm x i) ∙ sym (mul_assoc w i x)

module _ (d neginv : ℕ) (w : List ℕ) (at : ℕ) (x : List ℕ) (fits : LayerFits d neginv w at x) where
  -- the turned entry is below three times the prime
  pub turned-bound : (t : ℕ) → t < 32 → turned d neginv w at x t ≤ 285600000
  unfolding turned
  turned-bound t h =
      let room : get_or x (t + 32) 0 < 3892314112 = fits.room (t + 32) (omega arith) in
      montgomery-bound d neginv (get_or w (at + t) 0 * get_or x (t + 32) 0) fits.powers.small (times-bound (get_or w (at + t) 0) (get_or x (t + 32) 0) (fits.powers.below t h) (omega arith))

  at_even : (k : ℕ) → k < 64 → k % 2 ≡ 0 → get_or (layer_of d neginv w at x) k 0 ≡ get_or x (k / 2) 0 + turned d neginv w at x (k / 2)
  unfolding layer_of layer_at
  at_even k h e =
      get_or-table 64 (layer_at d neginv w at x) k 0 h
      ∙ ap (λ b. cond b (get_or x (k / 2) 0 + turned d neginv w at x (k / 2)) (get_or x (k / 2) 0 + (3 * prime d - turned d neginv w at x (k / 2)))) (eq-eqb (k % 2) 0 e)

  at_odd : (k : ℕ) → k < 64 → (k % 2 ≡ 0 → ⊥) → get_or (layer_of d neginv w at x) k 0 ≡ get_or x (k / 2) 0 + (3 * prime d - turned d neginv w at x (k / 2))
  unfolding layer_of layer_at
  at_odd k h e =
      get_or-table 64 (layer_at d neginv w at x) k 0 h
      ∙ ap (λ b. cond b (get_or x (k / 2) 0 + turned d neginv w at x (k / 2)) (get_or x (k / 2) 0 + (3 * prime d - turned d neginv w at x (k / 2)))) (ne_eqb (k % 2) 0 e)

  -- entries grow by at most three times the prime
  pub layer-bound : (b : ℕ) → ((k : ℕ) → k < 64 → get_or x k 0 < b) → (k : ℕ) → k < 64 → get_or (layer_of d neginv w at x) k 0 < b + 402653184
  layer-bound b h k l = by (ℕ_discrete (k % 2) 0)
    where
      by : Dec (k % 2 ≡ 0) → get_or (layer_of d neginv w at x) k 0 < b + 402653184
      by (yes e) = omega (arith, at_even k l e, h (k / 2) (omega arith), turned-bound (k / 2) (omega arith))
      by (no e) = omega (arith, at_odd k l e, h (k / 2) (omega arith))

  module _ (pos : 0 < prime d) (g : Below (prime d)) (root : pow (ModOps (prime d) pos) g 64 ≡ (ModOps (prime d) pos).neg (ModOps (prime d) pos).one) (j : ℕ)
      (powers : (t : ℕ) → t < 32 → Turns d neginv pos g (exponent j t / 2) (get_or w (at + t) 0)) where
    open ModOps (prime d) pos use {Carrier, add as ◌⊕◌, mul as ◌⊗◌, neg}

    infixl 60 ◌⊕◌
    infixl 70 ◌⊗◌
    f : ℕ → Below (prime d)
    f i = res (prime d) pos (get_or x i 0)

    res_turned : (t : ℕ) → t < 32 → res (prime d) pos (turned d neginv w at x t) ≡ pow (ModOps (prime d) pos) g (exponent j t / 2) ⊗ f (t + 32)
    unfolding turned f
    res_turned t h =
        res_turn d neginv fits.powers.opposite pos g (exponent j t / 2) (get_or w (at + t) 0) (get_or x (t + 32) 0) (powers t h)

    -- the layer on words
    pub res_layer : (k : ℕ) → k < 64 → res (prime d) pos (get_or (layer_of d neginv w at x) k 0) ≡ layer (ModOps (prime d) pos) g j (λ i. res (prime d) pos (get_or x i 0)) k
    unfolding f
    res_layer k h = by (ℕ_discrete (k % 2) 0)
      where
        less : k / 2 < 32
        less = omega arith

        even : k % 2 ≡ 0 → 2 * (k / 2) ≡ k
        even e = omega arith

        odd : (k % 2 ≡ 0 → ⊥) → 2 * (k / 2) + 1 ≡ k
        odd e = omega arith

        whole : (u v : ℕ) → v ≤ 285600000 → d ≤ 2175 → u + (3 * prime d - v) + v ≡ u + 3 * prime d
        whole u v l s = omega arith

        by : Dec (k % 2 ≡ 0) → res (prime d) pos (get_or (layer_of d neginv w at x) k 0) ≡ layer (ModOps (prime d) pos) g j f k
        by (yes e) =
            ap (res (prime d) pos) (at_even k h e)
            ∙ res_add (prime d) pos (get_or x (k / 2) 0) (turned d neginv w at x (k / 2))
            ∙ ap (λ y. f (k / 2) ⊕ y) (res_turned (k / 2) less)
            ∙ sym (layer_even (ModOps (prime d) pos) (mod_ring (prime d) pos) g root j f (k / 2))
            ∙ ap (layer (ModOps (prime d) pos) g j f) (even e)
        by (no e) =
            ap (res (prime d) pos) (at_odd k h e)
            ∙ res_sub (prime d) pos (get_or x (k / 2) 0) (turned d neginv w at x (k / 2)) (get_or x (k / 2) 0 + (3 * prime d - turned d neginv w at x (k / 2))) 3
            (whole (get_or x (k / 2) 0) (turned d neginv w at x (k / 2)) (turned-bound (k / 2) less) fits.powers.small)
            ∙ ap (λ y. f (k / 2) ⊕ neg y) (res_turned (k / 2) less)
            ∙ sym (layer_odd (ModOps (prime d) pos) (mod_ring (prime d) pos) g root j f (k / 2))
            ∙ ap (layer (ModOps (prime d) pos) g j f) (odd e)

module _ (d neginv : ℕ) (w : List ℕ) (at : ℕ) (y : List ℕ) (fits : InverseLayerFits d neginv w at y) where
  -- what stands beside the power in an upper entry
  pub difference-bound : (t : ℕ) → t < 32 → get_or y (2 * t + 1) 0 + (3 * prime d - get_or y (2 * t) 0) < 4294967296
  difference-bound t h = let r : get_or y (2 * t + 1) 0 ≤ 285600000 = fits.room (2 * t + 1) (omega arith) in omega arith

  pub upper-bound : (t : ℕ) → t < 32 → get_or w (at + t) 0 * (get_or y (2 * t + 1) 0 + (3 * prime d - get_or y (2 * t) 0)) < 576460752303423488
  upper-bound t h = times-bound (get_or w (at + t) 0) (get_or y (2 * t + 1) 0 + (3 * prime d - get_or y (2 * t) 0)) (fits.powers.below t h) (difference-bound t h)

  pub sum_of-two : (t : ℕ) → t < 32 → get_or y (2 * t) 0 + get_or y (2 * t + 1) 0 ≤ 571200000
  sum_of-two t h = omega (arith, fits.room (2 * t) (omega arith), fits.room (2 * t + 1) (omega arith))

  at_lower : (k : ℕ) → k < 32 → get_or (inverse_layer_of d neginv w at y) k 0 ≡ lower_at d y k
  unfolding inverse_layer_of
  at_lower k h = get_or-table 64 (inverse_layer_at d neginv w at y) k 0 (omega arith) ∙ ap (λ b. cond b (lower_at d y k) (upper_at d neginv w at y (k - 32))) (lt-ltb k 32 h)

  at_upper : (k : ℕ) → k < 64 → 32 ≤ k → get_or (inverse_layer_of d neginv w at y) k 0 ≡ upper_at d neginv w at y (k - 32)
  unfolding inverse_layer_of
  at_upper k h l = get_or-table 64 (inverse_layer_at d neginv w at y) k 0 h ∙ ap (λ b. cond b (lower_at d y k) (upper_at d neginv w at y (k - 32))) (le-ltb k 32 l)

  -- entries stay below three times the prime
  pub lower_small : (t : ℕ) → t < 32 → lower_at d y t ≤ 285600000
  unfolding lower_at
  lower_small t h =
      let s : get_or y (2 * t) 0 + get_or y (2 * t + 1) 0 ≤ 571200000 = sum_of-two t h in
      let neginv : (get_or y (2 * t) 0 + get_or y (2 * t + 1) 0) / 134217728 ≤ 4 = omega arith in
      omega (arith, fold-bound d (get_or y (2 * t) 0 + get_or y (2 * t + 1) 0) 4 fits.powers.small neginv)

  pub upper-small : (t : ℕ) → t < 32 → upper_at d neginv w at y t ≤ 285600000
  unfolding upper_at
  upper-small t h = montgomery-bound d neginv (get_or w (at + t) 0 * (get_or y (2 * t + 1) 0 + (3 * prime d - get_or y (2 * t) 0))) fits.powers.small (upper-bound t h)

  pub inverse-layer-bound : (k : ℕ) → k < 64 → get_or (inverse_layer_of d neginv w at y) k 0 ≤ 285600000
  inverse-layer-bound k h = by (dec_lt k 32)
    where
      by : Dec (k < 32) → get_or (inverse_layer_of d neginv w at y) k 0 ≤ 285600000
      by (yes l) = omega (arith, at_lower k l, lower_small k l)
      by (no l) = omega (arith, at_upper k h (omega arith), upper-small (k - 32) (omega arith))

  module _ (pos : 0 < prime d) (g : Below (prime d)) (root : pow (ModOps (prime d) pos) g 64 ≡ (ModOps (prime d) pos).neg (ModOps (prime d) pos).one) (j : ℕ) (six : j < 6)
      (powers : (t : ℕ) → t < 32 → Turns d neginv pos g (exponent j (31 - t) / 2) (get_or w (at + t) 0))
      (c : Below (prime d)) (f : ℕ → Below (prime d))
      (before : (k : ℕ) → k < 64 → res (prime d) pos (get_or y k 0) ≡ (ModOps (prime d) pos).mul c (layer (ModOps (prime d) pos) g j f k)) where
    open ModOps (prime d) pos use {Carrier, add as ◌⊕◌, mul as ◌⊗◌, neg}

    infixl 60 ◌⊕◌
    infixl 70 ◌⊗◌
    -- the inverse layer, doubled
    pub res_inverse_layer : (k : ℕ) → k < 64 → res (prime d) pos (get_or (inverse_layer_of d neginv w at y) k 0) ≡ (c ⊕ c) ⊗ f k
    unfolding lower_at upper_at
    res_inverse_layer k h = by (dec_lt k 32)
      where
        small : d ≤ 2175
        small = fits.powers.small

        whole : (u v : ℕ) → u ≤ 285600000 → d ≤ 2175 → v + (3 * prime d - u) + u ≡ v + 3 * prime d
        whole u v l s = omega arith

        by : Dec (k < 32) → res (prime d) pos (get_or (inverse_layer_of d neginv w at y) k 0) ≡ (c ⊕ c) ⊗ f k
        by (yes l) =
            ap (res (prime d) pos) (at_lower k l)
            ∙ res_fold d small pos (get_or y (2 * k) 0 + get_or y (2 * k + 1) 0)
            ∙ res_add (prime d) pos (get_or y (2 * k) 0) (get_or y (2 * k + 1) 0)
            ∙ inverse-low (ModOps (prime d) pos) (mod_ring (prime d) pos) g root j k c (res (prime d) pos (get_or y (2 * k) 0)) (res (prime d) pos (get_or y (2 * k + 1) 0)) f
            (before (2 * k) (omega arith)) (before (2 * k + 1) (omega arith))
        by (no l) =
            let ht : k - 32 < 32 = omega arith in
            let back : k - 32 + 32 ≡ k = omega arith in
            ap (res (prime d) pos) (at_upper k h (omega arith))
            ∙ res_turn d neginv fits.powers.opposite pos g (exponent j (31 - (k - 32)) / 2) (get_or w (at + (k - 32)) 0)
            (get_or y (2 * (k - 32) + 1) 0 + (3 * prime d - get_or y (2 * (k - 32)) 0)) (powers (k - 32) ht)
            ∙ ap (λ x. pow (ModOps (prime d) pos) g (exponent j (31 - (k - 32)) / 2) ⊗ x)
            (res_sub (prime d) pos (get_or y (2 * (k - 32) + 1) 0) (get_or y (2 * (k - 32)) 0) (get_or y (2 * (k - 32) + 1) 0 + (3 * prime d - get_or y (2 * (k - 32)) 0)) 3
            (whole (get_or y (2 * (k - 32)) 0) (get_or y (2 * (k - 32) + 1) 0) (fits.room (2 * (k - 32)) (omega arith)) small))
            ∙ inverse-high (ModOps (prime d) pos) (mod_ring (prime d) pos) g root j (k - 32) c (res (prime d) pos (get_or y (2 * (k - 32)) 0))
            (res (prime d) pos (get_or y (2 * (k - 32) + 1) 0)) f six ht
            (before (2 * (k - 32)) (omega arith)) (before (2 * (k - 32) + 1) (omega arith))
            ∙ ap (λ i. (c ⊕ c) ⊗ f i) back

-- the sums and differences by the place that they come from
pub spread_at_even : (d : ℕ) (x : List ℕ) (t : ℕ) → spread_at d x (2 * t) ≡ get_or x t 0 + get_or x (t + 32) 0
unfolding spread_at
spread_at_even d x t =
    let half : 2 * t / 2 ≡ t = omega arith in
    ap (λ b. cond b (get_or x (2 * t / 2) 0 + get_or x (2 * t / 2 + 32) 0) (get_or x (2 * t / 2) 0 + (3 * prime d - get_or x (2 * t / 2 + 32) 0))) (eq-eqb (2 * t % 2) 0 (omega arith))
    ∙ ap (λ i. get_or x i 0 + get_or x (i + 32) 0) half

pub spread_at_odd : (d : ℕ) (x : List ℕ) (t : ℕ) → spread_at d x (2 * t + 1) ≡ get_or x t 0 + (3 * prime d - get_or x (t + 32) 0)
unfolding spread_at
spread_at_odd d x t =
    let half : (2 * t + 1) / 2 ≡ t = omega arith in
    ap (λ b. cond b (get_or x ((2 * t + 1) / 2) 0 + get_or x ((2 * t + 1) / 2 + 32) 0) (get_or x ((2 * t + 1) / 2) 0 + (3 * prime d - get_or x ((2 * t + 1) / 2 + 32) 0)))
    (ne_eqb ((2 * t + 1) % 2) 0 (omega arith))
    ∙ ap (λ i. get_or x i 0 + (3 * prime d - get_or x (i + 32) 0)) half

-- a layer turns the upper half, and then adds and subtracts
module _ (d neginv : ℕ) (w : List ℕ) (at : ℕ) (x : List ℕ) (n : length x ≡ 64) where
  turned_lower : (t : ℕ) → t < 32 → get_or (turned_of d neginv w at x) t 0 ≡ get_or x t 0
  unfolding turned_of
  turned_lower t h = get_or-splice-before x 32 (table 32 (turned d neginv w at x)) t 0 h

  turned-upper : (t : ℕ) → t < 32 → get_or (turned_of d neginv w at x) (t + 32) 0 ≡ turned d neginv w at x t
  unfolding turned_of
  turned-upper t h =
      ap (λ i. get_or (splice x 32 (table 32 (turned d neginv w at x))) i 0) (add_comm t 32) ∙ get_or-splice-table x 32 32 (turned d neginv w at x) t 0 h (omega arith)

  pub turned-spread : layer_of d neginv w at x ≡ spread_of d (turned_of d neginv w at x)
  unfolding layer_of layer_at spread_of spread_at
  turned-spread = table_ext 64 (layer_at d neginv w at x) (spread_at d (turned_of d neginv w at x))
      (λ k h. ap₂ (λ u v. cond (eqb (k % 2) 0) (u + v) (u + (3 * prime d - v))) (sym (turned_lower (k / 2) (omega arith))) (sym (turned-upper (k / 2) (omega arith))))

  pub spread_fits : LayerFits d neginv w at x → SpreadFits d (turned_of d neginv w at x)
  spread_fits fits = record {
    small = fits.powers.small;
    room = λ t h. omega (arith, turned_lower t h, fits.room t (omega arith));
    upper = λ t h. omega (arith, turned-upper t h, turned-bound d neginv w at x fits t h);
  }

-- and of an inverse layer
pub inverse_layer_at_lower : (d neginv : ℕ) (w : List ℕ) (at : ℕ) (y : List ℕ) (t : ℕ) → t < 32 → inverse_layer_at d neginv w at y t ≡ lower_at d y t
inverse_layer_at_lower d neginv w at y t h = ap (λ b. cond b (lower_at d y t) (upper_at d neginv w at y (t - 32))) (lt-ltb t 32 h)

pub inverse_layer_at-upper : (d neginv : ℕ) (w : List ℕ) (at : ℕ) (y : List ℕ) (t : ℕ) → inverse_layer_at d neginv w at y (t + 32) ≡ upper_at d neginv w at y t
inverse_layer_at-upper d neginv w at y t =
    let back : t + 32 - 32 ≡ t = omega arith in
    ap (λ b. cond b (lower_at d y (t + 32)) (upper_at d neginv w at y (t + 32 - 32))) (le-ltb (t + 32) 32 (omega arith)) ∙ ap (upper_at d neginv w at y) back
