-- The transform on words gives the values at the odd powers of the root, modulo the prime, and the inverse NTT 64 times the coefficients.
use mathlib.Core.Path.{◌≡◌, sym, ap, ap₂, subst, ◌∙◌}
use mathlib.Core.List.{List}
use Prim.Native.Nat.{ℕ, zero, suc, ◌+◌, ◌-◌, ◌*◌, ◌/◌, ◌≤◌, ◌<◌, ◌^◌}
use native.Mathlib.Nat as Nat
use native.Mathlib.Omega.{arith}
use lib.ListN.{get_or}
use Rattle.math.proofs.lists.Table.{get_or-table}
use Rattle.math.specs.algebra.Ops.{Ops}
use Rattle.math.specs.transform.Layers.{pow, exponent, layer, layers}
use Rattle.math.proofs.algebra.Ring.{one-mul}
use Rattle.math.proofs.transform.Evaluation.{eval}
use Rattle.math.proofs.transform.Layers.{layers_eval}
use Rattle.ntt_layers.specs.Fold.{prime, fold}
use Rattle.ntt_layers.specs.Layer.{Powers, LayerFits, InverseLayerFits}
use Rattle.ntt_layers.specs.Words.{folded_of, reduced_sum, reduced_of}
use Rattle.ntt_layers.proofs.Residues.{Below, res, ModOps, mod_ring, res_add}
use Rattle.ntt_layers.proofs.Folds.{fold_word, res_fold, res_sum, sum_bound}
use Rattle.ntt_layers.proofs.Layer.{Turns, layer-bound, res_layer, inverse-layer-bound, res_inverse_layer}
use Rattle.ntt_transform.specs.Transforms.{TwiddlesFit, layers_of, forward_of, inverse_layers_of, inverse_transform_of}

-- a layer sees the first 64 entries alone
layer_ext : (O : Ops) (g : O.Carrier) (j : ℕ) (f f' : ℕ → O.Carrier) → ((i : ℕ) → i < 64 → f i ≡ f' i) → (k : ℕ) → k < 64 → layer O g j f k ≡ layer O g j f' k
unfolding layer
layer_ext O g j f f' h k l = ap₂ (λ x y. O.add x (O.mul (pow O g (exponent (suc j) k)) y)) (h (k / 2) (omega arith)) (h (k / 2 + 32) (omega arith))

module _ (d neginv : ℕ) (w : List ℕ) (at : ℕ) (tw : TwiddlesFit d neginv w at) where
  -- each layer finds its powers
  pub powers-fit : (j : ℕ) → j < 6 → Powers d neginv w (at + 32 * j)
  powers-fit j h = record {
    small = tw.small;
    opposite = tw.opposite;
    within = omega (arith, tw.within);
    below = λ t l. subst (λ i. get_or w i 0 < 134217728) (sym (Nat.add_assoc at (32 * j) t)) (tw.below (32 * j + t) (omega arith));
  }

  module _ (a : List ℕ) (words : (k : ℕ) → k < 64 → get_or a k 0 < 4294967296) where
    -- entries grow by at most three times the prime a layer
    pub layers-bound : (j : ℕ) → j < 7 → (k : ℕ) → k < 64 → get_or (layers_of d neginv w at (folded_of d a) j) k 0 < 134285153 + 402653184 * j
    unfolding layers_of folded_of
    layers-bound zero h k l = omega (arith, get_or-table 64 (λ k. fold d (get_or a k 0)) k 0 l, fold_word d (get_or a k 0) tw.small (words k l))
    layers-bound (suc j) h k l =
        let before : (k : ℕ) → k < 64 → get_or (layers_of d neginv w at (folded_of d a) j) k 0 < 134285153 + 402653184 * j = layers-bound j (omega arith) in
        omega (
          arith,
          layer-bound d neginv w (at + 32 * j) (layers_of d neginv w at (folded_of d a) j) (record { powers = powers-fit j (omega arith); room = λ k l. omega (arith, before k l) })
              (134285153 + 402653184 * j) before k l,
        )

    pub layer_fits : (j : ℕ) → j < 6 → LayerFits d neginv w (at + 32 * j) (layers_of d neginv w at (folded_of d a) j)
    layer_fits j h = record { powers = powers-fit j h; room = λ k l. omega (arith, layers-bound j (omega arith) k l) }

    -- a value is below twice the prime
    pub forward_bound : (k : ℕ) → k < 64 → get_or (forward_of d neginv w at a) k 0 ≤ 134285152
    unfolding forward_of folded_of
    forward_bound k l =
        omega (
          arith,
          get_or-table 64 (λ k. fold d (get_or (layers_of d neginv w at (folded_of d a) 6) k 0)) k 0 l,
          fold_word d (get_or (layers_of d neginv w at (folded_of d a) 6) k 0)
              tw.small (omega (arith, layers-bound 6 (omega arith) k l)),
        )

  module _ (s : List ℕ) (sums : (k : ℕ) → k < 64 → get_or s k 0 < 2 ^ 64) where
    -- entries stay below three times the prime
    pub inverse-layers-bound : (j : ℕ) → j < 7 → (k : ℕ) → k < 64 → get_or (inverse_layers_of d neginv w at (reduced_of d s) j) k 0 ≤ 285600000
    unfolding inverse_layers_of reduced_of
    inverse-layers-bound zero h k l = omega (arith, get_or-table 64 (λ k. reduced_sum d (get_or s k 0)) k 0 l, sum_bound d (get_or s k 0) tw.small (sums k l))
    inverse-layers-bound (suc j) h k l =
        inverse-layer-bound d neginv w (at + 32 * (5 - j)) (inverse_layers_of d neginv w at (reduced_of d s) j)
        (record { powers = powers-fit (5 - j) (omega arith); room = inverse-layers-bound j (omega arith) }) k l

    pub inverse-layer_fits : (j : ℕ) → j < 6 → InverseLayerFits d neginv w (at + 32 * (5 - j)) (inverse_layers_of d neginv w at (reduced_of d s) j)
    inverse-layer_fits j h = record { powers = powers-fit (5 - j) (omega arith); room = inverse-layers-bound j (omega arith) }

  module _ (pos : 0 < prime d) (g : Below (prime d)) (root : pow (ModOps (prime d) pos) g 64 ≡ (ModOps (prime d) pos).neg (ModOps (prime d) pos).one)
      (powers : (j t : ℕ) → j < 6 → t < 32 → Turns d neginv pos g (exponent j t / 2) (get_or w (at + 32 * j + t) 0)) where
    open ModOps (prime d) pos use {Carrier, add as ◌⊕◌, mul as ◌⊗◌, neg}

    infixl 60 ◌⊕◌
    infixl 70 ◌⊗◌
    res_layers : (a : List ℕ) → ((k : ℕ) → k < 64 → get_or a k 0 < 4294967296) → (j : ℕ) → j < 7 → (k : ℕ) → k < 64
        → res (prime d) pos (get_or (layers_of d neginv w at (folded_of d a) j) k 0) ≡ layers (ModOps (prime d) pos) g j (λ i. res (prime d) pos (get_or a i 0)) k
    unfolding layers_of folded_of layers
    res_layers a words zero h k l = ap (res (prime d) pos) (get_or-table 64 (λ k. fold d (get_or a k 0)) k 0 l) ∙ res_fold d tw.small pos (get_or a k 0)
    res_layers a words (suc j) h k l =
        res_layer d neginv w (at + 32 * j) (layers_of d neginv w at (folded_of d a) j) (layer_fits a words j (omega arith)) pos g root j (λ t m. powers j t (omega arith) m) k l
        ∙ layer_ext (ModOps (prime d) pos) g j (λ i. res (prime d) pos (get_or (layers_of d neginv w at (folded_of d a) j) i 0))
        (layers (ModOps (prime d) pos) g j (λ i. res (prime d) pos (get_or a i 0)))
        (res_layers a words j (omega arith)) k l

    -- entry k of the transform is the value at the power `exponent 6 k` of the root
    pub res_forward : (a : List ℕ) → ((k : ℕ) → k < 64 → get_or a k 0 < 4294967296) → (k : ℕ) → k < 64
        → res (prime d) pos (get_or (forward_of d neginv w at a) k 0) ≡ eval (ModOps (prime d) pos) 64 (λ i. pow (ModOps (prime d) pos) g (exponent 6 k * i)) (λ i. res (prime d) pos (get_or a i 0))
    unfolding forward_of folded_of
    res_forward a words k l =
        ap (res (prime d) pos) (get_or-table 64 (λ k. fold d (get_or (layers_of d neginv w at (folded_of d a) 6) k 0)) k 0 l)
        ∙ res_fold d tw.small pos (get_or (layers_of d neginv w at (folded_of d a) 6) k 0)
        ∙ res_layers a words 6 (omega arith) k l
        ∙ layers_eval (ModOps (prime d) pos) (mod_ring (prime d) pos) g root (λ i. res (prime d) pos (get_or a i 0)) k l

  module _ (pos : 0 < prime d) (g : Below (prime d)) (root : pow (ModOps (prime d) pos) g 64 ≡ (ModOps (prime d) pos).neg (ModOps (prime d) pos).one)
      (powers : (j t : ℕ) → j < 6 → t < 32 → Turns d neginv pos g (exponent j (31 - t) / 2) (get_or w (at + 32 * j + t) 0)) where
    open ModOps (prime d) pos use {mul as ◌⊗◌}

    infixl 70 ◌⊗◌
    module _ (s : List ℕ) (sums : (k : ℕ) → k < 64 → get_or s k 0 < 2 ^ 64) (f : ℕ → Below (prime d))
        (values : (k : ℕ) → k < 64 → res (prime d) pos (get_or s k 0) ≡ layers (ModOps (prime d) pos) g 6 f k) where
      res_inverse_layers : (j : ℕ) → j < 7 → (k : ℕ) → k < 64
          → res (prime d) pos (get_or (inverse_layers_of d neginv w at (reduced_of d s) j) k 0) ≡ res (prime d) pos (2 ^ j) ⊗ layers (ModOps (prime d) pos) g (6 - j) f k
      unfolding inverse_layers_of reduced_of layers
      res_inverse_layers zero h k l =
          ap (res (prime d) pos) (get_or-table 64 (λ k. reduced_sum d (get_or s k 0)) k 0 l)
          ∙ res_sum d tw.small pos (get_or s k 0)
          ∙ values k l
          ∙ sym (one-mul (ModOps (prime d) pos) (mod_ring (prime d) pos) (layers (ModOps (prime d) pos) g 6 f k))
      res_inverse_layers (suc j) h k l =
          let more : 6 - j ≡ suc (5 - j) = omega arith in
          let less : 5 - j ≡ 6 - suc j = omega arith in
          res_inverse_layer d neginv w (at + 32 * (5 - j)) (inverse_layers_of d neginv w at (reduced_of d s) j) (inverse-layer_fits s sums j (omega arith)) pos g root (5 - j) (omega arith)
          (λ t m. powers (5 - j) t (omega arith) m)
          (res (prime d) pos (2 ^ j)) (layers (ModOps (prime d) pos) g (5 - j) f)
          (λ k l. res_inverse_layers j (omega arith) k l ∙ ap (λ i. res (prime d) pos (2 ^ j) ⊗ layers (ModOps (prime d) pos) g i f k) more) k l
          ∙ ap₂ (λ x i. x ⊗ layers (ModOps (prime d) pos) g i f k) (sym (res_add (prime d) pos (2 ^ j) (2 ^ j)) ∙ ap (res (prime d) pos) (twice (2 ^ j) ∙ sym (Nat.pow-suc 2 j))) less
        where
          twice : (n : ℕ) → n + n ≡ n * 2
          twice n = omega arith

      -- the inverse NTT of the values of f
      pub res_inverse : (k : ℕ) → k < 64 → res (prime d) pos (get_or (inverse_transform_of d neginv w at s) k 0) ≡ res (prime d) pos 64 ⊗ f k
      unfolding inverse_transform_of layers
      res_inverse k l = res_inverse_layers 6 (omega arith) k l
