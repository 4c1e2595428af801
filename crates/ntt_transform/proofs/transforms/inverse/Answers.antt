-- `inverse` meets its contract: after each call the entries are those of so many layers.
use mathlib.Core.Path.{◌≡◌, sym, ◌∙◌, ap, subst}
use mathlib.Core.List.{List}
use Prim.Native.Nat.{ℕ, ◌+◌, ◌<◌, ◌^◌}
use native.Mathlib.Omega.{arith}
use borrow.Author.Rules.{rules}
use lib.ListN.{get_or}
use mir.Val.{Fits}
use mir.Syntax.{w64}
use Rattle.ntt_layers.specs.Layer.{InverseLayerFits, inverse_layer_of}
use Rattle.ntt_layers.specs.Words.{reduced_of}
use Rattle.ntt_transform.specs.Transforms.{inverse_layers_of, inverse_transform_of}
use Rattle.ntt_transform.proofs.Laws.{inverse-layer_fits}
use Rattle.ntt_transform.proofs.transforms.inverse.Goals as goal

module _ (d neginv : ℕ) (w : List ℕ) (at : ℕ) (x : List ℕ) where
  after0 : {x0 : List ℕ} → x0 ≡ x → x0 ≡ inverse_layers_of d neginv w at x 0
  unfolding inverse_layers_of
  after0 e0 = e0

  after1 : {x0 x1 : List ℕ}
      → x0 ≡ x → x1 ≡ inverse_layer_of d neginv w (at + 160) x0
      → x1 ≡ inverse_layers_of d neginv w at x 1
  unfolding inverse_layers_of
  after1 e0 e1 = e1 ∙ ap (inverse_layer_of d neginv w (at + 160)) (after0 e0)

  after2 : {x0 x1 x2 : List ℕ}
      → x0 ≡ x → x1 ≡ inverse_layer_of d neginv w (at + 160) x0 → x2 ≡ inverse_layer_of d neginv w (at + 128) x1
      → x2 ≡ inverse_layers_of d neginv w at x 2
  unfolding inverse_layers_of
  after2 e0 e1 e2 = e2 ∙ ap (inverse_layer_of d neginv w (at + 128)) (after1 e0 e1)

  after3 : {x0 x1 x2 x3 : List ℕ}
      → x0 ≡ x → x1 ≡ inverse_layer_of d neginv w (at + 160) x0 → x2 ≡ inverse_layer_of d neginv w (at + 128) x1
      → x3 ≡ inverse_layer_of d neginv w (at + 96) x2
      → x3 ≡ inverse_layers_of d neginv w at x 3
  unfolding inverse_layers_of
  after3 e0 e1 e2 e3 = e3 ∙ ap (inverse_layer_of d neginv w (at + 96)) (after2 e0 e1 e2)

  after4 : {x0 x1 x2 x3 x4 : List ℕ}
      → x0 ≡ x → x1 ≡ inverse_layer_of d neginv w (at + 160) x0 → x2 ≡ inverse_layer_of d neginv w (at + 128) x1
      → x3 ≡ inverse_layer_of d neginv w (at + 96) x2 → x4 ≡ inverse_layer_of d neginv w (at + 64) x3
      → x4 ≡ inverse_layers_of d neginv w at x 4
  unfolding inverse_layers_of
  after4 e0 e1 e2 e3 e4 = e4 ∙ ap (inverse_layer_of d neginv w (at + 64)) (after3 e0 e1 e2 e3)

  after5 : {x0 x1 x2 x3 x4 x5 : List ℕ}
      → x0 ≡ x → x1 ≡ inverse_layer_of d neginv w (at + 160) x0 → x2 ≡ inverse_layer_of d neginv w (at + 128) x1
      → x3 ≡ inverse_layer_of d neginv w (at + 96) x2 → x4 ≡ inverse_layer_of d neginv w (at + 64) x3 → x5 ≡ inverse_layer_of d neginv w (at + 32) x4
      → x5 ≡ inverse_layers_of d neginv w at x 5
  unfolding inverse_layers_of
  after5 e0 e1 e2 e3 e4 e5 = e5 ∙ ap (inverse_layer_of d neginv w (at + 32)) (after4 e0 e1 e2 e3 e4)

  after6 : {x0 x1 x2 x3 x4 x5 x6 : List ℕ}
      → x0 ≡ x → x1 ≡ inverse_layer_of d neginv w (at + 160) x0 → x2 ≡ inverse_layer_of d neginv w (at + 128) x1
      → x3 ≡ inverse_layer_of d neginv w (at + 96) x2 → x4 ≡ inverse_layer_of d neginv w (at + 64) x3 → x5 ≡ inverse_layer_of d neginv w (at + 32) x4
      → x6 ≡ inverse_layer_of d neginv w (at + 0) x5
      → x6 ≡ inverse_layers_of d neginv w at x 6
  unfolding inverse_layers_of
  after6 e0 e1 e2 e3 e4 e5 e6 = e6 ∙ ap (inverse_layer_of d neginv w (at + 0)) (after5 e0 e1 e2 e3 e4 e5)

pub inverse_layer-y1-requires : goal.inverse_layer-y1-requires
inverse_layer-y1-requires c =
    let s = c.args in
    let words : (k : ℕ) → k < 64 → get_or s.s k 0 < 2 ^ 64 = λ k l. let f : Fits w64 (get_or s.s k 0) = search rules in omega arith in
    subst (InverseLayerFits s.prime.delta s.prime.opposite s.w.now (s.at + 160)) (sym (after0 s.prime.delta s.prime.opposite s.w.now s.at (reduced_of s.prime.delta s.s) c.reduce_sums-y0.ensures))
    (inverse-layer_fits s.prime.delta s.prime.opposite s.w.now s.at c.requires s.s words 0 (omega arith))

pub inverse_layer-y2-requires : goal.inverse_layer-y2-requires
inverse_layer-y2-requires c =
    let s = c.args in
    let words : (k : ℕ) → k < 64 → get_or s.s k 0 < 2 ^ 64 = λ k l. let f : Fits w64 (get_or s.s k 0) = search rules in omega arith in
    subst (InverseLayerFits s.prime.delta s.prime.opposite s.w.now (s.at + 128)) (sym (after1 s.prime.delta s.prime.opposite s.w.now s.at (reduced_of s.prime.delta s.s) c.reduce_sums-y0.ensures
    c.inverse_layer-y1.ensures))
    (inverse-layer_fits s.prime.delta s.prime.opposite s.w.now s.at c.requires s.s words 1 (omega arith))

pub inverse_layer-y3-requires : goal.inverse_layer-y3-requires
inverse_layer-y3-requires c =
    let s = c.args in
    let words : (k : ℕ) → k < 64 → get_or s.s k 0 < 2 ^ 64 = λ k l. let f : Fits w64 (get_or s.s k 0) = search rules in omega arith in
    subst (InverseLayerFits s.prime.delta s.prime.opposite s.w.now (s.at + 96)) (sym
    (after2 s.prime.delta s.prime.opposite s.w.now s.at (reduced_of s.prime.delta s.s) c.reduce_sums-y0.ensures c.inverse_layer-y1.ensures c.inverse_layer-y2.ensures))
    (inverse-layer_fits s.prime.delta s.prime.opposite s.w.now s.at c.requires s.s words 2 (omega arith))

pub inverse_layer-y4-requires : goal.inverse_layer-y4-requires
inverse_layer-y4-requires c =
    let s = c.args in
    let words : (k : ℕ) → k < 64 → get_or s.s k 0 < 2 ^ 64 = λ k l. let f : Fits w64 (get_or s.s k 0) = search rules in omega arith in
    subst (InverseLayerFits s.prime.delta s.prime.opposite s.w.now (s.at + 64)) (sym
    (after3 s.prime.delta s.prime.opposite s.w.now s.at (reduced_of s.prime.delta s.s) c.reduce_sums-y0.ensures c.inverse_layer-y1.ensures c.inverse_layer-y2.ensures c.inverse_layer-y3.ensures))
    (inverse-layer_fits s.prime.delta s.prime.opposite s.w.now s.at c.requires s.s words 3 (omega arith))

pub inverse_layer-y5-requires : goal.inverse_layer-y5-requires
inverse_layer-y5-requires c =
    let s = c.args in
    let words : (k : ℕ) → k < 64 → get_or s.s k 0 < 2 ^ 64 = λ k l. let f : Fits w64 (get_or s.s k 0) = search rules in omega arith in
    subst (InverseLayerFits s.prime.delta s.prime.opposite s.w.now (s.at + 32)) (sym
    (after4 s.prime.delta s.prime.opposite s.w.now s.at (reduced_of s.prime.delta s.s) c.reduce_sums-y0.ensures c.inverse_layer-y1.ensures c.inverse_layer-y2.ensures c.inverse_layer-y3.ensures
    c.inverse_layer-y4.ensures))
    (inverse-layer_fits s.prime.delta s.prime.opposite s.w.now s.at c.requires s.s words 4 (omega arith))

pub inverse_layer-requires : goal.inverse_layer-requires
inverse_layer-requires c =
    let s = c.args in
    let words : (k : ℕ) → k < 64 → get_or s.s k 0 < 2 ^ 64 = λ k l. let f : Fits w64 (get_or s.s k 0) = search rules in omega arith in
    subst (InverseLayerFits s.prime.delta s.prime.opposite s.w.now (s.at + 0)) (sym
    (after5 s.prime.delta s.prime.opposite s.w.now s.at (reduced_of s.prime.delta s.s) c.reduce_sums-y0.ensures c.inverse_layer-y1.ensures c.inverse_layer-y2.ensures c.inverse_layer-y3.ensures
    c.inverse_layer-y4.ensures c.inverse_layer-y5.ensures))
    (inverse-layer_fits s.prime.delta s.prime.opposite s.w.now s.at c.requires s.s words 5 (omega arith))

pub returns : goal.returns
unfolding inverse_transform_of
returns c =
    let s = c.args in
    after6 s.prime.delta s.prime.opposite s.w.now s.at (reduced_of s.prime.delta s.s) c.reduce_sums-y0.ensures c.inverse_layer-y1.ensures c.inverse_layer-y2.ensures c.inverse_layer-y3.ensures
    c.inverse_layer-y4.ensures c.inverse_layer-y5.ensures c.inverse_layer.ensures
