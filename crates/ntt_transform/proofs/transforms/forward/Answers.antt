-- `forward` meets its contract: after each call the entries are those of so many layers.
use mathlib.Core.Path.{◌≡◌, sym, ◌∙◌, ap, subst}
use mathlib.Core.List.{List}
use Prim.Native.Nat.{ℕ, ◌+◌, ◌<◌}
use native.Mathlib.Omega.{arith}
use borrow.Author.Rules.{rules}
use lib.ListN.{get_or}
use mir.Val.{Fits}
use mir.Syntax.{w32}
use Rattle.ntt_layers.specs.Layer.{LayerFits, layer_of}
use Rattle.ntt_layers.specs.Words.{folded_of}
use Rattle.ntt_transform.specs.Transforms.{layers_of, forward_of}
use Rattle.ntt_transform.proofs.Laws.{layer_fits}
use Rattle.ntt_transform.proofs.transforms.forward.Goals as goal

module _ (d neginv : ℕ) (w : List ℕ) (at : ℕ) (x : List ℕ) where
  after0 : {x0 : List ℕ} → x0 ≡ x → x0 ≡ layers_of d neginv w at x 0
  unfolding layers_of
  after0 e0 = e0

  after1 : {x0 x1 : List ℕ}
      → x0 ≡ x → x1 ≡ layer_of d neginv w (at + 0) x0
      → x1 ≡ layers_of d neginv w at x 1
  unfolding layers_of
  after1 e0 e1 = e1 ∙ ap (layer_of d neginv w (at + 0)) (after0 e0)

  after2 : {x0 x1 x2 : List ℕ}
      → x0 ≡ x → x1 ≡ layer_of d neginv w (at + 0) x0 → x2 ≡ layer_of d neginv w (at + 32) x1
      → x2 ≡ layers_of d neginv w at x 2
  unfolding layers_of
  after2 e0 e1 e2 = e2 ∙ ap (layer_of d neginv w (at + 32)) (after1 e0 e1)

  after3 : {x0 x1 x2 x3 : List ℕ}
      → x0 ≡ x → x1 ≡ layer_of d neginv w (at + 0) x0 → x2 ≡ layer_of d neginv w (at + 32) x1
      → x3 ≡ layer_of d neginv w (at + 64) x2
      → x3 ≡ layers_of d neginv w at x 3
  unfolding layers_of
  after3 e0 e1 e2 e3 = e3 ∙ ap (layer_of d neginv w (at + 64)) (after2 e0 e1 e2)

  after4 : {x0 x1 x2 x3 x4 : List ℕ}
      → x0 ≡ x → x1 ≡ layer_of d neginv w (at + 0) x0 → x2 ≡ layer_of d neginv w (at + 32) x1
      → x3 ≡ layer_of d neginv w (at + 64) x2 → x4 ≡ layer_of d neginv w (at + 96) x3
      → x4 ≡ layers_of d neginv w at x 4
  unfolding layers_of
  after4 e0 e1 e2 e3 e4 = e4 ∙ ap (layer_of d neginv w (at + 96)) (after3 e0 e1 e2 e3)

  after5 : {x0 x1 x2 x3 x4 x5 : List ℕ}
      → x0 ≡ x → x1 ≡ layer_of d neginv w (at + 0) x0 → x2 ≡ layer_of d neginv w (at + 32) x1
      → x3 ≡ layer_of d neginv w (at + 64) x2 → x4 ≡ layer_of d neginv w (at + 96) x3 → x5 ≡ layer_of d neginv w (at + 128) x4
      → x5 ≡ layers_of d neginv w at x 5
  unfolding layers_of
  after5 e0 e1 e2 e3 e4 e5 = e5 ∙ ap (layer_of d neginv w (at + 128)) (after4 e0 e1 e2 e3 e4)

  after6 : {x0 x1 x2 x3 x4 x5 x6 : List ℕ}
      → x0 ≡ x → x1 ≡ layer_of d neginv w (at + 0) x0 → x2 ≡ layer_of d neginv w (at + 32) x1
      → x3 ≡ layer_of d neginv w (at + 64) x2 → x4 ≡ layer_of d neginv w (at + 96) x3 → x5 ≡ layer_of d neginv w (at + 128) x4
      → x6 ≡ layer_of d neginv w (at + 160) x5
      → x6 ≡ layers_of d neginv w at x 6
  unfolding layers_of
  after6 e0 e1 e2 e3 e4 e5 e6 = e6 ∙ ap (layer_of d neginv w (at + 160)) (after5 e0 e1 e2 e3 e4 e5)

pub layer-x1-requires : goal.layer-x1-requires
layer-x1-requires c =
    let s = c.args in
    let words : (k : ℕ) → k < 64 → get_or s.a k 0 < 4294967296 = λ k l. let f : Fits w32 (get_or s.a k 0) = search rules in omega arith in
    subst (LayerFits s.prime.delta s.prime.opposite s.w.now (s.at + 0)) (sym (after0 s.prime.delta s.prime.opposite s.w.now s.at (folded_of s.prime.delta s.a) c.fold_words-x0.ensures))
    (layer_fits s.prime.delta s.prime.opposite s.w.now s.at c.requires s.a words 0 (omega arith))

pub layer-x2-requires : goal.layer-x2-requires
layer-x2-requires c =
    let s = c.args in
    let words : (k : ℕ) → k < 64 → get_or s.a k 0 < 4294967296 = λ k l. let f : Fits w32 (get_or s.a k 0) = search rules in omega arith in
    subst (LayerFits s.prime.delta s.prime.opposite s.w.now (s.at + 32)) (sym (after1 s.prime.delta s.prime.opposite s.w.now s.at (folded_of s.prime.delta s.a) c.fold_words-x0.ensures
    c.layer-x1.ensures))
    (layer_fits s.prime.delta s.prime.opposite s.w.now s.at c.requires s.a words 1 (omega arith))

pub layer-x3-requires : goal.layer-x3-requires
layer-x3-requires c =
    let s = c.args in
    let words : (k : ℕ) → k < 64 → get_or s.a k 0 < 4294967296 = λ k l. let f : Fits w32 (get_or s.a k 0) = search rules in omega arith in
    subst (LayerFits s.prime.delta s.prime.opposite s.w.now (s.at + 64)) (sym (after2 s.prime.delta s.prime.opposite s.w.now s.at (folded_of s.prime.delta s.a) c.fold_words-x0.ensures
    c.layer-x1.ensures c.layer-x2.ensures))
    (layer_fits s.prime.delta s.prime.opposite s.w.now s.at c.requires s.a words 2 (omega arith))

pub layer-x4-requires : goal.layer-x4-requires
layer-x4-requires c =
    let s = c.args in
    let words : (k : ℕ) → k < 64 → get_or s.a k 0 < 4294967296 = λ k l. let f : Fits w32 (get_or s.a k 0) = search rules in omega arith in
    subst (LayerFits s.prime.delta s.prime.opposite s.w.now (s.at + 96)) (sym (after3 s.prime.delta s.prime.opposite s.w.now s.at (folded_of s.prime.delta s.a) c.fold_words-x0.ensures
    c.layer-x1.ensures c.layer-x2.ensures c.layer-x3.ensures))
    (layer_fits s.prime.delta s.prime.opposite s.w.now s.at c.requires s.a words 3 (omega arith))

pub layer-x5-requires : goal.layer-x5-requires
layer-x5-requires c =
    let s = c.args in
    let words : (k : ℕ) → k < 64 → get_or s.a k 0 < 4294967296 = λ k l. let f : Fits w32 (get_or s.a k 0) = search rules in omega arith in
    subst (LayerFits s.prime.delta s.prime.opposite s.w.now (s.at + 128)) (sym (after4 s.prime.delta s.prime.opposite s.w.now s.at (folded_of s.prime.delta s.a) c.fold_words-x0.ensures
    c.layer-x1.ensures c.layer-x2.ensures
    c.layer-x3.ensures c.layer-x4.ensures))
    (layer_fits s.prime.delta s.prime.opposite s.w.now s.at c.requires s.a words 4 (omega arith))

pub layer-x6-requires : goal.layer-x6-requires
layer-x6-requires c =
    let s = c.args in
    let words : (k : ℕ) → k < 64 → get_or s.a k 0 < 4294967296 = λ k l. let f : Fits w32 (get_or s.a k 0) = search rules in omega arith in
    subst (LayerFits s.prime.delta s.prime.opposite s.w.now (s.at + 160)) (sym (after5 s.prime.delta s.prime.opposite s.w.now s.at (folded_of s.prime.delta s.a) c.fold_words-x0.ensures
    c.layer-x1.ensures c.layer-x2.ensures
    c.layer-x3.ensures c.layer-x4.ensures c.layer-x5.ensures))
    (layer_fits s.prime.delta s.prime.opposite s.w.now s.at c.requires s.a words 5 (omega arith))

pub returns : goal.returns
unfolding forward_of
returns c =
    let s = c.args in
    c.fold_words.ensures ∙ ap (folded_of s.prime.delta) (after6 s.prime.delta s.prime.opposite s.w.now s.at (folded_of s.prime.delta s.a) c.fold_words-x0.ensures c.layer-x1.ensures
    c.layer-x2.ensures c.layer-x3.ensures
    c.layer-x4.ensures c.layer-x5.ensures c.layer-x6.ensures)
