-- Elements stored a step apart: one more, and the words of the slice.
use mathlib.Core.Path.{◌≡◌, refl, sym, ap, ap₂, subst, ◌∙◌}
use mathlib.Core.Logic.{◌⊎◌, inl, inr}
use mathlib.Core.List.{List}
use Prim.Native.Nat.{ℕ, zero, suc, ◌+◌, ◌*◌, ◌≤◌, ◌<◌}
use native.Mathlib.Nat.{not-suc-le-zero, eq-or-lt_of_le, mul-le-mul_left}
use native.Mathlib.Numerals.{add-one}
use native.Mathlib.Omega.{arith}
use lib.ListN.{length, get_or}
use Rattle.math.specs.lists.Part.{splice}
use Rattle.math.proofs.lists.Splice.{length-splice, get_or-splice-before, get_or-splice-within, get_or-splice-after}
use Rattle.spec_leaves.specs.Rq.{Element}
use Rattle.spec_leaves.specs.Ring.{words}
use Rattle.spec_protocol.proofs.Flat.{length-words}
use Rattle.ntt_vectors.specs.NttForm.{AllValues}
use Rattle.commitments_ajtai.specs.Spread.{spread}

module _ (S : List ℕ) (at step : ℕ) (f : ℕ → Element) where
  -- none yet
  pub spread_none : S ≡ spread S at step 0 f
  unfolding spread
  spread_none = refl

  -- one more
  pub spread-next : (out next ws : List ℕ) (n to : ℕ) → out ≡ spread S at step n f → to ≡ at + step * n → ws ≡ words (f n) → next ≡ splice out to ws → next ≡ spread S at step (n + 1) f
  unfolding spread
  spread-next out next ws n to e p w h =
      h ∙ ap (λ l. splice l to ws) e ∙ ap (λ k. splice (spread S at step n f) k ws) p ∙ ap (splice (spread S at step n f) (at + step * n)) w ∙ ap (λ k. spread S at step k f) (sym (add-one n))

  pub length-spread : (n : ℕ) → length (spread S at step n f) ≡ length S
  unfolding spread
  length-spread zero = refl
  length-spread (suc n) = length-splice (spread S at step n f) (at + step * n) (words (f n)) ∙ length-spread n

  -- a word apart from all of them
  pub spread_apart : (n x : ℕ) → ((c : ℕ) → c < n → (x < at + step * c) ⊎ (at + step * c + 64 ≤ x)) → get_or (spread S at step n f) x 0 ≡ get_or S x 0
  unfolding spread
  spread_apart zero x h = refl
  spread_apart (suc n) x h = go (h n (omega arith)) ∙ spread_apart n x (λ c l. h c (omega arith))
    where
      go : (x < at + step * n) ⊎ (at + step * n + 64 ≤ x) → get_or (splice (spread S at step n f) (at + step * n) (words (f n))) x 0 ≡ get_or (spread S at step n f) x 0
      go (inl l) = get_or-splice-before (spread S at step n f) (at + step * n) (words (f n)) x 0 l
      go (inr l) = get_or-splice-after (spread S at step n f) (at + step * n) (words (f n)) x 0 (omega (arith, length-words (f n)))

  -- a word of element c
  pub spread-within : (n c y : ℕ) → 64 ≤ step → ((c : ℕ) → c < n → at + step * c + 64 ≤ length S) → c < n → y < 64 → get_or (spread S at step n f) (at + step * c + y) 0 ≡ get_or (words (f c)) y 0
  unfolding spread
  spread-within zero c y wide room h l = absurd (not-suc-le-zero h)
  spread-within (suc n) c y wide room h l = go (eq-or-lt_of_le h) (spread-within n c y wide (λ c m. room c (omega arith)))
    where
      go : (suc c ≡ suc n) ⊎ (suc c < suc n) → (c < n → y < 64 → get_or (spread S at step n f) (at + step * c + y) 0 ≡ get_or (words (f c)) y 0)
          → get_or (splice (spread S at step n f) (at + step * n) (words (f n))) (at + step * c + y) 0 ≡ get_or (words (f c)) y 0
      go (inl e) ih =
          let same : c ≡ n = omega arith in
          ap (λ k. get_or (splice (spread S at step n f) (at + step * n) (words (f n))) (at + step * k + y) 0) same
          ∙ get_or-splice-within (spread S at step n f) (at + step * n) (words (f n)) y 0 (omega (arith, length-words (f n))) (omega (arith, length-words (f n), length-spread n, room n (omega arith)))
          ∙ ap (λ k. get_or (words (f k)) y 0) (sym same)
      go (inr m) ih =
          let next : step * (c + 1) ≤ step * n = mul-le-mul_left step (omega arith) in
          get_or-splice-before (spread S at step n f) (at + step * n) (words (f n)) (at + step * c + y) 0 (omega (arith, next)) ∙ ih (omega arith) l

-- with elements that agree
pub spread_ext : (S : List ℕ) (at step n : ℕ) (f g : ℕ → Element) → ((c : ℕ) → c < n → f c ≡ g c) → spread S at step n f ≡ spread S at step n g
unfolding spread
spread_ext S at step zero f g h = refl
spread_ext S at step (suc n) f g h = ap₂ (λ l e. splice l (at + step * n) (words e)) (spread_ext S at step n f g (λ c l. h c (omega arith))) (h n (omega arith))

-- values that stand where two slices are the same
pub values_same : (S S' : List ℕ) (at n bound : ℕ) → length S' ≡ length S → ((x : ℕ) → x < bound → get_or S' x 0 ≡ get_or S x 0) → at + 192 * n ≤ bound → AllValues S at n → AllValues S' at n
values_same S S' at n bound size same h v = record {
  within = omega (arith, v.within);
  small = λ i m k a b l. subst (λ x. x ≤ 134285152) (sym (same (at + 64 * i + 192 * m + k) (omega arith))) (v.small i m k a b l);
}

-- what stands before the elements
pub spread-before : (S S' : List ℕ) (at step n : ℕ) (f : ℕ → Element) → S' ≡ spread S at step n f → (x : ℕ) → x < at → get_or S' x 0 ≡ get_or S x 0
spread-before S S' at step n f e x l = ap (λ s. get_or s x 0) e ∙ spread_apart S at step f n x (λ c h. inl (omega arith))
