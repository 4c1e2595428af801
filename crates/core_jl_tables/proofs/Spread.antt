-- Runs of words that are stored some way apart.
use Rattle.std.proofs.Common.{◌≡◌, ℕ, zero, suc, ◌+◌, ◌*◌, ◌<◌, ◌≤◌, List, ◌++◌, length, sym, refl, ap, ◌∙◌, ap₂, mul-le-mul_right, add-one, arith}
use Rattle.math.specs.lists.Table.{cat}
use Rattle.math.specs.lists.Part.{splice}
use Rattle.math.proofs.lists.Splice.{length-splice, splice-append, splice-swap}
use Rattle.spec_leaves.specs.Rq.{Element}
use Rattle.spec_protocol.specs.Formulas.{flat}
use Rattle.spec_protocol.proofs.Region.{length-lists}
use Rattle.spec_protocol.proofs.Stored.{lists-none, lists-next}
use Rattle.core_jl_tables.specs.Fours.{spread}

module _ (at step : ℕ) where
  pub spread_none : (l : List ℕ) (f : ℕ → List ℕ) → l ≡ spread l at step 0 f
  unfolding spread
  spread_none l f = refl

  -- one more run
  pub spread-next : (l before : List ℕ) (q : ℕ) (f : ℕ → List ℕ) → before ≡ spread l at step q f → splice before (at + q * step) (f q) ≡ spread l at step (q + 1) f
  unfolding spread
  spread-next l before q f e = ap (λ x. splice x (at + q * step) (f q)) e ∙ sym last
    where
      last : spread l at step (q + 1) f ≡ splice (spread l at step q f) (at + q * step) (f q)
      last = rw add-one

  -- as long as the list
  pub length-spread : (l : List ℕ) (q : ℕ) (f : ℕ → List ℕ) → length (spread l at step q f) ≡ length l
  unfolding spread
  length-spread l zero f = refl
  length-spread l (suc q) f = length-splice (spread l at step q f) (at + q * step) (f q) ∙ length-spread l q f

  -- of runs that agree
  pub spread_ext : (l : List ℕ) (q : ℕ) (f g : ℕ → List ℕ) → ((k : ℕ) → k < q → f k ≡ g k) → spread l at step q f ≡ spread l at step q g
  unfolding spread
  spread_ext l zero f g h = refl
  spread_ext l (suc q) f g h = ap₂ (λ x y. splice x (at + q * step) y) (spread_ext l q f g (λ k i. h k (omega arith))) (h q (omega arith))

  -- a run after all of them
  spread-splice : (l : List ℕ) (q : ℕ) (g : ℕ → List ℕ) (p : ℕ) (x : List ℕ) → ((k : ℕ) → k < q → at + k * step + length (g k) ≤ p)
      → spread (splice l p x) at step q g ≡ splice (spread l at step q g) p x
  unfolding spread
  spread-splice l zero g p x h = refl
  spread-splice l (suc q) g p x h =
      ap (λ m. splice m (at + q * step) (g q)) (spread-splice l q g p x (λ k i. h k (omega arith))) ∙ splice-swap (spread l at step q g) p x (at + q * step) (g q) (h q (omega arith))

  -- lists of so many elements side by side
  pub spread-all : (l : List ℕ) (w q : ℕ) (f : ℕ → List Element) → step ≡ 64 * w → ((k : ℕ) → length (f k) ≡ w) → spread l at step q (λ k. flat (f k)) ≡ splice l at (flat (cat q f))
  unfolding spread
  spread-all l w zero f e h = lists-none l at f
  spread-all l w (suc q) f e h =
      let words : at + q * (64 * w) ≡ at + 64 * (q * w) = omega arith in
      let place : at + q * step ≡ at + 64 * (q * w) = ap (λ m. at + q * m) e ∙ words in
      ap₂ (λ m p. splice m p (flat (f q))) (spread-all l w q f e h) place
      ∙ lists-next l (splice l at (flat (cat q f))) at q (q * w) f refl (length-lists q w f h)
      ∙ ap (λ m. splice l at (flat (cat m f))) (add-one q)

-- runs stored right after runs of `a` words
pub spread_more : (l : List ℕ) (at step a b q : ℕ) (f g : ℕ → List ℕ) → ((k : ℕ) → length (f k) ≡ a) → ((k : ℕ) → length (g k) ≡ b) → a + b ≤ step
    → spread (spread l at step q f) (at + a) step q g ≡ spread l at step q (λ k. f k ++ g k)
unfolding spread
spread_more l at step a b zero f g m n h = refl
spread_more l at step a b (suc q) f g m n h =
    let place : at + a + q * step ≡ at + q * step + length (f q) = omega (arith, m q) in
    ap₂ (λ x p. splice x p (g q))
    (spread-splice (at + a) step (spread l at step q f) q g (at + q * step) (f q) (λ k i. before k i) ∙ ap (λ x. splice x (at + q * step) (f q)) (spread_more l at step a b q f g m n h))
    place
    ∙ splice-append (spread l at step q (λ k. f k ++ g k)) (at + q * step) (f q) (g q)
  where
    before : (k : ℕ) → k < q → at + a + k * step + length (g k) ≤ at + q * step
    before k i = omega (arith, n k, mul-le-mul_right step i)
