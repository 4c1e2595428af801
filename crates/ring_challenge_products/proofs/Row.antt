-- A row of places while it is filled.
use mathlib.Core.Path.{◌≡◌, refl, sym, ap, ap₂, subst, ◌∙◌}
use mathlib.Core.Bool.{Bool, true, false, cond}
use mathlib.Core.List.{List}
use Prim.Native.Nat.{ℕ, ◌+◌, ◌*◌, ◌≤◌, ◌<◌}
use native.Mathlib.Decide.{ℕ_discrete}
use native.Mathlib.Omega.{arith}
use borrow.Author.Tests.{eq-eqb, ne_eqb}
use lib.Dec.{eqb}
use lib.ListN.{length, get_or, set, replicate, length-set, length-replicate, get_or-replicate}
use lib.Seq.{get_or-set_same, get_or-set_other}
use Rattle.math.specs.lists.Sum.{Σ}
use Rattle.math.proofs.lists.Sum.{Σ-suc, Σ_ext, Σ_zero, Σ_mono, Σ-changed}
use Rattle.math.specs.lists.Part.{part, splice}
use Rattle.math.proofs.lists.Splice.{get_d_part, part-splice-before, part-splice-same}
use Rattle.spec_leaves.specs.Rq.{coeff}
use Rattle.ring_challenge_products.specs.Powers.{place, taken, Sparse, AllSparse, RowOf, PowersOf}

-- the places of the first j coefficients, of which so many are not 0
pub record Begun (row a : List ℕ) (j count : ℕ) : Type 0 where
  pub words : length row ≡ 64
  pub counted : count ≡ Σ j (λ i. taken (coeff a i))
  pub past : (t : ℕ) → t < 64 → count ≤ t → get_or row t 0 ≡ 192
  pub below : (t : ℕ) → t < 64 → get_or row t 0 ≤ 384
  pub same : (f : ℕ → ℕ) → f 192 ≡ 0 → Σ 42 (λ t. f (get_or row t 0)) ≡ Σ j (λ i. f (place (coeff a i) i))

-- none
pub begun_none : (a : List ℕ) → Begun (replicate 64 192) a 0 0
unfolding Σ
begun_none a = record {
  words = length-replicate {A = ℕ} 64 192;
  counted = refl;
  past = λ t h l. zeros t h;
  below = λ t h. omega (arith, zeros t h);
  same = λ f e. Σ_ext 42 (λ t. f (get_or none t 0)) (λ t. 0) (λ t h. ap f (zeros t (omega arith)) ∙ e) ∙ Σ_zero 42;
}
  where
    none : List ℕ
    none = replicate 64 192

    zeros : (t : ℕ) → t < 64 → get_or none t 0 ≡ 192
    zeros t h = get_or-replicate {A = ℕ} 64 t 192 0 h

-- at most one place is taken
pub taken-le : (a : List ℕ) (j : ℕ) → taken (coeff a j) ≤ 1
taken-le a j = either (eqb (coeff a j) 0)
  where
    either : (t : Bool) → cond t 0 1 ≤ 1
    either true = omega arith
    either false = omega arith

-- few of the coefficients are not 0
pub begun_few : (row a : List ℕ) (j count : ℕ) → Begun row a j count → Sparse a → j ≤ 64 → count ≤ 41
begun_few row a j count b s h = omega (arith, b.counted, s.few, Σ_mono j 64 (λ i. taken (coeff a i)) h)

-- a sum over the row with one place stored
stored : (row : List ℕ) (count p : ℕ) (f : ℕ → ℕ) → count < 42 → length row ≡ 64
    → Σ 42 (λ t. f (get_or (set row count p) t 0)) + f (get_or row count 0) ≡ Σ 42 (λ t. f (get_or row t 0)) + f p
stored row count p f h n =
    omega (
      arith,
      Σ_ext 42 (λ t. f (get_or (set row count p) t 0)) (λ t. 1 * cond (eqb t count) (f p) (f (get_or row t 0))) (λ t l. each t (ℕ_discrete t count)),
      Σ-changed 42 count (λ t. 1) (λ t. f (get_or row t 0)) (f p) h,
      Σ_ext 42 (λ t. 1 * f (get_or row t 0)) (λ t. f (get_or row t 0)) (λ t l. omega arith),
    )
  where
    each : (t : ℕ) → Dec (t ≡ count) → f (get_or (set row count p) t 0) ≡ 1 * cond (eqb t count) (f p) (f (get_or row t 0))
    each t (yes e) =
        let w : count < length row = omega arith in
        ap (λ t. f (get_or (set row count p) t 0)) e ∙ ap f (get_or-set_same row count p 0 w) ∙ rw (eq-eqb t count e) (omega arith)
    each t (no d) = ap f (get_or-set_other row count t p 0 d) ∙ rw (ne_eqb t count d) (omega arith)

-- one coefficient more
pub begun_next : (row a : List ℕ) (j count p : ℕ) → Begun row a j count → Sparse a → j < 64 → p ≡ place (coeff a j) j → p ≤ 384
    → Begun (set row count p) a (j + 1) (count + taken (coeff a j))
unfolding place
begun_next row a j count p b s h e l = record {
  words = length-set row count p ∙ b.words;
  counted = ap (λ n. n + taken (coeff a j)) b.counted ∙ sym (Σ-suc j (λ i. taken (coeff a i)));
  past = λ t m k. past t m k (ℕ_discrete t count) (ℕ_discrete (coeff a j) 0);
  below = λ t m. below t m (ℕ_discrete t count);
  same = λ f z.
      omega (arith, stored row count p f room b.words, b.same f z, ap f (b.past count (omega (arith, room)) (omega arith)), z, Σ-suc j (λ i. f (place (coeff a i) i)), ap f e);
}
  where
    room : count < 42
    room = omega (arith, begun_few row a j count b s (omega arith))

    within : count < length row
    within = omega (arith, room, b.words)

    at : (t : ℕ) → t ≡ count → get_or (set row count p) t 0 ≡ p
    at t q = ap (λ t. get_or (set row count p) t 0) q ∙ get_or-set_same row count p 0 within

    below : (t : ℕ) → t < 64 → Dec (t ≡ count) → get_or (set row count p) t 0 ≤ 384
    below t m (yes q) = omega (arith, at t q)
    below t m (no d) = omega (arith, get_or-set_other row count t p 0 d, b.below t m)

    past : (t : ℕ) → t < 64 → count + taken (coeff a j) ≤ t → Dec (t ≡ count) → Dec (coeff a j ≡ 0) → get_or (set row count p) t 0 ≡ 192
    past t m k (yes q) (yes z) = at t q ∙ e ∙ rw (eq-eqb (coeff a j) 0 z)
    past t m k (yes q) (no n) = absurd (never (ap (λ t. cond t 0 1) (ne_eqb (coeff a j) 0 n)))
      where
        never : taken (coeff a j) ≡ 1 → ⊥
        never one = omega arith
    past t m k (no d) z = get_or-set_other row count t p 0 d ∙ b.past t m (omega arith)

-- all
pub begun_all : (row a : List ℕ) (j count : ℕ) → Begun row a j count → j ≡ 64 → RowOf row a
begun_all row a j count b e = record {
  below = λ t h. b.below t (omega arith);
  same = λ f z. b.same f z ∙ ap (λ n. Σ n (λ i. f (place (coeff a i) i))) e;
}

-- one row more
pub rows_next : (c : List ℕ) (at i : ℕ) (before row after : List ℕ) → ((q : ℕ) → q < i → RowOf (part before (64 * q) 64) (part c (at + 64 * q) 64)) → length row ≡ 64
    → 64 * i + 64 ≤ length before → RowOf row (part c (at + 64 * i) 64) → after ≡ splice before (64 * i) row
    → (q : ℕ) → q < i + 1 → RowOf (part after (64 * q) 64) (part c (at + 64 * q) 64)
rows_next c at i before row after all n room this e q h = go (ℕ_discrete q i)
  where
    go : Dec (q ≡ i) → RowOf (part after (64 * q) 64) (part c (at + 64 * q) 64)
    go (yes p) =
        let read : part after (64 * i) 64 ≡ row = ap₂ (λ (l : List ℕ) (m : ℕ). part l (64 * i) m) e (sym n) ∙ part-splice-same 0 before (64 * i) row (omega arith) in
        subst (λ q. RowOf (part after (64 * q) 64) (part c (at + 64 * q) 64)) (sym p) (subst (λ l. RowOf l (part c (at + 64 * i) 64)) (sym read) this)
    go (no d) =
        let read : part after (64 * q) 64 ≡ part before (64 * q) 64 = ap (λ l. part l (64 * q) 64) e ∙ part-splice-before 0 before (64 * i) row (64 * q) 64 (omega arith) in
        subst (λ l. RowOf l (part c (at + 64 * q) 64)) (sym read) (all q (omega arith))

-- all rows
pub powers_of : (powers c : List ℕ) (at r : ℕ) → 64 * r ≤ length powers → AllSparse c at r → ((q : ℕ) → q < r → RowOf (part powers (64 * q) 64) (part c (at + 64 * q) 64))
    → PowersOf powers c at r
powers_of powers c at r room s rows = record {
  places = record { room = room; below = λ i t h l. rw (get_d_part 0 powers (64 * i) 64 t (omega arith)) at ((rows i h).below t l) };
  sparse = s;
  rows = rows;
}
