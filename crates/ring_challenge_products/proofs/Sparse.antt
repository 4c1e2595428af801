-- A challenge is sparse.
use mathlib.Core.Path.{◌≡◌, refl, sym, ap, ◌∙◌}
use mathlib.Core.Bool.{true, cond}
use mathlib.Core.List.{List}
use Prim.Native.Nat.{ℕ, ◌-◌, ◌<◌}
use native.Mathlib.Omega.{arith}
use borrow.Author.Tests.{lt-ltb, ltb-true, ne_eqb}
use lib.Dec.{ltb, eqb}
use lib.ListN.{get_or}
use Rattle.math.specs.lists.Sum.{Σ}
use Rattle.math.proofs.lists.Sum.{Σ_ext}
use Rattle.spec_leaves.specs.Zq.{Q, Canonical, half_Q, size}
use Rattle.spec_leaves.specs.Rq.{coeff}
use Rattle.spec_leaves.specs.Challenge.{start_size, start, challenge}
use Rattle.spec_leaves.proofs.Cases.{ltb_cases}
use Rattle.spec_leaves.proofs.Challenge.{all-shuffle, length-start, get_or-start, size-start, length-challenge, total-challenge, challenge-canonical}
use Rattle.ring_challenge_products.specs.Powers.{taken, Sparse}

-- a canonical value has size 0 where it is 0
taken-size : (v : ℕ) → Canonical v → taken v ≡ cond (eqb (size v) 0) 0 1
taken-size v h = ltb_cases (λ t. taken v ≡ cond (eqb (cond t (Q - v) v) 0) 0 1) half_Q v (λ l. above l) (λ l. refl)
  where
    above : half_Q < v → taken v ≡ cond (eqb (Q - v) 0) 0 1
    above l =
        ap (λ t. cond t 0 1) (ne_eqb v 0 (λ e. omega arith)) ∙ sym (ap (λ t. cond t 0 1) (ne_eqb (Q - v) 0 (λ e. omega arith)))

-- a size before the shuffle is below 3
start_small : (k : ℕ) → start_size k < 3
start_small k = ltb_cases (λ t. cond t 1 (cond (ltb k 41) 2 0) < 3) k 31 (λ h. omega arith) (λ h. ltb_cases (λ t. cond t 2 0 < 3) k 41 (λ m. omega arith) (λ m. omega arith))

-- 31 coefficients of size 1, 10 of size 2
pub challenge-sparse : (signs words : List ℕ) → Sparse (challenge signs words)
unfolding Σ challenge
challenge-sparse signs words = record {
  canonical = canonical;
  small = λ j h. omega (arith, ltb-true (size (coeff (challenge signs words) j)) 3 (all-shuffle (λ x. ltb (size x) 3) words (start signs) (length-start signs) before j h));
  few = omega (arith, all);
}
  where
    canonical : (j : ℕ) → j < 64 → Canonical (coeff (challenge signs words) j)
    canonical j h = challenge-canonical signs words j (omega (arith, length-challenge signs words))

    before : (k : ℕ) → k < 64 → ltb (size (get_or (start signs) k 0)) 3 ≡ true
    before k h = lt-ltb (size (get_or (start signs) k 0)) 3 (omega (arith, ap size (get_or-start signs k h) ∙ size-start signs k, start_small k))

    -- 41 coefficients are not 0
    all : Σ 64 (λ j. taken (coeff (challenge signs words) j)) ≡ 41
    all =
        Σ_ext 64 (λ j. taken (coeff (challenge signs words) j)) (λ j. cond (eqb (size (coeff (challenge signs words) j)) 0) 0 1)
        (λ j h. taken-size (coeff (challenge signs words) j) (canonical j h))
        ∙ ap (λ n. Σ n (λ j. cond (eqb (size (coeff (challenge signs words) j)) 0) 0 1)) (sym (length-challenge signs words))
        ∙ total-challenge (λ n. cond (eqb n 0) 0 1) signs words
