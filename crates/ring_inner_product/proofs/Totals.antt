-- Totals that are equal modulo Q to the sums of the coefficients of the first m elements, and what they come to.
use mathlib.Core.Path.{◌≡◌, refl, sym, ◌∙◌, ap}
use mathlib.Core.List.{List}
use Prim.Native.Nat.{ℕ, ◌+◌, ◌*◌, ◌%◌, ◌≤◌, ◌<◌, ◌^◌}
use native.Mathlib.Omega.{arith}
use lib.ListN.{get_or, replicate, get_or-replicate}
use Rattle.math.specs.lists.Table.{table}
use Rattle.math.specs.lists.Part.{part}
use Rattle.math.specs.lists.Sum.{Σ}
use Rattle.math.proofs.lists.Table.{table_ext}
use Rattle.math.proofs.lists.Sum.{Σ-suc, Σ_ext}
use Rattle.math.specs.algebra.Ops.{sum, dot}
use Rattle.math.proofs.algebra.Sum.{sum_ext}
use Rattle.spec_leaves.specs.Zq.{Q, lack_Q}
use Rattle.spec_leaves.specs.Rq.{coeff, rmul, rscale}
use Rattle.spec_leaves.specs.Ring.{RqOps, IsElement, words, element, scale}
use Rattle.spec_leaves.proofs.Bridge.{words-sum, words-element, element-rmul, element-rscale, rmul-element, rscale-element}
use Rattle.spec_leaves.proofs.Suited.{suited, sums-fit}
use Rattle.spec_leaves.proofs.Modulo.{add-mod}
use Rattle.ring_rq_product.specs.Product.{growth}
use Rattle.ring_rq_product.specs.Sums.{SumsRoom, Added}
use Rattle.ring_inner_product.specs.Run.{run}

-- totals of the first m of the elements f 0, f 1, …, each of which adds so much at most
pub record Totals (growth : ℕ) (totals : List ℕ) (m : ℕ) (f : ℕ → List ℕ) : Type 0 where
  pub value : (k : ℕ) → k < 64 → get_or totals k 0 % Q ≡ Σ m (λ i. coeff (f i) k) % Q
  pub bound : (k : ℕ) → k < 64 → get_or totals k 0 ≤ growth * m

-- none
pub totals_none : (growth : ℕ) (f : ℕ → List ℕ) → Totals growth (replicate 64 0) 0 f
unfolding Σ
totals_none growth f = record {
  value = λ k h. ap (λ v. v % Q) (get_or-replicate {A = ℕ} 64 k 0 0 h);
  bound = λ k h. omega (arith, get_or-replicate {A = ℕ} 64 k 0 0 h);
}

-- one more
pub totals_next : (growth : ℕ) (totals next : List ℕ) (m : ℕ) (f : ℕ → List ℕ) → Totals growth totals m f → Added growth totals (f m) next → Totals growth next (m + 1) f
totals_next growth totals next m f t a = record {
  value = λ k h.
      a.value k h ∙ add-mod Q (get_or totals k 0) (coeff (f m) k) (Σ m (λ i. coeff (f i) k)) (coeff (f m) k) (t.value k h) refl ∙ ap (λ v. v % Q) (sym (Σ-suc m (λ i. coeff (f i) k)));
  bound = λ k h. omega (arith, a.bound k h, t.bound k h);
}

-- there is room while they are few, since Q lacks little of 2^32
pub totals_room : (totals : List ℕ) (m : ℕ) (f : ℕ → List ℕ) → Totals growth totals m f → m ≤ 2 ^ 18 → SumsRoom totals
totals_room totals m f t few k h = omega (arith, t.bound k h, sums-fit lack_Q m suited few)

-- reduced, they are the words of the elements' sum
pub totals_words : (growth : ℕ) (totals : List ℕ) (n : ℕ) (f : ℕ → List ℕ) → Totals growth totals n f → ((m : ℕ) → IsElement (f m))
    → table 64 (λ k. get_or totals k 0 % Q) ≡ words (sum RqOps n (λ m. element (f m)))
totals_words growth totals n f t e =
    table_ext 64 (λ k. get_or totals k 0 % Q) (λ k. Σ n (λ i. coeff (words (element (f i))) k) % Q)
    (λ k h. t.value k h ∙ ap (λ v. v % Q) (Σ_ext n (λ i. coeff (f i) k) (λ i. coeff (words (element (f i))) k) (λ i l. ap (λ w. coeff w k) (sym (words-element (f i) (e i))))))
    ∙ sym (words-sum n (λ m. element (f m)))

-- product m of two runs
abbrev pub product_of : (x : List ℕ) (x-at x-step : ℕ) (y : List ℕ) (y-at y-step : ℕ) → ℕ → List ℕ
product_of x x-at x-step y y-at y-step m = rmul (part x (x-at + x-step * m) 64) (part y (y-at + y-step * m) 64)

-- the totals of products are the inner product
pub totals_dot : (growth : ℕ) (x : List ℕ) (x-at x-step : ℕ) (y : List ℕ) (y-at y-step n : ℕ) (totals : List ℕ) → Totals growth totals n (product_of x x-at x-step y y-at y-step)
    → table 64 (λ k. get_or totals k 0 % Q) ≡ words (dot RqOps n (run x x-at x-step) (run y y-at y-step))
unfolding dot
totals_dot growth x x-at x-step y y-at y-step n totals t =
    totals_words growth totals n (product_of x x-at x-step y y-at y-step) t (λ m. rmul-element (part x (x-at + x-step * m) 64) (part y (y-at + y-step * m) 64))
    ∙ ap words (sum_ext RqOps n (λ m. element (product_of x x-at x-step y y-at y-step m)) (λ m. RqOps.mul (run x x-at x-step m) (run y y-at y-step m))
    (λ m l. element-rmul (part x (x-at + x-step * m) 64) (part y (y-at + y-step * m) 64)))

-- element m of a run scaled
abbrev pub scaled_of : (x : List ℕ) (x-at x-step : ℕ) (factors : List ℕ) (at : ℕ) → ℕ → List ℕ
scaled_of x x-at x-step factors at m = rscale (part x (x-at + x-step * m) 64) (get_or factors (at + m) 0)

-- the totals of scaled elements are the linear combination
pub totals_combination : (x : List ℕ) (x-at x-step : ℕ) (factors : List ℕ) (at n : ℕ) (totals : List ℕ) → Totals growth totals n (scaled_of x x-at x-step factors at)
    → table 64 (λ k. get_or totals k 0 % Q) ≡ words (sum RqOps n (λ m. scale (run x x-at x-step m) (get_or factors (at + m) 0)))
totals_combination x x-at x-step factors at n totals t =
    totals_words growth totals n (scaled_of x x-at x-step factors at) t (λ m. rscale-element (part x (x-at + x-step * m) 64) (get_or factors (at + m) 0))
    ∙ ap words (sum_ext RqOps n (λ m. element (scaled_of x x-at x-step factors at m)) (λ m. scale (run x x-at x-step m) (get_or factors (at + m) 0))
    (λ m l. element-rscale (part x (x-at + x-step * m) 64) (get_or factors (at + m) 0)))
