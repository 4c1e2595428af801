-- Sums of products of weights' values and elements' values.
use Rattle.std.specs.Prelude.{◌≡◌, Bool, false, cond, List, ℕ, ◌+◌, ◌-◌, ◌*◌, ◌≤◌, ◌<◌, leb, ltb, length, get_or, replicate}
use Rattle.math.specs.lists.Table.{table}
use Rattle.math.specs.lists.Part.{part}
use Rattle.math.specs.lists.Sum.{Σ}
use Rattle.spec_leaves.specs.Rq.{Element}
use Rattle.spec_leaves.specs.Ring.{element}
use Rattle.spec_protocol.specs.Formulas.{flat}
use Rattle.ring_inner_product.specs.declared.Strided.{Strided}
use Rattle.ring_inner_product.specs.Run.{Run, Within, further}
use Rattle.core_aggregate.specs.Weighed.{Rows}
use Rattle.ntt_product.specs.NttForm.{most_products}
use Rattle.ntt_vectors.specs.NttForm.{ntt_form, NttForm, AllValues}
use Rattle.ntt_vectors.specs.Sums.{inverse_from}

-- the product of a weight in NTT form and an element added to the sums
unfoldable pub term_added : List ℕ → List ℕ → ℕ → List ℕ → List ℕ
term_added sums weights at e = table 192 (λ k. get_or sums k 0 + get_or weights (at + k) 0 * get_or (ntt_form e) k 0)

-- those of so many elements a step apart
unfoldable pub terms_added : List ℕ → List ℕ → ℕ → List ℕ → (at step count : ℕ) → List ℕ
terms_added sums weights weights-at from at step count =
    table 192 (λ k. get_or sums k 0 + Σ count (λ m. get_or weights (weights-at + 192 * m + k) 0 * get_or (ntt_form (part from (at + step * m) 64)) k 0))

-- those of a run
abbrev pub run_added : List ℕ → List ℕ → ℕ → List ℕ → Strided → List ℕ
run_added sums weights weights-at from x = terms_added sums weights weights-at from x.at x.step x.count

-- 192 sums with room for so many terms, of the most in all
pub record SumsSmall (sums : List ℕ) (count : ℕ) : Type 0 where
  pub whole : length sums ≡ 192
  pub few : count ≤ most_products
  pub small : (k : ℕ) → k < 192 → get_or sums k 0 ≤ (most_products - count) * 18032502047663104

-- the element whose values are the sums of the products of weights, in NTT form one after the other, with a run of constraints' elements and one of aggregated ones
unfoldable pub ntt_mixed : List ℕ → Strided → List ℕ → Strided → List ℕ → Element
ntt_mixed job constraints scratch aggregated weights =
    element (inverse_from (run_added (run_added (replicate 192 0) weights 0 job constraints) weights (192 * constraints.count) scratch aggregated) 0)

-- both runs lie within the slices, and their weights are values
abbrev pub NttMixable : List ℕ → Strided → List ℕ → Strided → List ℕ → Type 0
NttMixable job constraints scratch aggregated weights =
    Within job constraints
    × Within scratch aggregated
    × AllValues weights 0 (constraints.count + aggregated.count)
    × (constraints.count + aggregated.count ≤ most_products)

-- the words of `width` such elements, each of the runs of the rows' elements
abbrev pub ntt_mixed_words : List ℕ → Strided → List ℕ → Strided → ℕ → List ℕ → List ℕ
ntt_mixed_words job constraints scratch aggregated width weights = flat (table width (λ c. ntt_mixed job (further constraints c) scratch (further aggregated c) weights))

-- the rows of the constraints lie within the job, the aggregated ones within the scratch, and after them the result has room
abbrev pub MixRoom : List ℕ → Strided → List ℕ → Strided → (width to : ℕ) → List ℕ → Type 0
MixRoom job constraints scratch aggregated width to weights =
    Rows job constraints width
    × Rows scratch aggregated width
    × (aggregated.at + 64 * (width * aggregated.count) ≤ to)
    × (to + 64 * width ≤ length scratch)
    × AllValues weights 0 (constraints.count + aggregated.count)
    × (constraints.count + aggregated.count ≤ most_products)

-- weights alpha and weights beta, 96 at most
abbrev pub Weights : (alphas betas : ℕ) → Type 0
Weights alphas betas = alphas + betas ≤ 96

-- the weights of both kinds lie within the slice, and their values have room
abbrev pub WeightsRoom : List ℕ → (alpha alphas beta betas : ℕ) → List ℕ → Type 0
WeightsRoom weights alpha alphas beta betas transformed =
    Run weights alpha 64 alphas × Run weights beta 64 betas × Weights alphas betas × (192 * (alphas + betas) ≤ length transformed)

-- a slice holds the NTT form of the weights of both kinds, one after the other
abbrev pub NttWeights : List ℕ → List ℕ → (alpha alphas beta betas : ℕ) → Type 0
NttWeights transformed weights alpha alphas beta betas = NttForm transformed 0 weights alpha alphas × NttForm transformed (192 * alphas) weights beta betas

-- four to 96 weights of both kinds together, and eight elements or more
abbrev pub ntt_faster : (width alphas betas : ℕ) → Bool
ntt_faster width alphas betas = cond (ltb (alphas + betas) 4) false (cond (ltb 96 (alphas + betas)) false (leb 8 width))
