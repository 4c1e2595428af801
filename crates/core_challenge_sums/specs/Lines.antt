-- Σ⟨φ_i,z⟩·c_i, and what it is of each constraint: the vectors are summed with the challenges first.
use Rattle.std.specs.Prelude.{List, ℕ, ◌+◌, ◌*◌, ◌≤◌, length, replicate}
use Rattle.math.specs.lists.Table.{table}
use Rattle.spec_leaves.specs.Rq.{Element}
use Rattle.spec_leaves.specs.Ring.{element}
use Rattle.spec_protocol.specs.Formulas.{◌⊗◌, sum, dot, flat}
use Rattle.ring_inner_product.specs.declared.Strided.{Strided}
use Rattle.ring_inner_product.specs.Run.{Run, run, further}
use Rattle.ring_challenge_products.specs.Powers.{AllSparse, Places, powers_product}
use Rattle.ntt_vectors.specs.Sums.{inverse_from}
use Rattle.core_aggregate.specs.Weighed.{mixed, Rows}
use Rattle.core_aggregate_ntt.specs.Terms.{terms_added}

-- element m of Σ c_i·x_i, of the powers of r challenges c_i and of r vectors x_i of n elements that stand one after the other from a place on
unfoldable pub combined : List ℕ → (at r n : ℕ) → List ℕ → ℕ → Element
combined words at r n powers m = element (powers_product powers words (at + 64 * m) (64 * n) r)

-- the words of its n elements
abbrev pub combined_words : List ℕ → (at r n : ℕ) → List ℕ → List ℕ
combined_words words at r n powers = flat (table n (combined words at r n powers))

-- ⟨z, Σ c_i·x_i⟩, of z in NTT form
unfoldable pub combined_line : List ℕ → (at r n : ℕ) → List ℕ → List ℕ → Element
combined_line words at r n powers z = element (inverse_from (terms_added (replicate 192 0) z 0 (combined_words words at r n powers) 0 64 n) 0)

-- Σ_k w_k·⟨z, Σ c_i·x_k,i⟩, of weights w_k one after the other and constraints k a step apart
abbrev pub weighed_lines : List ℕ → Strided → (r n : ℕ) → List ℕ → List ℕ → List ℕ → ℕ → Element
weighed_lines words x r n powers z weights weights-at = sum x.count (λ k. combined_line words (x.at + x.step * k) r n powers z ⊗ run weights weights-at 64 k)

-- r vectors of n elements lie within a slice, and the powers of r challenges in another
abbrev pub Combinable : List ℕ → (at r n : ℕ) → List ℕ → Type 0
Combinable words at r n powers = (at + 64 * (r * n) ≤ length words) × Places powers r × (r ≤ 64) × (n ≤ 64)

-- those of so many constraints, and their weights
abbrev pub Weighable : List ℕ → Strided → (r n : ℕ) → List ℕ → List ℕ → ℕ → Type 0
Weighable words x r n powers weights weights-at = Rows words x (r * n) × Places powers r × (r ≤ 64) × (n ≤ 64) × Run weights weights-at 64 x.count

-- "Σ⟨φ_i,z⟩·c_i", where alpha weighs the job's constraints and beta the aggregated ones into φ
abbrev pub φ_lines : List ℕ → Strided → List ℕ → (alpha beta : ℕ) → List ℕ → Strided → (r n c-at : ℕ) → List ℕ → ℕ → Element
φ_lines job constraints weights alpha beta scratch aggregated r n c-at transcript z_at =
    sum r (λ i. dot n (λ m. mixed job (further constraints (i * n + m)) weights alpha beta scratch (further aggregated (i * n + m))) (run transcript z_at 64) ⊗ run scratch c-at 64 i)

-- the vectors of both kinds of constraints, their weights, r challenges and z lie within the slices
pub record LinesRoom (job : List ℕ) (constraints : Strided) (weights : List ℕ) (alpha beta : ℕ) (scratch : List ℕ) (aggregated : Strided) (r n c-at : ℕ) (transcript : List ℕ) (z_at : ℕ) : Type 0
  where
    pub in_job : Rows job constraints (r * n) × Run weights alpha 64 constraints.count
    pub in_scratch : Rows scratch aggregated (r * n) × Run weights beta 64 aggregated.count
    pub challenges : (c-at + 64 * r ≤ length scratch) × AllSparse scratch c-at r
    pub vector : z_at + 64 * n ≤ length transcript
    pub few : r ≤ 16
    pub narrow : n ≤ 64
