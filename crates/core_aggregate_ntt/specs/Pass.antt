-- φ and b'' in one pass over φ'': what the pass stands on, and what it stores.
use Rattle.std.specs.Prelude.{Bool, false, cond, List, ℕ, ◌+◌, ◌*◌, ◌≤◌, ◌<◌, ◌^◌, ltb, length}
use Rattle.math.specs.lists.Table.{table}
use Rattle.math.specs.lists.Part.{splice}
use Rattle.spec_leaves.specs.Rq.{Element}
use Rattle.ring_inner_product.specs.declared.Strided.{Strided}
use Rattle.ring_inner_product.specs.Run.{run, Within, further}
use Rattle.spec_protocol.specs.Parameters.{triangular}
use Rattle.spec_protocol.specs.Views.{element_at, cell}
use Rattle.spec_protocol.specs.Formulas.{◌⊕◌, ◌⊗◌, dot, flat, pairs}
use Rattle.spec_protocol.specs.Region.{Elements}
use Rattle.ntt_product.specs.NttForm.{most_products}
use Rattle.ntt_vectors.specs.NttForm.{AllValues}
use Rattle.layout_regions.specs.declared.Regions.{Regions}
use Rattle.core_aggregate.specs.Weighed.{rows_at, mixed_words, Aggregates, FormedRows, b''_words}
use Rattle.core_aggregate_ntt.specs.Terms.{ntt_mixed, ntt_faster}

-- element c of φ, of weights in NTT form and of the runs c elements further on
abbrev pub column_mixed : List ℕ → Strided → List ℕ → Strided → List ℕ → ℕ → Element
column_mixed job constraints scratch aggregated weights c = ntt_mixed job (further constraints c) scratch (further aggregated c) weights

-- element k of the totals and the inner product of n elements of φ''_k with the witness's, together
abbrev pub with_line : List ℕ → List ℕ → Strided → List ℕ → (s-at n : ℕ) → ℕ → Element
with_line totals scratch aggregated witness s-at n k = element_at totals 0 k ⊕ dot n (run scratch (aggregated.at + aggregated.step * k) 64) (run witness s-at 64)

-- totals with those of every k stored
abbrev pub with_lines : List ℕ → List ℕ → Strided → List ℕ → (s-at n : ℕ) → List ℕ
with_lines totals scratch aggregated witness s-at n = splice totals 0 (flat (table aggregated.count (with_line totals scratch aggregated witness s-at n)))

-- totals that have those of every k
abbrev pub HasLines : List ℕ → List ℕ → List ℕ → Strided → List ℕ → (s-at n : ℕ) → Type 0
HasLines after totals scratch aggregated witness s-at n = Elements after 0 aggregated.count (with_line totals scratch aggregated witness s-at n)

-- the words of `width` elements of φ
abbrev pub φ_mixed : List ℕ → Strided → List ℕ → Strided → List ℕ → ℕ → List ℕ
φ_mixed job constraints scratch aggregated weights width = flat (table width (column_mixed job constraints scratch aggregated weights))

-- `width` columns of constraints lie within the job, those of φ'' within the scratch and before φ, the witness's in the witness; the totals have room for every k
pub record PassRoom (job : List ℕ) (constraints : Strided) (scratch : List ℕ) (aggregated : Strided) (to : ℕ) (weights witness : List ℕ) (s-at width : ℕ) (totals : List ℕ) : Type 0 where
  pub in_job : (m : ℕ) → m < width → Within job (further constraints m)
  pub in_scratch : (m : ℕ) → m < width → Within scratch (further aggregated m)
  pub before : (m k : ℕ) → m < width → k < aggregated.count → aggregated.at + 64 * m + aggregated.step * k + 64 ≤ to
  pub near : (constraints.at + 64 * width ≤ 2 ^ 62) × (aggregated.at + 64 * width ≤ 2 ^ 62)
  pub room : to + 64 * width ≤ length scratch
  pub vectors : s-at + 64 * width ≤ length witness
  pub values : AllValues weights 0 (constraints.count + aggregated.count)
  pub few : constraints.count + aggregated.count ≤ most_products
  pub forms : aggregated.count ≤ 32
  pub sums : 64 * aggregated.count ≤ length totals

-- b'' of k: Σ a_ij·g_ij over all pairs, of triangle k and the triangle g, and element k of the totals, together
abbrev pub formed_with : List ℕ → (a g r : ℕ) → List ℕ → ℕ → Element
formed_with words a g r totals k =
    pairs r (λ i j. element_at words (a + 64 * (k * triangular r)) (cell i j) ⊗ element_at words g (cell i j)) ⊕ element_at totals 0 k

-- so many triangles and the triangle g end before a place, after which b'' has room; so many elements lie within the totals
abbrev pub FormsRoom : List ℕ → (a g r : ℕ) → List ℕ → (count to : ℕ) → Type 0
FormsRoom words a g r totals count to =
    (a + 64 * (count * triangular r) ≤ to) × (g + 64 * triangular r ≤ to) × (to + 64 * count ≤ length words) × (64 * count ≤ length totals) × (r ≤ 64)

-- the rows of φ'' in their region: r vectors of n elements for each of so many k
abbrev pub φ''_rows : Regions → (count r n : ℕ) → Strided
φ''_rows regions count r n = rows_at regions.phi2 (r * n) count

-- what `core_aggregate::aggregate` and `core_aggregate::b_double_prime` require, of r vectors of n elements
abbrev pub Passable : List ℕ → Strided → List ℕ → (alpha beta : ℕ) → List ℕ → Regions → (count r n : ℕ) → List ℕ → ℕ → Type 0
Passable job constraints weights alpha beta scratch regions count r n witness s =
    Aggregates job constraints weights alpha beta scratch (φ''_rows regions count r n) (r * n) regions.phi
    × FormedRows scratch regions.a2 regions.g regions.phi2 r n witness s count regions.b2

-- the scratch with φ stored
abbrev pub with_φ : List ℕ → Strided → List ℕ → (alpha beta : ℕ) → List ℕ → Regions → (count r n : ℕ) → List ℕ
with_φ job constraints weights alpha beta scratch regions count r n = splice scratch regions.phi (mixed_words job constraints weights alpha beta scratch (φ''_rows regions count r n) (r * n))

-- a scratch with b'' stored
abbrev pub with_b'' : List ℕ → Regions → (count r n : ℕ) → List ℕ → ℕ → List ℕ
with_b'' scratch regions count r n witness s = splice scratch regions.b2 (b''_words scratch regions.a2 regions.g regions.phi2 r n witness s count)

-- the scratch with φ and then b''
abbrev pub with_φ_and_b'' : List ℕ → Strided → List ℕ → (alpha beta : ℕ) → List ℕ → Regions → (count r n : ℕ) → List ℕ → ℕ → List ℕ
with_φ_and_b'' job constraints weights alpha beta scratch regions count r n witness s = with_b'' (with_φ job constraints weights alpha beta scratch regions count r n) regions count r n witness s

-- the scratch with φ, and with b'' where it is asked for
abbrev pub with_pass : (with-b : Bool) → List ℕ → Strided → List ℕ → (alpha beta : ℕ) → List ℕ → Regions → (count r n : ℕ) → List ℕ → ℕ → List ℕ
with_pass with-b job constraints weights alpha beta scratch regions count r n witness s =
    cond with-b (with_φ_and_b'' job constraints weights alpha beta scratch regions count r n witness s) (with_φ job constraints weights alpha beta scratch regions count r n)

-- weights in NTT form are chosen, of 32 k at most
abbrev pub one_pass_faster : (width alphas betas : ℕ) → Bool
one_pass_faster width alphas betas = cond (ltb 32 betas) false (ntt_faster width alphas betas)
