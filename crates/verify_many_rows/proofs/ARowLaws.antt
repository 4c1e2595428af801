-- Values of z at the start of a window while values and products are stored, and the products of rows in NTT form.
use mathlib.Core.Path.{◌≡◌, sym, ap, subst, ◌∙◌}
use mathlib.Core.Bool.{Bool, true, false, true≢false}
use mathlib.Core.List.{List, []}
use Prim.Native.Nat.{ℕ, ◌+◌, ◌-◌, ◌*◌, ◌≤◌, ◌<◌}
use native.Mathlib.Nat.{mul-le-mul, mul-le-mul_right}
use native.Mathlib.Decide.{dec_lt}
use native.Mathlib.Omega.{arith}
use lib.ListN.{length}
use Rattle.math.specs.lists.Part.{part, splice}
use Rattle.math.proofs.lists.Splice.{length-splice, part-splice-before, part-splice-after}
use Rattle.spec_leaves.specs.Ring.{words}
use Rattle.spec_protocol.specs.Parameters.{Parameters, parameters, T}
use Rattle.spec_protocol.specs.Layout.{start, job_sections, scratch_need}
use Rattle.spec_protocol.specs.Formulas.{dot}
use Rattle.spec_protocol.specs.Many.{many_need, transcript_part, row_product, products_at, AllRowsDone}
use Rattle.spec_protocol.proofs.Flat.{length-words}
use Rattle.ring_inner_product.specs.Run.{run}
use Rattle.ring_rq_matrix.proofs.Place.{rows-within, run-vector}
use Rattle.spec_protocol.specs.Laid.{Laid}
use Rattle.relation_env_params.specs.declared.env_params.EnvironmentParameters.{EnvironmentParameters}
use Rattle.relation_env_params.specs.Parameters.{parameters_of}
use Rattle.relation_env_params.specs.SectionOne.{Within}
use Rattle.verifier_commitments.proofs.OuterLaws.{job_at}
use Rattle.core_workspace.specs.Holds.{Unchanged}
use Rattle.core_workspace.proofs.Unchanged.{unchanged_refl, unchanged_stored}
use Rattle.ntt_vectors.specs.NttForm.{NttForm, AllValues, ntt_words, ntt_dot}
use Rattle.ntt_vectors.proofs.Laws.{values_same, ntt_form-same, ntt_dot_is}
use Rattle.verify_many_windows.proofs.Products.{row_of-a}
use Rattle.verify_many_windows.specs.Product.{stored_for}
use Rattle.verify_many_windows.specs.Rowable.{Rowable}
use Rattle.verify_many_windows.proofs.Progress.{Progress, progress_none, progress_all, progress_next}
use Rattle.verify_many_rows.specs.NttForm.{z_at, NttFormZ, AllZ, product_for, Valued, RowMade}

-- the values of z have room before the products
pub z_fits : (P : Parameters) → Within P → 192 * P.n ≤ products_at P
z_fits P w =
    let wide : 3 ≤ P.L + 2 = omega (arith, w.L.0) in
    let row : 1 * P.n ≤ P.r * P.n = mul-le-mul_right P.n w.r.0 in
    let one : P.n ≤ P.r * P.n + T P = omega arith in
    let all : 3 * P.n ≤ (P.L + 2) * (P.r * P.n + T P) = mul-le-mul wide one in
    omega (arith, all)

-- the product of a row of A in NTT form with z in NTT form
pub product_is : (J X values S : List ℕ) (start ρ row_at : ℕ) → row_at ≡ job_at (parameters J) 6 + 64 * (ρ * (parameters J).n) → (parameters J).n ≤ 64 → ρ < (parameters J).κ
    → NttForm values 0 J row_at (parameters J).n → NttForm S start X (z_at (parameters J)) (parameters J).n → ntt_dot values 0 S start (parameters J).n ≡ row_product J X ρ
product_is J X values S start ρ row_at e few h kv kz =
    let P = parameters J in
    ntt_dot_is values 0 J row_at S start X (z_at P) P.n few kv kz
    ∙ ap (λ f. dot P.n f (run X (z_at P) 64)) (run-vector J (job_at P 6) P.n ρ row_at e)
    ∙ sym (row_of-a J X ρ h)

-- stored values, by the parameters and the transcript
pub z-stored : (P : Parameters) (X Y S S' : List ℕ) (at start : ℕ) → Y ≡ X → at ≡ z_at P → S' ≡ splice S start (ntt_words Y at P.n) → NttForm S' start Y at P.n
    → (S' ≡ splice S start (ntt_words X (z_at P) P.n)) × NttForm S' start X (z_at P) P.n
z-stored P X Y S S' at start lent place e k =
    subst (λ X. (S' ≡ splice S start (ntt_words X (z_at P) P.n)) × NttForm S' start X (z_at P) P.n) lent
    (subst (λ a. (S' ≡ splice S start (ntt_words Y a P.n)) × NttForm S' start Y a P.n) place (e, k))

-- row k of A ends within the job
pub row-end : (J : List ℕ) (params : EnvironmentParameters) (at k : ℕ) → parameters_of params ≡ parameters J → Laid J 31 (job_sections (parameters J)) → at ≡ job_at (parameters_of params) 6
    → k < params.kappa
    → at + 64 * (k * params.rank) + 64 * params.rank ≤ length J
row-end J params at k same laid e h =
    let room : at + 64 * (params.kappa * params.rank) ≤ length J =
    subst (λ x. x + 64 * (params.kappa * params.rank) ≤ length J) (sym e)
    (subst (λ (P : Parameters). 31 + start (job_sections P) 6 + 64 * (P.κ * P.n) ≤ length J) (sym same) (laid.inside 6 (omega arith))) in
    omega (arith, room, rows-within k params.kappa params.rank h)

-- what the rows stand on, of no transcript
pub bare : (J : List ℕ) (count : ℕ) (passes : ℕ → Bool) (S : List ℕ) (scratch : ℕ) (params : EnvironmentParameters) → Valued J count passes S scratch params
    → Rowable J [] count (λ m. false) scratch params
bare J count passes S scratch params v = record { same = v.same; sound = v.sound; job = v.job; few = v.few; room = v.room; laid = λ m h t. absurd (true≢false (sym t)) }

-- a product stored leaves the values at the start of every window
module _ (P : Parameters) (S S' new : List ℕ) (m ρ place : ℕ) (few : ρ < 64) (at : place ≡ m * scratch_need P + (scratch_need P - 4096) + 64 * ρ) (size : length new ≡ 64)
    (fits : 192 * P.n ≤ products_at P)
    (e : S' ≡ splice S place new) where
  same_length : length S' ≡ length S
  same_length = ap length e ∙ length-splice S place new

  starts_stay : (i o k : ℕ) → o + k ≤ 192 * P.n → part S' (i * scratch_need P + o) k ≡ part S (i * scratch_need P + o) k
  starts_stay i o k l = ap (λ s. part s (i * scratch_need P + o) k) e ∙ by (dec_lt m i)
    where
      by : Dec (m < i) → part (splice S place new) (i * scratch_need P + o) k ≡ part S (i * scratch_need P + o) k
      by (yes less) = part-splice-after 0 S place new (i * scratch_need P + o) k (omega (arith, at, size, few, rows-within m i (scratch_need P) less))
      by (no more) = part-splice-before 0 S place new (i * scratch_need P + o) k (omega (arith, at, fits, mul-le-mul_right {m = i} {n = m} (scratch_need P) (omega arith)))

  z_stays : (i : ℕ) (X : List ℕ) (from : ℕ) → NttForm S (i * scratch_need P) X from P.n → NttForm S' (i * scratch_need P) X from P.n
  z_stays i X from = ntt_form-same S (i * scratch_need P) X from S' P.n same_length (starts_stay i)

  values_stay : (i : ℕ) → AllValues S (i * scratch_need P) P.n → AllValues S' (i * scratch_need P) P.n
  values_stay i = values_same S S' (i * scratch_need P) P.n same_length (starts_stay i)

-- one row while it is taken for one transcript after another
module _ (J : List ℕ) (count : ℕ) (passes : ℕ → Bool) (ρ : ℕ) (S₀ : List ℕ) where
  -- it is made for the transcripts before m that pass
  pub record Making (S : List ℕ) (m : ℕ) : Type 0 where
    pub made : (T₀ : List ℕ) → AllZ J count passes T₀ S₀ → AllRowsDone J count passes T₀ S₀ ρ → AllZ J count passes T₀ S × Progress J T₀ count passes ρ S m
    pub values : (i : ℕ) → i < count → passes i ≡ true → AllValues S (i * scratch_need (parameters J)) (parameters J).n
    pub unchanged : Unchanged (many_need (parameters J) count) S₀ S

  pub making_none : ((i : ℕ) → i < count → passes i ≡ true → AllValues S₀ (i * scratch_need (parameters J)) (parameters J).n) → Making S₀ 0
  making_none v = record { made = λ T₀ z d. (z, progress_none J T₀ count passes ρ S₀ d); values = v; unchanged = unchanged_refl (many_need (parameters J) count) S₀ }

  pub making_all : (S : List ℕ) (m : ℕ) → m ≡ count → Making S m → RowMade J count passes ρ S₀ S
  making_all S m e k T₀ z d = let both = k.made T₀ z d in (both.0, progress_all J T₀ count passes ρ S m e both.1)

  module _ (S S' values : List ℕ) (m start place row_at : ℕ) (within : Within (parameters J)) (few : ρ < 64) (room : many_need (parameters J) count ≤ length S) (h : m < count)
      (start_is : start ≡ m * scratch_need (parameters J)) (place_is : place ≡ m * scratch_need (parameters J) + (scratch_need (parameters J) - 4096) + 64 * ρ)
      (row_is : row_at ≡ job_at (parameters J) 6 + 64 * (ρ * (parameters J).n)) (inside : ρ < (parameters J).κ) (n : ℕ) (width : n ≡ (parameters J).n)
      (row-unchanged : NttForm values 0 J row_at n) where
    abbrev P : Parameters
    P = parameters J

    -- the product is the row's
    stored_is : (T₀ : List ℕ) (pass : Bool) → pass ≡ passes m → S' ≡ product_for values P.n start place pass S → AllZ J count passes T₀ S → S' ≡ stored_for J T₀ count ρ m place pass S
    stored_is T₀ true t e z =
        e
        ∙ ap (λ x. splice S place (words x))
        (product_is J (transcript_part P count T₀ m) values S start ρ row_at row_is within.n.1 inside (subst (λ k. NttForm values 0 J row_at k) width row-unchanged)
        (subst (λ a. NttFormZ P T₀ count m a S) (sym start_is) (z m h (sym t))))
    stored_is T₀ false t e z = e

    z-next : (T₀ : List ℕ) (pass : Bool) → S' ≡ product_for values P.n start place pass S → AllZ J count passes T₀ S → AllZ J count passes T₀ S'
    z-next T₀ true e z i c u =
        z_stays P S S' (words (ntt_dot values 0 S start P.n)) m ρ place few place_is (length-words (ntt_dot values 0 S start P.n)) (z_fits P within) e i
        (transcript_part P count T₀ i) (z_at P) (z i c u)
    z-next T₀ false e z i c u = subst (λ s. NttFormZ (parameters J) T₀ count i (i * scratch_need P) s) (sym e) (z i c u)

    values-next : (pass : Bool) → S' ≡ product_for values P.n start place pass S → (i : ℕ) → AllValues S (i * scratch_need P) P.n → AllValues S' (i * scratch_need P) P.n
    values-next true e i v =
        values_stay P S S' (words (ntt_dot values 0 S start P.n)) m ρ place few place_is (length-words (ntt_dot values 0 S start P.n)) (z_fits P within) e i v
    values-next false e i v = subst (λ s. AllValues s (i * scratch_need P) P.n) (sym e) v

    unchanged_row : (pass : Bool) → S' ≡ product_for values P.n start place pass S → Unchanged (many_need P count) S₀ S → Unchanged (many_need P count) S₀ S'
    unchanged_row true e k =
        let new = words (ntt_dot values 0 S start P.n) in
        unchanged_stored (many_need P count) S₀ S S' place new k e (omega (arith, place_is, few, length-words (ntt_dot values 0 S start P.n), rows-within m count (scratch_need P) h))
    unchanged_row false e k = subst (λ s. Unchanged (many_need P count) S₀ s) (sym e) k

    -- the row made for transcript m too, where it passes
    pub making_next : (pass : Bool) → pass ≡ passes m → S' ≡ product_for values n start place pass S → Making S m → Making S' (m + 1)
    making_next pass t stored k =
        let e : S' ≡ product_for values P.n start place pass S = stored ∙ ap (λ k. product_for values k start place pass S) width in
        record {
          made = λ T₀ z d.
              let both = k.made T₀ z d in
              (z-next T₀ pass e both.0, (progress_next J T₀ count passes ρ S₀ S S' m place few room h place_is pass t (stored_is T₀ pass t e both.0) (both.1, k.unchanged)).0);
          values = λ i c u. values-next pass e i (k.values i c u);
          unchanged = unchanged_row pass e k.unchanged;
        }
