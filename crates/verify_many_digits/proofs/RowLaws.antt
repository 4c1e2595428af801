-- The rows of B, C and D with the digits in the windows, and the stores of their products.
use mathlib.Core.Path.{◌≡◌, refl, sym, ap, subst, ◌∙◌}
use mathlib.Core.Bool.{Bool, true, false, cond, true≢false}
use mathlib.Core.List.{List}
use Prim.Native.Nat.{ℕ, zero, suc, ◌+◌, ◌-◌, ◌*◌, ◌≤◌, ◌<◌}
use native.Mathlib.Nat.{mul-le-mul, mul-le-mul_right}
use native.Mathlib.Numerals.{add-one}
use native.Mathlib.Decide.{dec_lt}
use native.Mathlib.Omega.{arith}
use borrow.Author.Tests.{lt-ltb, le-ltb, leb-true}
use lib.Dec.{ltb, leb}
use lib.ListN.{length}
use lib.Seq.{take-length}
use Rattle.math.specs.lists.Part.{part, splice}
use Rattle.math.proofs.lists.Splice.{length-splice, part-splice-before, part-splice-after}
use Rattle.spec_leaves.specs.Ring.{words}
use Rattle.ring_rq.specs.declared.rq.Rq.{Rq}
use Rattle.ring_inner_product.specs.Run.{run}
use Rattle.relation_env_params.specs.declared.env_params.EnvironmentParameters.{EnvironmentParameters}
use Rattle.relation_env_params.specs.Parameters.{parameters_of}
use Rattle.relation_env_params.specs.SectionOne.{Within}
use Rattle.commitments_outer.proofs.Formula.{digits}
use Rattle.verifier_common.specs.Work.{Posed}
use Rattle.verifier_common.proofs.Sent.{transcript_at}
use Rattle.verifier_commitments.proofs.OuterLaws.{job_at}
use Rattle.ring_rq_matrix.proofs.Place.{rows-within}
use Rattle.spec_protocol.specs.Parameters.{Parameters, parameters, T, triangular}
use Rattle.spec_protocol.specs.Layout.{job_sections, scratch_need}
use Rattle.spec_protocol.specs.Laid.{Laid}
use Rattle.spec_protocol.specs.Formulas.{dot}
use Rattle.spec_protocol.specs.Many.{many_need, products_at, transcript_part, row_count, row_product, AllRowsDone}
use Rattle.core_workspace.specs.Holds.{Unchanged}
use Rattle.core_workspace.proofs.Unchanged.{unchanged_refl, unchanged_stored}
use Rattle.ntt_vectors.proofs.Laws.{ntt_form-same}
use Rattle.verify_many_windows.specs.declared.row.Held.{Held}
use Rattle.verify_many_windows.specs.Held.{AllHeld}
use Rattle.verify_many_windows.specs.Rowable.{Rowable}
use Rattle.verify_many_windows.specs.Digits.{digit_count, window_digits, Places}
use Rattle.verify_many_windows.proofs.WindowDigits.{length-window_digits, held_all}
use Rattle.verify_many_windows.proofs.WindowLaws.{posed}
use Rattle.verify_many_windows.proofs.DigitLaws.{stored_product}
use Rattle.verify_many_windows.proofs.Products.{b_is, c_is, d_is, t-held, g_held, h-held, b-row, c-row, d_row}
use Rattle.verify_many_windows.proofs.Progress.{Progress, progress_none, progress_all, progress_next}
use Rattle.verify_many_digits.specs.NttDigits.{NttFitting, AllNttDigits}
use Rattle.verify_many_digits.specs.Sums.{sum_at, RowSummed}
use Rattle.verify_many_digits.proofs.SumLaws.{ntt_form-part}
use Rattle.verify_many_digits.specs.declared.rows.Row.{Row}
use Rattle.verify_many_digits.specs.Rows.{shares, row_in, row_of, sum_for, stored_sums, SumsLong}

module _ (sums : List Rq) (passes : ℕ → Bool) (at need : ℕ) where
  -- none stored
  pub sums_none : (S : List ℕ) → S ≡ stored_sums sums passes at need 0 S
  unfolding stored_sums
  sums_none S = refl

  -- one more
  pub sums_next : (S : List ℕ) (m : ℕ) → sum_for (sum_at sums m) (passes m) (at + m * need) (stored_sums sums passes at need m S) ≡ stored_sums sums passes at need (m + 1) S
  unfolding stored_sums
  sums_next S m = ap (λ k. stored_sums sums passes at need k S) (sym (add-one m))

  -- a sum stored or not, the length is the same
  length-sum : (b : Bool) (sum : List ℕ) (place : ℕ) (S : List ℕ) → length (sum_for sum b place S) ≡ length S
  length-sum true sum place S = length-splice S place sum
  length-sum false sum place S = refl

  pub length-sums : (S : List ℕ) (m : ℕ) → length (stored_sums sums passes at need m S) ≡ length S
  unfolding stored_sums
  length-sums S zero = refl
  length-sums S (suc m) = length-sum (passes m) (sum_at sums m) (at + m * need) (stored_sums sums passes at need m S) ∙ length-sums S m

-- a triangle of at most 16 rows has few cells
pub few_cells : (P : Parameters) → P.r ≤ 16 → T P ≤ 136
few_cells P h =
    let more : P.r + 1 ≤ 17 = omega arith in
    omega (arith, mul-le-mul h more)

-- a window is short
pub need_small : (P : Parameters) → Within P → scratch_need P ≤ 4000000
need_small P w =
    let cells = few_cells P w.r.1 in
    let elements : P.r * P.n ≤ 16 * 64 = mul-le-mul w.r.1 w.n.1 in
    let both : P.r * P.n + T P ≤ 1160 = omega (arith, cells, elements) in
    let rows : P.L + 2 ≤ 34 = omega (arith, w.L.1) in
    let all : (P.L + 2) * (P.r * P.n + T P) ≤ 34 * 1160 = mul-le-mul rows both in
    omega (arith, all, mul-le-mul w.r.1 w.κ.1, w.n.1)

-- one more sum of 64 words
pub sums_long-next : (sums : List Rq) (m : ℕ) → length (sum_at sums m) ≡ 64 → SumsLong sums m → SumsLong sums (m + 1)
sums_long-next sums m e before i l = by (dec_lt i m)
  where
    by : Dec (i < m) → length (sum_at sums i) ≡ 64
    by (yes less) = before i less
    by (no more) = let k : m ≡ i = omega arith in subst (λ i. length (sum_at sums i) ≡ 64) k e

-- whether the rows are taken in NTT form, test by test
module _ (P : Parameters) (count : ℕ) where
  abbrev d₅ : Bool
  d₅ = leb (192 * digit_count P) (products_at P)

  abbrev d₄ : Bool
  d₄ = cond (ltb (digit_count P) 32) false d₅

  abbrev d₃ : Bool
  d₃ = cond (ltb P.κ₂ 3) false d₄

  abbrev d₂ : Bool
  d₂ = cond (ltb P.κ₁ 3) false d₃

  pub first : count < 2 → false ≡ shares P count
  first a = sym (ap (λ t. cond t false d₂) (lt-ltb count 2 a))

  module _ (a : 2 ≤ count) where
    one : shares P count ≡ d₂
    one = ap (λ t. cond t false d₂) (le-ltb count 2 a)

    pub second : P.κ₁ < 3 → false ≡ shares P count
    second b = sym (one ∙ ap (λ t. cond t false d₃) (lt-ltb P.κ₁ 3 b))

    module _ (b : 3 ≤ P.κ₁) where
      two : shares P count ≡ d₃
      two = one ∙ ap (λ t. cond t false d₃) (le-ltb P.κ₁ 3 b)

      pub third : P.κ₂ < 3 → false ≡ shares P count
      third c = sym (two ∙ ap (λ t. cond t false d₄) (lt-ltb P.κ₂ 3 c))

      module _ (c : 3 ≤ P.κ₂) where
        three : shares P count ≡ d₄
        three = two ∙ ap (λ t. cond t false d₄) (le-ltb P.κ₂ 3 c)

        pub fourth : digit_count P < 32 → false ≡ shares P count
        fourth d = sym (three ∙ ap (λ t. cond t false d₅) (lt-ltb (digit_count P) 32 d))

        pub fifth : 32 ≤ digit_count P → d₅ ≡ shares P count
        fifth d = sym (three ∙ ap (λ t. cond t false d₅) (le-ltb (digit_count P) 32 d))

  -- where they are, the digits have room
  pub roomy : shares P count ≡ true → NttFitting P
  roomy e = by (ltb count 2) (ltb P.κ₁ 3) (ltb P.κ₂ 3) (ltb (digit_count P) 32) e
    where
      by : (a b c d : Bool) → cond a false (cond b false (cond c false (cond d false d₅))) ≡ true → NttFitting P
      by true b c d e = absurd (true≢false (sym e))
      by false true c d e = absurd (true≢false (sym e))
      by false false true d e = absurd (true≢false (sym e))
      by false false false true e = absurd (true≢false (sym e))
      by false false false false e = leb-true (192 * digit_count P) (products_at P) e

-- a row of B, of C and of D
module _ (P : Parameters) (ρ n : ℕ) (e : n ≡ triangular P.r) where
  abbrev t : ℕ
  t = P.r * P.κ * P.t₁

  abbrev row_d : Row
  row_d = row_in 9 (ρ - (P.κ + P.κ₁ + P.κ₁)) (T P * P.t₁) (192 * (t + T P * P.t₂))

  abbrev row_cd : Row
  row_cd = cond (ltb ρ (P.κ + P.κ₁ + P.κ₁)) (row_in 8 (ρ - (P.κ + P.κ₁)) (T P * P.t₂) (192 * t)) row_d

  pub of_b : ρ < P.κ + P.κ₁ → row_in 7 (ρ - P.κ) t 0 ≡ row_of P ρ
  of_b h = sym (ap (λ b. cond b (row_in 7 (ρ - P.κ) t 0) row_cd) (lt-ltb ρ (P.κ + P.κ₁) h))

  pub of_c : P.κ + P.κ₁ ≤ ρ → ρ < P.κ + P.κ₁ + P.κ₁ → row_in 8 (ρ - (P.κ + P.κ₁)) (n * P.t₂) (192 * t) ≡ row_of P ρ
  of_c h l =
      ap (λ n. row_in 8 (ρ - (P.κ + P.κ₁)) (n * P.t₂) (192 * t)) e
      ∙ sym (ap (λ b. cond b (row_in 7 (ρ - P.κ) t 0) row_cd) (le-ltb ρ (P.κ + P.κ₁) h)
      ∙ ap (λ b. cond b (row_in 8 (ρ - (P.κ + P.κ₁)) (T P * P.t₂) (192 * t)) row_d) (lt-ltb ρ (P.κ + P.κ₁ + P.κ₁) l))

  pub of_d : P.κ + P.κ₁ + P.κ₁ ≤ ρ → row_in 9 (ρ - (P.κ + P.κ₁ + P.κ₁)) (n * P.t₁) (192 * (t + n * P.t₂)) ≡ row_of P ρ
  of_d h =
      ap (λ n. row_in 9 (ρ - (P.κ + P.κ₁ + P.κ₁)) (n * P.t₁) (192 * (t + n * P.t₂))) e
      ∙ sym (ap (λ b. cond b (row_in 7 (ρ - P.κ) t 0) row_cd) (le-ltb ρ (P.κ + P.κ₁) (omega arith))
      ∙ ap (λ b. cond b (row_in 8 (ρ - (P.κ + P.κ₁)) (T P * P.t₂) (192 * t)) row_d) (le-ltb ρ (P.κ + P.κ₁ + P.κ₁) h))

-- what is known of row ρ, one of those after A's
pub record RowIs (J : List ℕ) (params : EnvironmentParameters) (ρ : ℕ) (R : Row) : Type 0 where
  pub off : ℕ
  pub place : R.digits ≡ 192 * off
  pub within : off + R.width ≤ digit_count (parameters_of params)
  pub known : R.section < 10
  pub inside : job_at (parameters_of params) R.section + 64 * (R.k * R.width) + 64 * R.width ≤ length J
  pub product : (X : List ℕ) → Posed J X params
      → dot R.width (run J (job_at (parameters_of params) R.section + 64 * (R.k * R.width)) 64) (run (window_digits (parameters J) X) (64 * off) 64) ≡ row_product J X ρ

module _ (J : List ℕ) (params : EnvironmentParameters) (same : parameters_of params ≡ parameters J) (laid : Laid J 31 (job_sections (parameters J))) where
  abbrev Q : Parameters
  Q = parameters_of params

  abbrev a : ℕ
  a = Q.r * Q.κ * Q.t₁

  abbrev c : ℕ
  c = T Q * Q.t₂

  abbrev held_at : Held
  held_at = record { t = 0; g = 64 * a; h = 64 * (a + c) }

  placed : Places Q 0 held_at
  placed = record { t = refl; g = omega arith; h = omega arith }

  -- a transcript's digits by themselves
  alone : (X : List ℕ) → AllHeld J X (window_digits (parameters J) X) held_at
  alone X =
      held_all J X (window_digits (parameters J) X) 0 held_at (subst (λ P. Places P 0 held_at) same placed)
      (omega (arith, length-window_digits (parameters J) X)) (take-length (window_digits (parameters J) X))

  -- the matrices lie within the job
  B-room : job_at Q 7 + 64 * (Q.κ₁ * a) ≤ length J
  B-room = subst (λ (P : Parameters). job_at P 7 + 64 * (P.κ₁ * (P.r * P.κ * P.t₁)) ≤ length J) (sym same) (laid.inside 7 (omega arith))

  C-room : job_at Q 8 + 64 * (Q.κ₁ * c) ≤ length J
  C-room = subst (λ (P : Parameters). job_at P 8 + 64 * (P.κ₁ * (T P * P.t₂)) ≤ length J) (sym same) (laid.inside 8 (omega arith))

  D-room : job_at Q 9 + 64 * (Q.κ₂ * (T Q * Q.t₁)) ≤ length J
  D-room = subst (λ (P : Parameters). job_at P 9 + 64 * (P.κ₂ * (T P * P.t₁)) ≤ length J) (sym same) (laid.inside 9 (omega arith))

  module _ (ρ : ℕ) (h : Q.κ ≤ ρ) (l : ρ < row_count Q) where
    is_b : ρ < Q.κ + Q.κ₁ → RowIs J params ρ (row_in 7 (ρ - Q.κ) a 0)
    is_b b = record {
      off = 0;
      place = omega arith;
      within = omega arith;
      known = omega arith;
      inside = omega (arith, B-room, rows-within (ρ - Q.κ) Q.κ₁ a (omega arith));
      product = λ X s.
          stored_product (window_digits (parameters J) X) X 0 Q.b (digits (transcript_at Q 5) (Q.r * Q.κ) Q.t₁) (t-held J X params s (window_digits (parameters J) X) held_at
          (alone X) (transcript_at Q 5) refl).held
          J (job_at Q 7) (job_at Q 7 + 64 * ((ρ - Q.κ) * a)) (ρ - Q.κ) refl
          ∙ b_is J X params s (job_at Q 7) (transcript_at Q 5) (ρ - Q.κ) refl refl
          ∙ b-row J X params s ρ h b;
    }

    is_c : Q.κ + Q.κ₁ ≤ ρ → ρ < Q.κ + Q.κ₁ + Q.κ₁ → RowIs J params ρ (row_in 8 (ρ - (Q.κ + Q.κ₁)) c (192 * a))
    is_c b b' = record {
      off = a;
      place = refl;
      within = omega arith;
      known = omega arith;
      inside = omega (arith, C-room, rows-within (ρ - (Q.κ + Q.κ₁)) Q.κ₁ c (omega arith));
      product = λ X s.
          stored_product (window_digits (parameters J) X) X (64 * a) Q.b (digits (transcript_at Q 6) (T Q) Q.t₂)
          (g_held J X params s (window_digits (parameters J) X) held_at (alone X) (transcript_at Q 6) (T Q) refl refl).held J (job_at Q 8)
          (job_at Q 8 + 64 * ((ρ - (Q.κ + Q.κ₁)) * c)) (ρ - (Q.κ + Q.κ₁)) refl
          ∙ c_is J X params s (job_at Q 8) (transcript_at Q 6) (T Q) (ρ - (Q.κ + Q.κ₁)) refl refl refl
          ∙ c-row J X params s ρ b b';
    }

    is_d : Q.κ + Q.κ₁ + Q.κ₁ ≤ ρ → RowIs J params ρ (row_in 9 (ρ - (Q.κ + Q.κ₁ + Q.κ₁)) (T Q * Q.t₁) (192 * (a + c)))
    is_d b = record {
      off = a + c;
      place = refl;
      within = omega arith;
      known = omega arith;
      inside = omega (arith, D-room, rows-within (ρ - (Q.κ + Q.κ₁ + Q.κ₁)) Q.κ₂ (T Q * Q.t₁) (omega arith));
      product = λ X s.
          stored_product (window_digits (parameters J) X) X (64 * (a + c)) Q.b (digits (transcript_at Q 7) (T Q) Q.t₁)
          (h-held J X params s (window_digits (parameters J) X) held_at (alone X) (transcript_at Q 7) (T Q) refl refl).held J (job_at Q 9)
          (job_at Q 9 + 64 * ((ρ - (Q.κ + Q.κ₁ + Q.κ₁)) * (T Q * Q.t₁))) (ρ - (Q.κ + Q.κ₁ + Q.κ₁)) refl
          ∙ d_is J X params s (job_at Q 9) (transcript_at Q 7) (T Q) (ρ - (Q.κ + Q.κ₁ + Q.κ₁)) refl refl refl
          ∙ d_row J X params s ρ b;
    }

    pub row_is : RowIs J params ρ (row_of Q ρ)
    row_is = by (dec_lt ρ (Q.κ + Q.κ₁)) (dec_lt ρ (Q.κ + Q.κ₁ + Q.κ₁))
      where
        by : Dec (ρ < Q.κ + Q.κ₁) → Dec (ρ < Q.κ + Q.κ₁ + Q.κ₁) → RowIs J params ρ (row_of Q ρ)
        by (yes b) _ = subst (λ R. RowIs J params ρ R) (of_b Q ρ (T Q) refl b) (is_b b)
        by (no b) (yes b') = subst (λ R. RowIs J params ρ R) (of_c Q ρ (T Q) refl (omega arith) b') (is_c (omega arith) b')
        by (no b) (no b') = subst (λ R. RowIs J params ρ R) (of_d Q ρ (T Q) refl (omega arith)) (is_d (omega arith))

    -- the sums of the row are its products
    pub sums_are : (T₀ : List ℕ) (count : ℕ) (passes : ℕ → Bool) (S : List ℕ) (scratch : ℕ) → Rowable J T₀ count passes scratch params → (R : Row) → RowIs J params ρ R → (row : ℕ)
        → row ≡ job_at Q R.section + 64 * (R.k * R.width) → (sums : List Rq) → RowSummed J row R.width S count passes R.digits (scratch_need (parameters J)) sums
        → AllNttDigits J count passes T₀ S → (m : ℕ) → m < count → passes m ≡ true → sum_at sums m ≡ words (row_product J (transcript_part (parameters J) count T₀ m) ρ)
    sums_are T₀ count passes S scratch r R is row e sums summed all m m-h t =
        let X = transcript_part (parameters J) count T₀ m in
        let D = window_digits (parameters J) X in
        summed m m-h t D (64 * is.off)
        (ntt_form-part S (m * scratch_need (parameters J)) D 0 is.off R.width (digit_count (parameters J)) (R.digits + m * scratch_need (parameters J)) (64 * is.off) (all m m-h t)
        (subst (λ P. is.off + R.width ≤ digit_count P) same is.within) (omega (arith, is.place)) (omega arith))
        ∙ ap (λ a. words (dot R.width (run J a 64) (run D (64 * is.off) 64))) e
        ∙ ap words (is.product X (posed J T₀ count passes scratch params r m m-h t))

-- the sums of a row are the row's products
module _ (J : List ℕ) (count : ℕ) (passes : ℕ → Bool) (ρ : ℕ) (sums : List Rq) (few : ρ < 64) (S : List ℕ) (room : many_need (parameters J) count ≤ length S) where
  abbrev need : ℕ
  need = scratch_need (parameters J)

  abbrev at : ℕ
  at = need - 4096 + 64 * ρ

  abbrev after : ℕ → List ℕ
  after m = stored_sums sums passes at need m S

  -- a store leaves the start of every window and what lies beyond the windows
  module _ (long : SumsLong sums count) where
    unchanged_after : (m : ℕ) → m ≤ count → Unchanged (many_need (parameters J) count) S (after m)
    unchanged_after zero h = subst (λ s. Unchanged (many_need (parameters J) count) S s) (sums_none sums passes at need S) (unchanged_refl (many_need (parameters J) count) S)
    unchanged_after (suc m) h =
        subst (λ k. Unchanged (many_need (parameters J) count) S (after k)) (add-one m)
        (subst (λ s. Unchanged (many_need (parameters J) count) S s) (sums_next sums passes at need S m) (by (passes m) (unchanged_after m (omega arith))))
      where
        by : (b : Bool) → Unchanged (many_need (parameters J) count) S (after m) → Unchanged (many_need (parameters J) count) S (sum_for (sum_at sums m) b (at + m * need) (after m))
        by true before =
            unchanged_stored (many_need (parameters J) count) S (after m) (splice (after m) (at + m * need) (sum_at sums m)) (at + m * need) (sum_at sums m) before refl
            (omega (arith, few, long m (omega arith), rows-within m count need (omega arith)))
        by false before = before

    pub unchanged_all : Unchanged (many_need (parameters J) count) S (after count)
    unchanged_all = unchanged_after count (omega arith)

    starts_stay : (m : ℕ) → m ≤ count → (i o k : ℕ) → o + k ≤ products_at (parameters J) → part (after m) (i * need + o) k ≡ part S (i * need + o) k
    starts_stay zero h i o k l = ap (λ s. part s (i * need + o) k) (sym (sums_none sums passes at need S))
    starts_stay (suc m) h i o k l =
        ap (λ s. part s (i * need + o) k) (ap after (sym (add-one m)) ∙ sym (sums_next sums passes at need S m)) ∙ by (passes m) ∙ starts_stay m (omega arith) i o k l
      where
        by : (b : Bool) → part (sum_for (sum_at sums m) b (at + m * need) (after m)) (i * need + o) k ≡ part (after m) (i * need + o) k
        by true = go (dec_lt m i)
          where
            go : Dec (m < i) → part (splice (after m) (at + m * need) (sum_at sums m)) (i * need + o) k ≡ part (after m) (i * need + o) k
            go (yes less) = part-splice-after 0 (after m) (at + m * need) (sum_at sums m) (i * need + o) k (omega (arith, few, long m (omega arith), rows-within m i need less))
            go (no more) =
                part-splice-before 0 (after m) (at + m * need) (sum_at sums m) (i * need + o) k (omega (arith, l, mul-le-mul_right {m = i} {n = m} need (omega arith)))
        by false = refl

    -- the digits stay
    pub digits_stay : (T₀ : List ℕ) → NttFitting (parameters J) → AllNttDigits J count passes T₀ S → AllNttDigits J count passes T₀ (after count)
    digits_stay T₀ fits all m h t =
        ntt_form-same S (m * need) (window_digits (parameters J) (transcript_part (parameters J) count T₀ m)) 0 (after count) (digit_count (parameters J)) (length-sums sums passes at need S count)
        (λ o k l. starts_stay count (omega arith) m o k (omega (arith, l, fits))) (all m h t)

  module _ (T : List ℕ) (is : (m : ℕ) → m < count → passes m ≡ true → sum_at sums m ≡ words (row_product J (transcript_part (parameters J) count T m) ρ)) where
    -- what is stored of transcript m
    stored_is : (m : ℕ) → m < count → (b : Bool) → b ≡ passes m
        → sum_for (sum_at sums m) b (at + m * need) (after m) ≡ cond b (splice (after m) (at + m * need) (words (row_product J (transcript_part (parameters J) count T m) ρ))) (after m)
    stored_is m h true t = ap (splice (after m) (at + m * need)) (is m h (sym t))
    stored_is m h false t = refl

    made : (m : ℕ) → m ≤ count → AllRowsDone J count passes T S ρ → Progress J T count passes ρ (after m) m × Unchanged (many_need (parameters J) count) S (after m)
    made zero h all =
        subst (λ s. Progress J T count passes ρ s 0 × Unchanged (many_need (parameters J) count) S s) (sums_none sums passes at need S) (
          progress_none J T count passes ρ S all,
          unchanged_refl (many_need (parameters J) count) S,
        )
    made (suc m) h all =
        let less : m < count = omega arith in
        let place : at + m * need ≡ m * need + (need - 4096) + 64 * ρ = omega arith in
        let long : many_need (parameters J) count ≤ length (after m) = subst (λ n. many_need (parameters J) count ≤ n) (sym (length-sums sums passes at need S m)) room in
        subst (λ k. Progress J T count passes ρ (after k) k × Unchanged (many_need (parameters J) count) S (after k)) (add-one m)
        (progress_next J T count passes ρ S (after m) (after (m + 1)) m (at + m * need) few long less place (passes m) refl (sym (sums_next sums passes at need S m) ∙ stored_is m less
        (passes m) refl)
        (made m (omega arith) all))

    -- row ρ is done for every transcript that passes
    pub row_done : AllRowsDone J count passes T S ρ → AllRowsDone J count passes T (after count) (ρ + 1)
    row_done all = progress_all J T count passes ρ (after count) count refl (made count (omega arith) all).0
