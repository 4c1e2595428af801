-- The digits at the start of a window: stored, read, and kept while others are stored.
use mathlib.Core.Path.{◌≡◌, refl, sym, ap, ap₂, subst, ◌∙◌}
use mathlib.Core.Bool.{Bool, true, false}
use mathlib.Core.List.{List, ◌++◌, append_assoc}
use Prim.Native.Nat.{ℕ, ◌+◌, ◌-◌, ◌*◌, ◌≤◌, ◌<◌}
use native.Mathlib.Nat.{mul-le-mul_right}
use native.Mathlib.Decide.{dec_lt}
use native.Mathlib.Omega.{arith}
use lib.ListN.{length, length-append}
use Rattle.math.specs.lists.Table.{table}
use Rattle.math.specs.lists.Part.{part, splice}
use Rattle.math.proofs.lists.Table.{length-table}
use Rattle.math.proofs.lists.Part.{length_flat_map}
use Rattle.math.proofs.lists.Splice.{length-splice, splice-append, part-splice-before, part-splice-after}
use Rattle.spec_leaves.specs.Rq.{Element}
use Rattle.spec_protocol.specs.Parameters.{Parameters, parameters, T, triangular}
use Rattle.spec_protocol.specs.Layout.{scratch_need}
use Rattle.spec_protocol.specs.Views.{message}
use Rattle.spec_protocol.specs.Formulas.{flat, rows, triangle, digit_element, digits_of}
use Rattle.spec_protocol.proofs.Flat.{length-flat, length-rows, length-triangle}
use Rattle.spec_protocol.specs.Many.{many_need, transcript_part, products_at, AllRowsDone}
use Rattle.ring_rq_matrix.proofs.Place.{rows-within}
use Rattle.commitments_outer.specs.Cells.{digits_at}
use Rattle.commitments_outer.proofs.Formula.{digits, vectors_cells, triangle_cells}
use Rattle.core_workspace.specs.Holds.{Holds, Unchanged}
use Rattle.core_workspace.proofs.Holds.{holds-stored, holds-before, holds-first, holds-second}
use Rattle.core_workspace.proofs.Unchanged.{unchanged_stored}
use Rattle.verifier_common.proofs.Sent.{transcript_at}
use Rattle.verify_many_windows.specs.declared.row.Held.{Held}
use Rattle.verify_many_windows.specs.Held.{digits_t, digits_g, digits_h, AllHeld}
use Rattle.verify_many_windows.specs.Digits.{digit_count, Fitting, window_digits, digits_for, Places}
use Rattle.verify_many_windows.proofs.WindowLaws.{done_of, of_done}

-- the words of the digits of so many cells
length_digits : (b parts : ℕ) (es : List Element) (n : ℕ) → length es ≡ n → length (flat (digits_of b parts es)) ≡ 64 * (n * parts)
unfolding digits_of
length_digits b parts es n e =
    length-flat (digits_of b parts es)
    ∙ ap (λ k. 64 * k) (length_flat_map (λ e. table parts (digit_element b e)) parts (λ e. length-table parts (digit_element b e)) es ∙ ap (λ k. parts * k) e)
    ∙ omega arith

module _ (P : Parameters) (X : List ℕ) where
  pub length-t : length (flat (digits_t P X)) ≡ 64 * (P.r * P.κ * P.t₁)
  length-t = length_digits P.b P.t₁ (rows P.r P.κ (message P X).t) (P.r * P.κ) (length-rows P.r (message P X).t P.κ)

  pub length-g : length (flat (digits_g P X)) ≡ 64 * (T P * P.t₂)
  length-g = length_digits P.b P.t₂ (triangle P.r (message P X).g) (T P) (length-triangle P.r (message P X).g)

  pub length-h : length (flat (digits_h P X)) ≡ 64 * (T P * P.t₁)
  length-h = length_digits P.b P.t₁ (triangle P.r (message P X).h) (T P) (length-triangle P.r (message P X).h)

  pub length-window_digits : length (window_digits P X) ≡ 64 * digit_count P
  length-window_digits =
      length-append (flat (digits_t P X)) (flat (digits_g P X) ++ flat (digits_h P X))
      ∙ ap₂ ◌+◌ length-t (length-append (flat (digits_g P X)) (flat (digits_h P X)) ∙ ap₂ ◌+◌ length-g length-h)
      ∙ omega arith

  -- t's, g's and h's digits stored one after the other
  pub window-stored : (S S₁ S₂ S₃ : List ℕ) (start : ℕ) (at : Held) (t-at g-at h-at cells : ℕ) → Places P start at
      → t-at ≡ transcript_at P 5 → g-at ≡ transcript_at P 6 → h-at ≡ transcript_at P 7 → cells ≡ triangular P.r
      → S₁ ≡ splice S at.t (flat (digits_at X (digits t-at (P.r * P.κ) P.t₁) P.b))
      → S₂ ≡ splice S₁ at.g (flat (digits_at X (digits g-at cells P.t₂) P.b))
      → S₃ ≡ splice S₂ at.h (flat (digits_at X (digits h-at cells P.t₁) P.b))
      → S₃ ≡ splice S start (window_digits P X)
  window-stored S S₁ S₂ S₃ start at t-at g-at h-at cells w et eg eh ec e₁ e₂ e₃ =
      let A = flat (digits_t P X) in
      let B = flat (digits_g P X) in
      let C = flat (digits_h P X) in
      let a : S₁ ≡ splice S start A =
      e₁
      ∙ ap₂ (λ s t. splice S s (flat (digits_at X (digits t (P.r * P.κ) P.t₁) P.b))) w.t et
      ∙ ap (λ v. splice S start (flat (digits_of P.b P.t₁ v))) (vectors_cells X (transcript_at P 5) P.r P.κ (message P X).t (λ i k l m. refl)) in
      let b : S₂ ≡ splice S₁ (start + length A) B =
      e₂
      ∙ ap₂ (λ s t. splice S₁ s (flat (digits_at X (digits t cells P.t₂) P.b))) (w.g ∙ ap (λ n. start + n) (sym length-t)) eg
      ∙ ap (λ n. splice S₁ (start + length A) (flat (digits_at X (digits (transcript_at P 6) n P.t₂) P.b))) ec
      ∙ ap (λ v. splice S₁ (start + length A) (flat (digits_of P.b P.t₂ v))) (triangle_cells X (transcript_at P 6) P.r (message P X).g (λ i j l m. refl)) in
      let place : at.h ≡ start + length (A ++ B) = omega (arith, w.h, length-append A B, length-t, length-g) in
      let c : S₃ ≡ splice S₂ (start + length (A ++ B)) C =
      e₃
      ∙ ap₂ (λ s t. splice S₂ s (flat (digits_at X (digits t cells P.t₁) P.b))) place eh
      ∙ ap (λ n. splice S₂ (start + length (A ++ B)) (flat (digits_at X (digits (transcript_at P 7) n P.t₁) P.b))) ec
      ∙ ap (λ v. splice S₂ (start + length (A ++ B)) (flat (digits_of P.b P.t₁ v))) (triangle_cells X (transcript_at P 7) P.r (message P X).h (λ i j l m. refl)) in
      let ab : S₂ ≡ splice S start (A ++ B) = b ∙ ap (λ s. splice s (start + length A) B) a ∙ splice-append S start A B in
      c ∙ ap (λ s. splice s (start + length (A ++ B)) C) ab ∙ splice-append S start (A ++ B) C ∙ ap (splice S start) (append_assoc A B C)

-- stored digits by their places
pub held_all : (J X S : List ℕ) (start : ℕ) (at : Held) → Places (parameters J) start at → start + 64 * digit_count (parameters J) ≤ length S
    → Holds S start (window_digits (parameters J) X) → AllHeld J X S at
held_all J X S start at w room held =
    let P = parameters J in
    let A = flat (digits_t P X) in
    let B = flat (digits_g P X) in
    let C = flat (digits_h P X) in
    let second = holds-second S start A (B ++ C) held in
    let g-at : start + length A ≡ at.g = omega (arith, w.g, length-t P X) in
    let h-at : start + length A + length B ≡ at.h = omega (arith, w.h, length-t P X, length-g P X) in
    record {
      t_room = omega (arith, w.t);
      t = subst (λ a. Holds S a A) (sym w.t) (holds-first S start A (B ++ C) held);
      g_room = omega (arith, w.g);
      g = subst (λ a. Holds S a B) g-at (holds-first S (start + length A) B C second);
      h_room = omega (arith, w.h);
      h = subst (λ a. Holds S a C) h-at (holds-second S (start + length A) B C second);
    }

-- words stored at the start of a window, before its products, leave the rows that are done
module _ (J T₀ : List ℕ) (count : ℕ) (passes : ℕ → Bool) (ρ : ℕ) (S S' : List ℕ) (m start : ℕ) (new : List ℕ) (room : many_need (parameters J) count ≤ length S)
    (at : start ≡ m * scratch_need (parameters J))
    (small : length new ≤ products_at (parameters J)) (e : S' ≡ splice S start new) where
  abbrev width : ℕ
  width = scratch_need (parameters J)

  -- a window's products are as they were
  products_unchanged : (i : ℕ) → i < count → part S' (i * width + (width - 4096)) 4096 ≡ part S (i * width + (width - 4096)) 4096
  products_unchanged i k = ap (λ s. part s (i * width + (width - 4096)) 4096) e ∙ by (dec_lt i m)
    where
      by : Dec (i < m) → part (splice S start new) (i * width + (width - 4096)) 4096 ≡ part S (i * width + (width - 4096)) 4096
      by (yes less) = part-splice-before 0 S start new (i * width + (width - 4096)) 4096 (omega (arith, at, rows-within i m width less))
      by (no more) = part-splice-after 0 S start new (i * width + (width - 4096)) 4096 (omega (arith, at, small, mul-le-mul_right {m = m} {n = i} width (omega arith)))

  pub rows_stay : AllRowsDone J count passes T₀ S ρ → AllRowsDone J count passes T₀ S' ρ
  rows_stay done i c u =
      of_done J (transcript_part (parameters J) count T₀ i) S' i ρ (omega (arith, rows-within i count width c, ap length e, length-splice S start new))
      (products_unchanged i c ∙ done_of J (transcript_part (parameters J) count T₀ i) S i ρ (omega (arith, rows-within i count width c)) (done i c u))

-- one transcript more
module _ (J T₀ : List ℕ) (count : ℕ) (passes : ℕ → Bool) (ρ : ℕ) where
  abbrev need : ℕ
  need = scratch_need (parameters J)

  abbrev words_of : ℕ → List ℕ
  words_of i = window_digits (parameters J) (transcript_part (parameters J) count T₀ i)

  size : (i : ℕ) → length (words_of i) ≡ 64 * digit_count (parameters J)
  size i = length-window_digits (parameters J) (transcript_part (parameters J) count T₀ i)

  -- the digits of the transcripts before m are stored, and ρ rows are done
  pub record Begun (S : List ℕ) (m : ℕ) : Type 0 where
    pub digits : (i : ℕ) → i < m → i < count → passes i ≡ true → Holds S (i * need) (words_of i)
    pub done : AllRowsDone J count passes T₀ S ρ

  pub begun_none : (S : List ℕ) → AllRowsDone J count passes T₀ S ρ → Begun S 0
  begun_none S all = record { digits = λ i h. absurd (omega arith); done = all }

  module _ (fitting : Fitting (parameters J)) (S₀ S S' : List ℕ) (m start : ℕ) (room : many_need (parameters J) count ≤ length S) (h : m < count) (at : start ≡ m * need) where
    m_within : m * need + need ≤ length S
    m_within = omega (arith, rows-within m count need h)

    next : (pass : Bool) → pass ≡ passes m → S' ≡ digits_for (parameters J) T₀ count m start pass S → Begun S m → Begun S' (m + 1)
    next true t e b = record {
      digits = λ i l c u. go i l c u (dec_lt i m);
      done = rows_stay J T₀ count passes ρ S S' m start (words_of m) room at (omega (arith, size m, fitting)) e b.done;
    }
      where
        go : (i : ℕ) → i < m + 1 → i < count → passes i ≡ true → Dec (i < m) → Holds S' (i * need) (words_of i)
        go i l c u (yes less) =
            subst (λ s. Holds s (i * need) (words_of i)) (sym e)
            (holds-before S (i * need) (words_of i) start (words_of m) (omega (arith, at, size i, fitting, rows-within i m need less)) (b.digits i less c u))
        go i l c u (no more) =
            let k : m ≡ i = omega arith in
            subst (λ i. Holds S' (i * need) (words_of i)) k
            (subst (λ a. Holds S' a (words_of m)) at (subst (λ s. Holds s start (words_of m)) (sym e) (holds-stored S start (words_of m) (omega (arith, at, size m, fitting, m_within)))))
    next false t e b = record {
      digits = λ i l c u. go i l c u (dec_lt i m);
      done = subst (λ s. AllRowsDone J count passes T₀ s ρ) (sym e) b.done;
    }
      where
        go : (i : ℕ) → i < m + 1 → i < count → passes i ≡ true → Dec (i < m) → Holds S' (i * need) (words_of i)
        go i l c u (yes less) = subst (λ s. Holds s (i * need) (words_of i)) (sym e) (b.digits i less c u)
        go i l c u (no more) =
            let k : i ≡ m = omega arith in
            let z : ◌≡◌ {A = ℕ} 0 1 = cc in
            absurd (omega arith)

    unchanged_next : (pass : Bool) → S' ≡ digits_for (parameters J) T₀ count m start pass S → Unchanged (many_need (parameters J) count) S₀ S → Unchanged (many_need (parameters J) count) S₀ S'
    unchanged_next true e k = unchanged_stored (many_need (parameters J) count) S₀ S S' start (words_of m) k e (omega (arith, at, size m, fitting, rows-within m count need h))
    unchanged_next false e k = subst (λ s. Unchanged (many_need (parameters J) count) S₀ s) (sym e) k

    -- the digits of transcript m stored too, where it passes
    pub begun_next : (P : Parameters) → P ≡ parameters J → (pass : Bool) → pass ≡ passes m → S' ≡ digits_for P T₀ count m start pass S
        → Begun S m × Unchanged (many_need (parameters J) count) S₀ S → Begun S' (m + 1) × Unchanged (many_need (parameters J) count) S₀ S'
    begun_next P same pass t stored (b, k) =
        let e : S' ≡ digits_for (parameters J) T₀ count m start pass S = stored ∙ ap (λ P. digits_for P T₀ count m start pass S) same in
        (next pass t e b, unchanged_next pass e k)
