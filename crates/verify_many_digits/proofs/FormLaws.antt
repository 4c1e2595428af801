-- Vectors in NTT form at the start of each window: stored for one transcript after another, and kept while products are stored.
use mathlib.Core.Path.{◌≡◌, refl, sym, subst}
use mathlib.Core.Bool.{Bool, true, false, cond}
use mathlib.Core.List.{List}
use Prim.Native.Nat.{ℕ, ◌+◌, ◌*◌, ◌≤◌, ◌<◌}
use native.Mathlib.Decide.{dec_lt}
use native.Mathlib.Omega.{arith}
use lib.ListN.{length}
use Rattle.math.specs.lists.Part.{splice}
use Rattle.ring_rq_matrix.proofs.Place.{rows-within}
use Rattle.spec_protocol.specs.Parameters.{parameters}
use Rattle.spec_protocol.specs.Layout.{scratch_need}
use Rattle.spec_protocol.specs.Many.{many_need, products_at, AllRowsDone}
use Rattle.core_workspace.specs.Holds.{Unchanged}
use Rattle.core_workspace.proofs.Unchanged.{unchanged_stored}
use Rattle.ntt_vectors.specs.NttForm.{NttForm, ntt_words}
use Rattle.ntt_vectors.proofs.Stored.{length-ntt_words}
use Rattle.ntt_vectors.proofs.Laws.{ntt_form-before}
use Rattle.verify_many_windows.proofs.WindowDigits.{rows_stay}

-- n elements of each source, from a place on
module _ (J T₀ : List ℕ) (count : ℕ) (passes : ℕ → Bool) (ρ : ℕ) (source : ℕ → List ℕ) (from n : ℕ) where
  abbrev need : ℕ
  need = scratch_need (parameters J)

  abbrev values_of : ℕ → List ℕ
  values_of i = ntt_words (source i) from n

  -- those of the transcripts before m are in NTT form, and ρ rows are done
  pub record Begun (S : List ℕ) (m : ℕ) : Type 0 where
    pub forms : (i : ℕ) → i < m → i < count → passes i ≡ true → NttForm S (i * need) (source i) from n
    pub done : AllRowsDone J count passes T₀ S ρ

  pub begun_none : (S : List ℕ) → AllRowsDone J count passes T₀ S ρ → Begun S 0
  begun_none S all = record { forms = λ i h. absurd (omega arith); done = all }

  module _ (fits : 192 * n ≤ products_at (parameters J)) (S₀ S S' : List ℕ) (m start : ℕ) (room : many_need (parameters J) count ≤ length S) (h : m < count) (at : start ≡ m * need) where
    size : length (values_of m) ≡ 192 * n
    size = length-ntt_words (source m) from n

    next : (pass : Bool) → pass ≡ passes m → S' ≡ cond pass (splice S start (values_of m)) S → (pass ≡ true → NttForm S' start (source m) from n) → Begun S m → Begun S' (m + 1)
    next true t e k b = record {
      forms = λ i l c u. go i l c u (dec_lt i m);
      done = rows_stay J T₀ count passes ρ S S' m start (values_of m) room at (omega (arith, size, fits)) e b.done;
    }
      where
        go : (i : ℕ) → i < m + 1 → i < count → passes i ≡ true → Dec (i < m) → NttForm S' (i * need) (source i) from n
        go i l c u (yes less) =
            ntt_form-before S (i * need) (source i) from S' start (values_of m) n e (omega (arith, at, fits, rows-within i m need less)) (b.forms i less c u)
        go i l c u (no more) =
            let same : m ≡ i = omega arith in
            subst (λ i. NttForm S' (i * need) (source i) from n) same (subst (λ a. NttForm S' a (source m) from n) at (k refl))
    next false t e k b = record {
      forms = λ i l c u. go i l c u (dec_lt i m);
      done = subst (λ s. AllRowsDone J count passes T₀ s ρ) (sym e) b.done;
    }
      where
        go : (i : ℕ) → i < m + 1 → i < count → passes i ≡ true → Dec (i < m) → NttForm S' (i * need) (source i) from n
        go i l c u (yes less) = subst (λ s. NttForm s (i * need) (source i) from n) (sym e) (b.forms i less c u)
        go i l c u (no more) =
            let k : i ≡ m = omega arith in
            let z : ◌≡◌ {A = ℕ} 0 1 = cc in
            absurd (omega arith)

    unchanged_next : (pass : Bool) → S' ≡ cond pass (splice S start (values_of m)) S → Unchanged (many_need (parameters J) count) S₀ S → Unchanged (many_need (parameters J) count) S₀ S'
    unchanged_next true e k = unchanged_stored (many_need (parameters J) count) S₀ S S' start (values_of m) k e (omega (arith, at, size, fits, rows-within m count need h))
    unchanged_next false e k = subst (λ s. Unchanged (many_need (parameters J) count) S₀ s) (sym e) k

    -- those of transcript m in NTT form too, where it passes
    pub begun_next : (pass : Bool) → pass ≡ passes m → S' ≡ cond pass (splice S start (values_of m)) S → (pass ≡ true → NttForm S' start (source m) from n)
        → Begun S m × Unchanged (many_need (parameters J) count) S₀ S → Begun S' (m + 1) × Unchanged (many_need (parameters J) count) S₀ S'
    begun_next pass t e k (b, u) = (next pass t e k b, unchanged_next pass e u)
