-- What is as it was from a place to the end.
use mathlib.Core.Path.{◌≡◌, sym, ap, ◌∙◌}
use mathlib.Core.List.{List, ◌++◌}
use Prim.Native.Nat.{ℕ, ◌+◌, ◌-◌, ◌≤◌, ◌<◌}
use native.Mathlib.Decide.{dec_lt}
use native.Mathlib.Omega.{arith}
use lib.ListN.{length, get_or, drop, replicate, length-drop, length-replicate}
use lib.Seq.{ext_get_or, get_or-drop, drop-drop}
use Rattle.math.specs.lists.Part.{splice}
use Rattle.math.proofs.lists.Splice.{length-splice, splice_eq, get_or-splice-before, get_or-splice-after, get_or-splice-within}
use Rattle.spec_protocol.specs.Prover.{zeroed}
pub use Rattle.spec_protocol.proofs.Total.{unchanged_refl}
use Rattle.core_workspace.specs.Holds.{Unchanged}

-- changed twice
pub unchanged_trans : (k : ℕ) (S S' S'' : List ℕ) → Unchanged k S S' → Unchanged k S' S'' → Unchanged k S S''
unchanged_trans k S S' S'' a b = record { size = b.size ∙ a.size; beyond = b.beyond ∙ a.beyond }

-- from a later place on
pub unchanged_weaken : (k m : ℕ) (S S' : List ℕ) → k ≤ m → Unchanged k S S' → Unchanged m S S'
unchanged_weaken k m S S' h a =
    let place : m ≡ k + (m - k) = omega arith in
    record {
      size = a.size;
      beyond = ap (λ p. drop p S') place ∙ sym (drop-drop (m - k) k S') ∙ ap (drop (m - k)) a.beyond ∙ drop-drop (m - k) k S ∙ ap (λ p. drop p S) (sym place);
    }

-- a store that ends before the place
pub unchanged_splice : (k : ℕ) (S : List ℕ) (at : ℕ) (new : List ℕ) → at + length new ≤ k → Unchanged k S (splice S at new)
unchanged_splice k S at new h = record {
  size = length-splice S at new;
  beyond =
      ext_get_or 0 (drop k (splice S at new)) (drop k S) (length-drop k (splice S at new) ∙ ap (λ n. n - k) (length-splice S at new) ∙ sym (length-drop k S))
      (λ i l. get_or-drop k (splice S at new) i 0 ∙ get_or-splice-after S at new (k + i) 0 (omega arith) ∙ sym (get_or-drop k S i 0));
}

-- one more such store
pub unchanged_stored : (k : ℕ) (S S' S'' : List ℕ) (at : ℕ) (new : List ℕ) → Unchanged k S S' → S'' ≡ splice S' at new → at + length new ≤ k → Unchanged k S S''
unchanged_stored k S S' S'' at new a e h = record {
  size = ap length e ∙ length-splice S' at new ∙ a.size;
  beyond = ap (drop k) e ∙ (unchanged_splice k S' at new h).beyond ∙ a.beyond;
}

-- the same stored into both
pub unchanged_under : (k : ℕ) (S S' : List ℕ) (at : ℕ) (new : List ℕ) → Unchanged k S S' → at + length new ≤ length S → Unchanged k (splice S at new) (splice S' at new)
unchanged_under k S S' at new a h = record {
  size = size;
  beyond =
      ext_get_or 0 (drop k (splice S' at new)) (drop k (splice S at new)) (length-drop k (splice S' at new) ∙ ap (λ n. n - k) size ∙ sym (length-drop k (splice S at new)))
      (λ i l. get_or-drop k (splice S' at new) i 0 ∙ agree i (dec_lt (k + i) at) (dec_lt (k + i) (at + length new)) ∙ sym (get_or-drop k (splice S at new) i 0));
}
  where
    size : length (splice S' at new) ≡ length (splice S at new)
    size = length-splice S' at new ∙ a.size ∙ sym (length-splice S at new)

    same : (i : ℕ) → get_or S' (k + i) 0 ≡ get_or S (k + i) 0
    same i = sym (get_or-drop k S' i 0) ∙ ap (λ l. get_or l i 0) a.beyond ∙ get_or-drop k S i 0

    agree : (i : ℕ) → Dec (k + i < at) → Dec (k + i < at + length new) → get_or (splice S' at new) (k + i) 0 ≡ get_or (splice S at new) (k + i) 0
    agree i (yes b) c = get_or-splice-before S' at new (k + i) 0 b ∙ same i ∙ sym (get_or-splice-before S at new (k + i) 0 b)
    agree i (no b) (yes c) =
        let at_i : k + i ≡ at + (k + i - at) = omega arith in
        ap (λ j. get_or (splice S' at new) j 0) at_i
        ∙ get_or-splice-within S' at new (k + i - at) 0 (omega arith) (omega (arith, a.size))
        ∙ sym (get_or-splice-within S at new (k + i - at) 0 (omega arith) h)
        ∙ ap (λ j. get_or (splice S at new) j 0) (sym at_i)
    agree i (no b) (no c) = get_or-splice-after S' at new (k + i) 0 (omega arith) ∙ same i ∙ sym (get_or-splice-after S at new (k + i) 0 (omega arith))

-- the words before the place set to zero
pub unchanged_clear : (need : ℕ) (S S' : List ℕ) → Unchanged need S S' → need ≤ length S → splice S' 0 (replicate need 0) ≡ zeroed need S
unchanged_clear need S S' a h =
    let size : 0 + length (replicate {A = ℕ} need 0) ≡ need = omega (arith, length-replicate {A = ℕ} need 0) in
    splice_eq S' 0 (replicate need 0) (omega (arith, a.size))
    ∙ ap (λ n. replicate need 0 ++ drop n S') size
    ∙ ap (λ l. replicate need 0 ++ l) a.beyond
