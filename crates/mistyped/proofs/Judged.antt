-- What is judged after the verifier's work: without a list, or with the entries found.
use mathlib.Core.Path.{◌≡◌, refl, sym, ap, subst, ◌∙◌}
use mathlib.Core.List.{List, [], ◌∷◌, ◌++◌, flat_map, append_assoc}
use Prim.Native.Nat.{ℕ, ◌+◌, ◌-◌, ◌≤◌}
use native.Mathlib.Nat.{zero-add}
use native.Mathlib.Omega.{arith}
use lib.ListN.{length, drop, replicate, length-replicate, replicate-append-replicate}
use lib.Seq.{drop_at, drop-append-le}
use Rattle.math.specs.lists.Part.{splice}
use Rattle.math.proofs.lists.Splice.{splice_eq, splice-nil, length-splice}
use Rattle.spec_leaves.specs.Answer.{Answer, fine, accepted, refused, failed, number, result_of}
use Rattle.spec_protocol.specs.Parameters.{parameters}
use Rattle.spec_protocol.specs.Views.{public, message}
use Rattle.spec_protocol.specs.Mistyped.{Entry, Listed, judged, some_entry, verdict_of, entry_words, written, list_need}
use Rattle.relation_env_params.specs.declared.env_params.EnvironmentParameters.{EnvironmentParameters}
use Rattle.verifier_common.specs.Work.{Sent}
use Rattle.mistyped_solve.proofs.Words.{length-words}
use Rattle.mistyped_entries.specs.Entered.{Entered}
use Rattle.mistyped.specs.declared.answers.MistypedAnswer.{MistypedAnswer}
use Rattle.mistyped.specs.Told.{mistyped_answer, counted_answer, kept, Judged, Worked}
use Rattle.mistyped.proofs.Verdicts.{Without}

-- a value that does not depend on the answer
result-same {ℓ} : {A : Type ℓ} (a : Answer) (x : A) → result_of a x x ≡ x
result-same fine x = refl
result-same (accepted cells) x = refl
result-same (refused n params) x = refl
result-same (failed n vs) x = refl

-- what is answered of entries by their number
counted_is : (es : List Entry) (n : ℕ) → length es ≡ n → counted_answer n ≡ mistyped_answer (some_entry es) (length es)
counted_is [] n e = ap counted_answer (sym e)
counted_is (x ∷ es) n e = ap counted_answer (sym e)

-- entries that are listed stand in the list
some-kept : (es : List Entry) → result_of (some_entry es) es [] ≡ es
some-kept [] = refl
some-kept (x ∷ es) = refl

module _ (J R T : List ℕ) (list : List ℕ) where
  -- a verdict that comes to an answer without a list
  pub judged_without : {v a : Answer} → v ≡ verdict_of J R T → Without v a → (r : MistypedAnswer) → r ≡ mistyped_answer a 0 → Judged J R T list list r
  unfolding flat_map
  judged_without {v} {a} e w r is =
      let none : kept J R T [] ≡ [] = result-same (judged (verdict_of J R T) []) [] in
      record {
        found = [];
        asked = λ n. absurd (w.not_22 (ap number e ∙ n));
        few = subst (λ (es : List Entry). length es ≤ (parameters J).l) (sym none) (omega arith);
        answer = is ∙ ap (λ b. mistyped_answer b 0) (sym w.comes_to ∙ ap (λ u. judged u []) e);
        words = sym (ap (λ (es : List Entry). splice list 0 (entry_words es)) none ∙ splice-nil list 0);
      }

  -- a failed 22 with the entries found
  pub judged-with : {params : EnvironmentParameters} {count : ℕ} {list' : List ℕ} {vs : List ℕ} → Sent J R T params → failed 22 vs ≡ verdict_of J R T
      → Entered J R T params.constraint_l list count list' → (r : MistypedAnswer) → r ≡ counted_answer count → Judged J R T list list' r
  judged-with {params} {count} {list'} {vs} w v e r is =
      let l : params.constraint_l ≡ (parameters J).l = ap (λ P. P.l) w.posed.same in
      let same : judged (verdict_of J R T) e.found ≡ some_entry e.found = ap (λ u. judged u e.found) (sym v) in
      let all : kept J R T e.found ≡ e.found = ap (λ a. result_of a e.found []) same ∙ some-kept e.found in
      record {
        found = e.found;
        asked = λ n. subst (λ b. Listed (public J R) (message (parameters J) T) b e.found) l e.listed;
        few = subst (λ (es : List Entry). length es ≤ (parameters J).l) (sym all) (omega (arith, e.size, e.few, l));
        answer = is ∙ counted_is e.found count e.size ∙ ap (λ a. mistyped_answer a (length e.found)) (sym same);
        words = e.words ∙ ap (λ (es : List Entry). splice list 0 (entry_words es)) (sym all);
      }

-- zeros from one place on
drop_zeros : (k n : ℕ) → k ≤ n → drop {A = ℕ} k (replicate n 0) ≡ replicate (n - k) 0
drop_zeros k n h =
    ap (drop {A = ℕ} k) (ap (λ m. replicate {A = ℕ} m 0) whole ∙ sym (replicate-append-replicate {A = ℕ} k (n - k) 0))
    ∙ drop_at {A = ℕ} (replicate k 0) (replicate (n - k) 0) k (length-replicate {A = ℕ} k 0)
  where
    whole : n ≡ k + (n - k)
    whole = omega arith

-- words written over zeros
over_zeros : (l ws : List ℕ) (need : ℕ) → length ws ≤ need → need ≤ length l → splice (splice l 0 (replicate need 0)) 0 ws ≡ (ws ++ replicate (need - length ws) 0) ++ drop need l
over_zeros l ws need h k =
    ap (λ m. splice m 0 ws) zeros
    ∙ splice_eq (replicate need 0 ++ drop need l) 0 ws (omega (arith, ap length zeros, length-splice l 0 (replicate need 0)))
    ∙ ap (λ n. ws ++ drop n (replicate need 0 ++ drop need l)) (zero-add (length ws))
    ∙ ap (λ m. ws ++ m) (drop-append-le (length ws) (replicate need 0) (drop need l) (omega (arith, size)) ∙ ap (λ m. m ++ drop need l) (drop_zeros (length ws) need h))
    ∙ sym (append_assoc ws (replicate (need - length ws) 0) (drop need l))
  where
    size : length (replicate {A = ℕ} need 0) ≡ need
    size = length-replicate {A = ℕ} need 0

    zeros : splice l 0 (replicate need 0) ≡ replicate need 0 ++ drop need l
    zeros = splice_eq l 0 (replicate need 0) (omega (arith, size)) ∙ ap (λ n. replicate need 0 ++ drop n l) (zero-add (length (replicate {A = ℕ} need 0)) ∙ size)

-- the work: the list cleared, then judged
pub worked : (J R T list list₁ list₂ : List ℕ) (need : ℕ) (r : MistypedAnswer) → need ≡ list_need (parameters J) → need ≤ length list → list₁ ≡ splice list 0 (replicate need 0)
    → Judged J R T list₁ list₂ r → Worked J R T list list₂ r
worked J R T list list₁ list₂ need r e h c j =
    let few = j.few in
    let size = length-words (kept J R T j.found) in
    record {
      found = j.found;
      asked = j.asked;
      answer = j.answer;
      words =
          j.words
          ∙ ap (λ l. splice l 0 (entry_words (kept J R T j.found))) c
          ∙ over_zeros list (entry_words (kept J R T j.found)) need (omega (arith, size, few, e)) h
          ∙ ap (λ n. written n (kept J R T j.found) list) e;
    }
