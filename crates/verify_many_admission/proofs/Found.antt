-- What is found of the transcripts, one after the other.
use mathlib.Core.Path.{◌≡◌, refl, sym, ap, ◌∙◌}
use mathlib.Core.Bool.{true, false}
use mathlib.Core.List.{List}
use Prim.Native.Nat.{ℕ, ◌+◌, ◌<◌}
use native.Mathlib.Decide.{ℕ_discrete}
use native.Mathlib.Omega.{arith}
use lib.ListN.{length, set}
use lib.Seq.{get_or-set_same, get_or-set_other}
use Rattle.spec_leaves.specs.Answer.{Answer, fine, is_fine, of_result}
use Rattle.std.specs.Prelude.{Result, Ok, Err, is_ok}
use Rattle.spec_leaves.specs.declared.answers.Refusal.{Refusal}
use Rattle.spec_leaves.proofs.Cases.{no_both}
use Rattle.admission_slices.proofs.Fit.{refusal_none}
use Rattle.verify_many_admission.specs.Admitted.{found_of}

-- one more stored
pub stored : (found : List (Result Unit Refusal)) (m : ℕ) (v : Result Unit Refusal) (f : ℕ → Answer) → m < length found → ((k : ℕ) → k < m → of_result (found_of found k) ≡ f k) → of_result v ≡ f m
    → (k : ℕ) → k < m + 1 → of_result (found_of (set found m v) k) ≡ f k
stored found m v f room before e k h = by (ℕ_discrete k m)
  where
    by : Dec (k ≡ m) → of_result (found_of (set found m v) k) ≡ f k
    by (yes same) = ap (λ j. of_result (found_of (set found m v) j)) same ∙ ap of_result (get_or-set_same found m v (Ok tt) room) ∙ e ∙ ap f (sym same)
    by (no other) = ap of_result (get_or-set_other found m k v (Ok tt) other) ∙ before k (omega arith)

-- whether it passes is whether it is found to be fine
pub passing_is : (x : Result Unit Refusal) → is_ok x ≡ is_fine (of_result x)
passing_is (Ok u) = refl
passing_is (Err r) = refusal_none r true false

-- a transcript that passes is found to be fine
pub passing-fine : (x : Result Unit Refusal) → is_ok x ≡ true → of_result x ≡ fine
passing-fine (Ok u) e = refl
passing-fine (Err r) e = absurd (no_both e refl)
