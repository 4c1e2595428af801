-- `all_to_ntt_form` meets its contract. The invariant: the digits of the transcripts before m that pass are in NTT form.
use mathlib.Core.Path.{◌≡◌}
use mathlib.Core.Bool.{false}
use mathlib.Core.List.{List}
use Prim.Native.Nat.{ℕ, ◌*◌, ◌≤◌}
use lib.ListN.{get_or}
use Rattle.spec_protocol.specs.Parameters.{parameters}
use Rattle.spec_protocol.specs.Unchanged.{Unchanged}
use Rattle.spec_protocol.specs.Many.{many_need, transcript_part}
use Rattle.verify_many_windows.specs.Digits.{digit_count, window_digits}
use Rattle.verify_many_digits.proofs.FormLaws.{Begun}
use Rattle.verify_many_digits.proofs.forms.all_to_ntt_form.Given as goal

-- the digits of each transcript
abbrev pub digits_of-part : (J T₀ : List ℕ) (count : ℕ) → ℕ → List ℕ
digits_of-part J T₀ count i = window_digits (parameters J) (transcript_part (parameters J) count T₀ i)

abbrev pub invariant-loop-m : goal.invariant-loop-m
invariant-loop-m l =
    let m = l.m in (m ≤ l.count)
    × (l.start ≡ m * l.need)
    × Begun l.job l.transcripts l.count (λ m. get_or l.passes m false) (parameters l.job).κ (digits_of-part l.job l.transcripts l.count) 0 (digit_count (parameters l.job)) l.scratch m
    × Unchanged (many_need (parameters l.job) l.count) l.initial.scratch l.scratch
