-- `all_to_ntt_form` meets its contract. The invariant: z of the transcripts before m that pass is in NTT form.
use mathlib.Core.Path.{◌≡◌}
use mathlib.Core.Bool.{false}
use Prim.Native.Nat.{◌*◌, ◌≤◌}
use lib.ListN.{get_or}
use Rattle.spec_protocol.specs.Parameters.{parameters}
use Rattle.spec_protocol.specs.Unchanged.{Unchanged}
use Rattle.spec_protocol.specs.Many.{many_need, transcript_part}
use Rattle.verify_many_digits.proofs.FormLaws.{Begun}
use Rattle.verify_many_rows.specs.NttForm.{z_at}
use Rattle.verify_many_rows.proofs.a_rows.all_to_ntt_form.Given as goal

abbrev pub invariant-loop-m : goal.invariant-loop-m
invariant-loop-m l =
    let m = l.m in (m ≤ l.count)
    × (l.start ≡ m * l.need)
    × Begun l.job l.transcripts l.count (λ m. get_or l.passes m false) 0 (transcript_part (parameters l.job) l.count l.transcripts) (z_at (parameters l.job)) (parameters l.job).n l.scratch m
    × Unchanged (many_need (parameters l.job) l.count) l.initial.scratch l.scratch
