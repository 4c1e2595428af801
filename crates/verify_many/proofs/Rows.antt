-- What the rows, and then the verdicts, stand on.
use mathlib.Core.Path.{◌≡◌, refl, sym, ap, subst, ◌∙◌}
use mathlib.Core.Bool.{Bool, true, false, true≢false}
use mathlib.Core.List.{List}
use Prim.Native.Nat.{ℕ, ◌≤◌, ◌<◌}
use native.Mathlib.Omega.{arith}
use lib.ListN.{length, get_or, replicate}
use Rattle.math.specs.lists.Part.{splice}
use Rattle.math.proofs.lists.Splice.{length-splice}
use Rattle.math.specs.lists.Table.{table}
use Rattle.math.proofs.lists.Table.{get_or-table}
use Rattle.spec_leaves.specs.Answer.{Answer, fine, accepted, refused, failed, is_fine}
use Rattle.spec_protocol.specs.Parameters.{Parameters, parameters}
use Rattle.spec_protocol.specs.Layout.{randomness_refusal, transcript_refusal}
use Rattle.spec_protocol.specs.Unchanged.{Unchanged}
use Rattle.spec_protocol.specs.Prover.{zeroed}
use Rattle.spec_protocol.specs.Many as Many
use Rattle.spec_protocol.specs.Many.{many_need, randomness_part, transcript_part, part_refusal, AllRowsDone, row_count}
use Rattle.spec_protocol.proofs.Fine.{then_fine_right}
use Rattle.relation_env_params.specs.declared.env_params.EnvironmentParameters.{EnvironmentParameters}
use Rattle.relation_env_params.specs.Parameters.{parameters_of}
use Rattle.std.specs.Prelude.{Result, is_ok}
use Rattle.spec_leaves.specs.declared.answers.Refusal.{Refusal}
use Rattle.admission_slices.proofs.Ready.{job-sound, job-laid}
use Rattle.core_workspace.proofs.Unchanged.{unchanged_trans, unchanged_clear}
use Rattle.verify_many_admission.specs.Admitted.{ManyGiven, TranscriptsFound, found_of}
use Rattle.verify_many_admission.proofs.Found.{passing_is}
use Rattle.verify_many_admission.proofs.Passing.{part-laid}
use Rattle.verify_many_rows.specs.Rows.{Rowable}
use Rattle.verify_many.specs.Windows.{RowsReady}

-- an answer that is taken for fine is
fine_if : (x : Answer) → is_fine x ≡ true → x ≡ fine
fine_if fine e = refl
fine_if (accepted cells) e = absurd (true≢false (sym e))
fine_if (refused n params) e = absurd (true≢false (sym e))
fine_if (failed n vs) e = absurd (true≢false (sym e))

-- a transcript that passes 7 to 10 passes 9 and 10
sent-fine : (P : Parameters) (count : ℕ) (R T : List ℕ) (m : ℕ) → Many.passes P count R T m ≡ true → transcript_refusal P (transcript_part P count T m) ≡ fine
unfolding part_refusal
sent-fine P count R T m pass = then_fine_right (randomness_refusal P 7 (randomness_part P count R m)) (transcript_refusal P (transcript_part P count T m)) (fine_if _ pass)

module _ (J R T : List ℕ) (count scratch : ℕ) (params : EnvironmentParameters) (g : ManyGiven J count scratch params)
    (found : List (Result Unit Refusal)) (passes : List Bool) (is : passes ≡ table 8 (λ m. is_ok (found_of found m))) where
  -- transcript m passes
  passes_at : (m : ℕ) → m < count → get_or passes m false ≡ is_ok (found_of found m)
  passes_at m h = ap (λ l. get_or l m false) is ∙ get_or-table 8 (λ m. is_ok (found_of found m)) m false (omega (arith, g.few))

  -- what is found, of the job's parameters
  pub of_job : TranscriptsFound (parameters_of params) count T found → TranscriptsFound (parameters J) count T found
  of_job all = subst (λ P. TranscriptsFound P count T found) g.same all

  pub rowable : TranscriptsFound (parameters_of params) count T found → Rowable J T count (λ m. get_or passes m false) scratch params
  rowable all = record {
    same = g.same;
    sound = job-sound J g.fit;
    job = job-laid J g.fit;
    few = g.few;
    room = g.room;
    laid = λ m h pass. part-laid (parameters J) count T found (of_job all) m h (sym (passes_at m h) ∙ pass);
  }

  -- a transcript that passes 7 to 10 takes part
  takes : TranscriptsFound (parameters_of params) count T found → (m : ℕ) → m < count → Many.passes (parameters J) count R T m ≡ true → get_or passes m false ≡ true
  takes all m h pass = passes_at m h ∙ passing_is (found_of found m) ∙ ap is_fine (of_job all m h ∙ sent-fine (parameters J) count R T m pass)

  -- "after each row, its products for every transcript that passes 7 to 10 are shown done, and those of later rows still zero": what the loops over rows keep after row ρ says so of each of these
  pub each-row_done : TranscriptsFound (parameters_of params) count T found → (S : List ℕ) (ρ : ℕ)
      → AllRowsDone J count (λ m. get_or passes m false) T S ρ → AllRowsDone J count (Many.passes (parameters J) count R T) T S ρ
  each-row_done all S ρ done m h pass = done m h (takes all m h pass)

  -- with the scratch after the rows
  module _ {need : ℕ} {S S' : List ℕ} (unchanged : Unchanged need S S') (size : length S ≡ scratch) where
    pub still_given : ManyGiven J count (length S') params
    still_given = record { fit = g.fit; same = g.same; few = g.few; room = subst (λ n. many_need (parameters J) count ≤ n) (sym (unchanged.size ∙ size)) g.room }

    -- after the last row
    pub rows-ready : TranscriptsFound (parameters_of params) count T found → AllRowsDone J count (λ m. get_or passes m false) T S' (row_count (parameters J)) → RowsReady J count R T S'
    rows-ready all = each-row_done all S' (row_count (parameters J))

-- the scratch after the rows, the verdicts, and the words of all windows set to zero
module _ (n : ℕ) {need : ℕ} {S S₁ S₂ S₃ : List ℕ} (rows : Unchanged need S S₁) (judged : Unchanged need S₁ S₂) (clear : S₃ ≡ splice S₂ 0 (replicate n 0)) where
  pub cleared : n ≡ need → need ≤ length S → S₃ ≡ zeroed need S
  cleared e h = clear ∙ ap (λ k. splice S₂ 0 (replicate k 0)) e ∙ unchanged_clear need S S₂ (unchanged_trans need S S₁ S₂ rows judged) h

  pub length_cleared : length S₃ ≡ length S
  length_cleared = ap length clear ∙ length-splice S₂ 0 (replicate n 0) ∙ judged.size ∙ rows.size
