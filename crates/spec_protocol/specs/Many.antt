-- Many transcripts, one reading of the job (document 02, Item 11): "One call takes them with their randomness and gives eight verdicts".
use Rattle.std.specs.Prelude.{◌≡◌, Bool, true, cond, List, [], ◌++◌, ℕ, ◌+◌, ◌-◌, ◌*◌, ◌<◌, ltb, length, drop, replicate}
use Rattle.std.proofs.Math.Decide.{dec_le}
use Rattle.math.specs.lists.Table.{table}
use Rattle.spec_leaves.specs.Answer.{Answer, refused, result_of, is_fine, ◌then◌}
use Rattle.spec_leaves.specs.Rq.{Element}
use Rattle.spec_protocol.specs.Checks.{require}
use Rattle.spec_protocol.specs.Parameters.{Parameters, parameters}
use Rattle.spec_protocol.specs.Layout.{part, span, randomness_sections, transcript_sections, job_refusal, randomness_refusal, transcript_refusal, scratch_need}
use Rattle.spec_protocol.specs.Views.{public, message}
use Rattle.spec_protocol.specs.Formulas.{dot, times, flat, t_digits, g_digits, h_digits}
use Rattle.spec_protocol.specs.Prover.{zeroed}
use Rattle.spec_protocol.specs.Verifier.{verify}

-- "Transcripts lie end to end, each of the length that the job fixes": part m of so many, "a slice that ends early cuts short or empties those at its end, surplus words belong to the last"
unfoldable pub cut : (len count : ℕ) → List ℕ → ℕ → List ℕ
cut len count words m = cond (ltb (m + 1) count) (part words (m * len) len) (drop (m * len) words)

-- "Scratch is the single need times that number"
abbrev pub many_need : Parameters → ℕ → ℕ
many_need P count = count * scratch_need P

-- "It refuses with 35, at place 0, a number of transcripts outside 1 to 8"
abbrev pub count_refusal : ℕ → Answer
count_refusal count = require (dec_le 1 count) (refused 35 0) then require (dec_le count 8) (refused 35 0)

-- 1, "Place is the length needed."
abbrev pub need_refusal : Parameters → (count lent : ℕ) → Answer
need_refusal P count lent = require (dec_le (many_need P count) lent) (refused 1 (many_need P count))

-- 35 "before any other test"; "a refused job or short scratch, tested right after the job, is the answer to the whole call"
unfoldable pub many_refusal : (J : List ℕ) → (count scratch : ℕ) → Answer
many_refusal J count scratch = count_refusal count then (job_refusal J then need_refusal (parameters J) count scratch)

module _ (P : Parameters) (count : ℕ) where
  -- transcript m of those that lie end to end
  abbrev pub transcript_part : List ℕ → ℕ → List ℕ
  transcript_part = cut (span (transcript_sections P)) count

  -- "and so does their randomness"
  abbrev pub randomness_part : List ℕ → ℕ → List ℕ
  randomness_part = cut (span (randomness_sections P)) count

  -- what a transcript is refused by itself, by 7 to 10; "places count from a transcript's own start"
  unfoldable pub part_refusal : (R T : List ℕ) → ℕ → Answer
  part_refusal R T m = randomness_refusal P 7 (randomness_part R m) then transcript_refusal P (transcript_part T m)

  -- whether transcript m "passes 7 to 10"
  abbrev pub passes : (R T : List ℕ) → ℕ → Bool
  passes R T m = is_fine (part_refusal R T m)

-- verdict m: "Each equals the single call's", with its parts and the scratch that it needs
unfoldable pub part_verdict : (J : List ℕ) → (count : ℕ) → (R T : List ℕ) → ℕ → Answer
part_verdict J count R T m =
    let P = parameters J in
    verify J (randomness_part P count R m) (transcript_part P count T m) (scratch_need P)

-- the scratch at exit: "zero to there whenever eight verdicts are given"
unfoldable pub many_scratch : (J : List ℕ) → (count : ℕ) → (scratch : List ℕ) → List ℕ
many_scratch J count scratch = result_of (many_refusal J count (length scratch)) (zeroed (many_need (parameters J) count) scratch) scratch

-- how many rows A, B, C and D have together
abbrev pub row_count : Parameters → ℕ
row_count P = P.κ + P.κ₁ + P.κ₁ + P.κ₂

-- where a transcript's products stand in its window of the scratch: in its last 64 elements
abbrev pub products_at : Parameters → ℕ
products_at P = scratch_need P - 4096

module _ (J T : List ℕ) where
  open public J [] use {P, A, B, C, D}
  open P use {n, κ, κ₁}
  open message P T use {z, t, g, h}

  -- "the rows of A, B, C and D one after another": the product of row ρ, of A with z, of B, C and D with the digits of t, g and h; no randomness is read
  unfoldable pub row_product : ℕ → Element
  row_product ρ =
      let X = public J [] in
      cond (ltb ρ κ) (dot n (A ρ) z)
      (cond (ltb ρ (κ + κ₁)) (times B (t_digits X t) (ρ - κ))
      (cond (ltb ρ (κ + κ₁ + κ₁)) (times C (g_digits X g) (ρ - (κ + κ₁)))
      (times D (h_digits X h) (ρ - (κ + κ₁ + κ₁)))))

  -- after ρ rows, in a transcript's window: "its products […] are shown done, and those of later rows still zero"
  unfoldable pub RowsDone : (window : List ℕ) → (ρ : ℕ) → Type 0
  RowsDone window ρ = drop (products_at P) window ≡ flat (table ρ row_product) ++ replicate (64 * (64 - ρ)) 0

-- the window of transcript m: the single need's words
abbrev pub window : Parameters → List ℕ → ℕ → List ℕ
window P scratch m = part scratch (m * scratch_need P) (scratch_need P)

-- "after each row, its products for every transcript that passes 7 to 10 are shown done, and those of later rows still zero": for every transcript that takes part
abbrev pub AllRowsDone : (J : List ℕ) → (count : ℕ) → (taken : ℕ → Bool) → (T scratch : List ℕ) → (ρ : ℕ) → Type 0
AllRowsDone J count taken T scratch ρ =
    (m : ℕ) → m < count → taken m ≡ true → RowsDone J (transcript_part (parameters J) count T m) (window (parameters J) scratch m) ρ
