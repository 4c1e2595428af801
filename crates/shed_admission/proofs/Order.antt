-- The refusals of the calls on runs, test after test, as the code finds them.
use mathlib.Core.Path.{◌≡◌, refl, sym, ap, subst, ◌∙◌}
use mathlib.Core.List.{List}
use Prim.Native.Nat.{ℕ, ◌+◌, ◌*◌, ◌≤◌, ◌<◌}
use native.Mathlib.Decide.{dec_le, dec_lt}
use native.Mathlib.Nat.{mul-le-mul}
use native.Mathlib.Omega.{arith}
use Rattle.spec_leaves.specs.declared.answers.Refusal.{Refusal}
use Rattle.spec_leaves.specs.Answer.{Answer, fine, refused, result_of, of_refusal, ◌then◌}
use Rattle.spec_protocol.specs.Checks.{require}
use Rattle.spec_protocol.specs.Parameters.{Parameters, parameters}
use Rattle.spec_protocol.specs.Layout.{Section, span, layout, ranged, job_refusal, scratch_refusal, scratch_need}
use Rattle.spec_protocol.proofs.Fine.{require-holds, require_fails, required, refused_not-fine, then_fine_left, then_fine_right}
use Rattle.spec_protocol.proofs.Sections.{one_span}
use Rattle.spec_protocol.specs.Laid.{Laid}
use Rattle.spec_protocol.proofs.Laid.{laid}
use Rattle.layout_sections.proofs.Then.{stops, goes_on}
use Rattle.relation_env_params.specs.declared.env_params.EnvironmentParameters.{EnvironmentParameters}
use Rattle.relation_env_params.specs.Parameters.{parameters_of}
use Rattle.layout_sizes.specs.Sizes.{Sized}
use Rattle.layout_sizes.proofs.Sized.{sized}
use Rattle.admission_slices.proofs.Stages.{stops_at}
use Rattle.admission_slices.proofs.Fit.{refusal_none}
use Rattle.admission_slices.proofs.Ready.{job-sound, job-laid}
use Rattle.admission_buffers.specs.Lengths.{short_output}
use Rattle.shed_admission.specs.Found.{one_refusal, lent, given}
use Rattle.spec_sheds.specs.Runs.{Run, size, projection_section, vectors_section, p_section, rows_section, run_refusal, projection_refusal, vectors_refusal, lent_refusal}
use Rattle.spec_sheds.specs.Runs.{project_refusal, rows_refusal}
use Rattle.shed_admission.specs.declared.admission.RunRefusal.{RunRefusal}
use Rattle.shed_admission.specs.declared.admission.RunRefusal.TheVariants as R
use Rattle.shed_admission.specs.Admitted.{of_run_refusal, InJob, Runnable, Projectable}

-- a run's place in a job
module _ (J : List ℕ) (x : Run) where
  P : Parameters
  P = parameters J

  pub job_refuses : (r : Refusal) → of_refusal r ≡ job_refusal J → of_refusal r ≡ job_refusal J then run_refusal (parameters J) x
  job_refuses r e = stops_at r (run_refusal (parameters J) x) e

  module _ (params : EnvironmentParameters) (same : parameters_of params ≡ parameters J) (j : fine ≡ job_refusal J) where
    pub run_empty : x.end ≤ x.first → refused 34 x.first ≡ job_refusal J then run_refusal (parameters J) x
    unfolding run_refusal
    run_empty h = goes_on j (stops (require (dec_le x.end (parameters J).r) (refused 34 x.first)) (sym (require_fails (dec_lt x.first x.end) (refused 34 x.first) (λ g. omega arith))))

    pub run_past : x.first < x.end → params.multiplicity < x.end → refused 34 x.first ≡ job_refusal J then run_refusal (parameters J) x
    unfolding run_refusal
    run_past a h =
        let r : params.multiplicity ≡ (parameters J).r = ap (λ Q. Q.r) same in
        goes_on j
        (goes_on (sym (require-holds (dec_lt x.first x.end) (refused 34 x.first) a))
        (sym (require_fails (dec_le x.end (parameters J).r) (refused 34 x.first) (λ g. omega arith))))

    pub run_fits : x.first < x.end → x.end ≤ params.multiplicity → (fine ≡ job_refusal J then run_refusal (parameters J) x) × InJob J x params
    unfolding run_refusal
    run_fits a h =
        let r : params.multiplicity ≡ (parameters J).r = ap (λ Q. Q.r) same in
        let b : x.end ≤ (parameters J).r = omega arith in (
          goes_on j (goes_on (sym (require-holds (dec_lt x.first x.end) (refused 34 x.first) a)) (sym (require-holds (dec_le x.end (parameters J).r) (refused 34 x.first) b))),
          record { same = same; sound = job-sound J (sym j); job = job-laid J (sym j); some = a; within = b },
        )

-- a refusal of a call on a run is the answer, whatever follows
pub run_stops : (r : RunRefusal) {a : Answer} (b : Answer) → of_run_refusal r ≡ a → of_run_refusal r ≡ a then b
run_stops (R.Refused r) b e = stops_at r b e
run_stops (R.Outside first) b e = stops b e

-- and its result is none
pub run_refusal_none : {A : Type 0} (r : RunRefusal) (value none : A) → none ≡ result_of (of_run_refusal r) value none
run_refusal_none (R.Refused r) value none = refusal_none r value none
run_refusal_none (R.Outside first) value none = refl

-- a run within a job: few vectors, few words
module _ {J : List ℕ} {x : Run} {params : EnvironmentParameters} (h : InJob J x params) where
  pub run-sized : Sized (parameters_of params)
  run-sized = sized J (parameters_of params) h.sound h.same

  pub few : size x ≤ 16
  few = omega (arith, h.within, h.sound.within.r.1)

  pub few-vectors : params.rank * size x ≤ 1024
  few-vectors = mul-le-mul run-sized.within.n.1 few

  pub few-rows : size x * params.kappa ≤ 256
  few-rows = mul-le-mul few run-sized.within.κ.1

-- one section of a slice that is refused nothing
one-laid : (a b : ℕ) (ws : List ℕ) (ss : List Section) → layout a ws 0 ss then ranged b ws 0 ss ≡ fine → Laid ws 0 ss
one-laid a b ws ss e = laid a b ws 0 ss (omega arith) (then_fine_left (layout a ws 0 ss) (ranged b ws 0 ss) e) (then_fine_right (layout a ws 0 ss) (ranged b ws 0 ss) e)

-- vectors and buffers that are refused nothing
lent_runs : (J : List ℕ) (x : Run) (S : List ℕ) (scratch : ℕ) (made : List Section) (output : ℕ) (params : EnvironmentParameters) → InJob J x params
    → lent_refusal (parameters J) x S scratch made output ≡ fine → Runnable J x S scratch made output params
unfolding lent_refusal vectors_refusal
lent_runs J x S scratch made output params h e =
    let P = parameters J in
    let v = vectors_refusal P x S in
    let s = scratch_refusal P scratch in
    let o = require (dec_le (span made) output) (refused 2 (span made)) in
    let two = then_fine_left (v then s) o e in
    record {
      given = record {
        in_job = h;
        vectors = one-laid 11 12 S (vectors_section P x) (then_fine_left v s two);
        output_fits = required (dec_le (span made) output) (refused 2 (span made)) (refused_not-fine 2 (span made)) (then_fine_right (v then s) o e);
      };
      scratch_fits = required (dec_le (scratch_need P) scratch) (refused 1 (scratch_need P)) (refused_not-fine 1 (scratch_need P)) (then_fine_right v s two);
    }

-- the call that gives a run's p
module _ (J : List ℕ) (x : Run) (Π S : List ℕ) (scratch output : ℕ) where
  abbrev before : Answer
  before = job_refusal J then run_refusal (parameters J) x

  pub project_stops : (r : RunRefusal) → of_run_refusal r ≡ before → of_run_refusal r ≡ project_refusal J x Π S scratch output
  unfolding project_refusal
  project_stops r e = run_stops r (lent_refusal (parameters J) x S scratch p_section output) (run_stops r (projection_refusal (parameters J) x Π) e)

  module _ (params : EnvironmentParameters) (h : InJob J x params) (j : fine ≡ before) where
    pub project_answers : {z : Answer} → z ≡ given (parameters_of params) (16384 * params.rank * size x) Π (64 * (size x * params.rank)) S scratch output → z ≡ project_refusal J x Π S scratch output
    unfolding project_refusal given one_refusal lent short_output projection_refusal lent_refusal vectors_refusal span
    project_answers e =
        e
        ∙ ap (λ Q. given Q (16384 * Q.n * size x) Π (64 * (size x * Q.n)) S scratch output) h.same
        ∙ ap (λ a. a then projection_refusal (parameters J) x Π then lent_refusal (parameters J) x S scratch p_section output) j

    pub projectable : fine ≡ project_refusal J x Π S scratch output → Projectable J x Π S scratch output params
    unfolding project_refusal projection_refusal
    projectable e =
        let P = parameters J in
        let q = projection_refusal P x Π in
        let l = lent_refusal P x S scratch p_section output in
        record {
          runnable = lent_runs J x S scratch p_section output params h (then_fine_right (before then q) l (sym e));
          projection = one-laid 7 8 Π (projection_section P x) (then_fine_right before q (then_fine_left (before then q) l (sym e)));
        }

-- the call that gives a run's rows of t
module _ (J : List ℕ) (x : Run) (S : List ℕ) (scratch output : ℕ) where
  abbrev before' : Answer
  before' = job_refusal J then run_refusal (parameters J) x

  pub rows_stops : (r : RunRefusal) → of_run_refusal r ≡ before' → of_run_refusal r ≡ rows_refusal J x S scratch output
  unfolding rows_refusal
  rows_stops r e = run_stops r (lent_refusal (parameters J) x S scratch (rows_section (parameters J) x) output) e

  module _ (params : EnvironmentParameters) (h : InJob J x params) (j : fine ≡ before') where
    pub rows-answers : {z : Answer} → z ≡ lent (parameters_of params) (64 * (size x * params.rank)) S scratch (1 + 64 * (size x * params.kappa)) output → z ≡ rows_refusal J x S scratch output
    unfolding rows_refusal one_refusal lent short_output lent_refusal vectors_refusal
    rows-answers e =
        let P = parameters J in
        let need : 1 + 64 * (size x * P.κ) ≡ span (rows_section P x) = one_span (64 * (size x * P.κ)) in
        e
        ∙ ap (λ Q. lent Q (64 * (size x * Q.n)) S scratch (1 + 64 * (size x * Q.κ)) output) h.same
        ∙ ap (λ n. lent P (64 * (size x * P.n)) S scratch n output) need
        ∙ ap (λ a. a then lent_refusal P x S scratch (rows_section P x) output) j

    pub rows-runnable : fine ≡ rows_refusal J x S scratch output → Runnable J x S scratch (rows_section (parameters J) x) output params
    unfolding rows_refusal
    rows-runnable e =
        let P = parameters J in
        lent_runs J x S scratch (rows_section P x) output params h (then_fine_right before' (lent_refusal P x S scratch (rows_section P x) output) (sym e))
