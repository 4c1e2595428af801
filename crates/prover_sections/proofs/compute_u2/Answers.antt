-- `compute_u2` meets its contract: the section is D times the digits of h of its region.
use mathlib.Core.Path.{◌≡◌, ap, ◌∙◌}
use mathlib.Core.List.{[], ◌∷◌}
use Prim.Native.Nat.{ℕ, ◌+◌, ◌*◌, ◌≤◌, ◌<◌, ◌^◌}
use native.Mathlib.Omega.{arith}
use borrow.Author.Rules.{scaled_Fits}
use lib.ListN.{length}
use Rattle.math.specs.lists.Part.{splice}
use Rattle.math.proofs.lists.Splice.{length-splice}
use Rattle.spec_protocol.specs.Layout.{sections}
use Rattle.spec_protocol.proofs.Flat.{length-flat-table}
use Rattle.relation_env_params.specs.Parameters.{parameters_of}
use Rattle.prover_sections.specs.Sections.{u₂_in}
use Rattle.core_workspace.proofs.Ready.{ready-sized}
use Rattle.prover_sections.proofs.SectionMade.{u₂-stored}
use Rattle.prover_p_and_b.proofs.TranscriptSections.{next_place, section_stored}
use Rattle.prover_commit.proofs.Room.{placed, base-room, D-room, triangle-cells}
use Rattle.prover_p_and_b.proofs.SectionRoom.{fits_words, fits_count, section_room, count_room, words-room, fits_next, fits_end}
use Rattle.prover_sections.proofs.compute_u2.Goals.{After-compute_u2, Start}
use Rattle.prover_sections.proofs.compute_u2.Goals as goal

-- the output's length fits, and its bytes too
long : (c : Start) → length c.args.output.now < 2 ^ 64
long c = omega arith

bytes : (c : Start) → length c.args.output.now * 4 < 2 ^ 63
bytes c = omega arith

-- the section's words, and their room
size : (c : Start) → length (u₂_in (parameters_of c.args.params) c.args.regions c.args.scratch.now c.args.job.now) ≡ 64 * c.args.params.kappa_2
size c = length-flat-table c.args.params.kappa_2 _

room : (c : Start) → c.args.at + 1 + 64 * c.args.params.kappa_2 ≤ length c.args.output.now
room c = section_room c.args.at (64 * c.args.params.kappa_2) (u₂_in (parameters_of c.args.params) c.args.regions c.args.scratch.now c.args.job.now)
    c.args.output.now (size c) c.requires.1

few : (c : Start) → c.args.params.kappa_2 ≤ 1024
few c = up c.args.params.kappa_2 (ready-sized c.args.job.now c.args.params c.args.regions c.args.scratch.now c.requires.0).within.κ₂.1
  where
    up : (k : ℕ) → k ≤ 16 → k ≤ 1024
    up k h = omega arith

-- the section stands in its place
stored : (c : After-compute_u2)
    → c.compute_u2.new.out ≡ splice c.args.output.now c.args.at
    (sections (u₂_in (parameters_of c.args.params) c.args.regions c.args.scratch.now c.args.job.now ∷ []))
stored c =
    section_stored c.args.output.now c.compute_u2.new.out c.args.at (64 * c.args.params.kappa_2)
    (u₂_in (parameters_of c.args.params) c.args.regions c.args.scratch.now c.args.job.now) _ c.compute_u2.ensures
    (u₂-stored (parameters_of c.args.params) c.args.regions c.args.scratch.now c.args.job.now _ _ c.of_job-d_at.ensures
    c.triangle.ensures.0) (size c.before.before.before.before.before.before.before.before.before)

pub triangle-requires : goal.triangle-requires
triangle-requires c =
    (ready-sized c.args.job.now c.args.params c.args.regions c.args.scratch.now c.requires.0).within.r.1

pub of_job-d_at-requires : goal.of_job-d_at-requires
of_job-d_at-requires c =
    (ready-sized c.args.job.now c.args.params c.args.regions c.args.scratch.now c.requires.0, omega arith)

pub overflow_mul-count : goal.overflow_mul-count
overflow_mul-count c =
    let i = (goal.at.overflow_mul-count c).Start in
    fits_words c.args.params.kappa_2 (few i)

pub overflow_cast-output : goal.overflow_cast-output
overflow_cast-output c =
    let i = (goal.at.overflow_cast-output c).Start in
    fits_count c.args.params.kappa_2 (few i)

pub offset_bounds-output-at : goal.offset_bounds-output-at
offset_bounds-output-at c =
    let i = (goal.at.offset_bounds-output-at c).Start in
    scaled_Fits c.args.at (length c.args.output.now) 4 (count_room c.args.at (64 * c.args.params.kappa_2) (length c.args.output.now) (room i)) (bytes i)

pub bounds-output-at : goal.bounds-output-at
bounds-output-at c =
    let i = (goal.at.bounds-output-at c).Start in
    count_room c.args.at (64 * c.args.params.kappa_2) (length c.args.output.now) (room i)

pub overflow_add-at : goal.overflow_add-at
overflow_add-at c =
    let i = (goal.at.overflow_add-at c).Start in
    fits_next c.args.at (64 * c.args.params.kappa_2) (length c.args.output.now) (room i) (long i)

pub compute_u2-requires : goal.compute_u2-requires
compute_u2-requires c =
    let i = (goal.at.compute_u2-requires c).Start in
    let p = placed c.args.job.now c.args.params c.args.regions c.args.scratch.now c.requires.0 in (
      D-room c.args.job.now c.args.params c.args.regions c.args.scratch.now c.requires.0 c.of_job-d_at.result c.triangle.result c.of_job-d_at.ensures
          c.triangle.ensures.0,
      triangle-cells c.args.params c.args.regions.a_or_h c.args.params.t_1 c.triangle.result c.args.scratch.now p.h p.sized.within.t₁.1 c.triangle.ensures,
      base-room c.args.params c.args.regions c.args.scratch.now p,
      words-room c.args.at (64 * c.args.params.kappa_2) (64 * c.args.params.kappa_2) c.args.output.now (room i),
    )

pub overflow_add-result : goal.overflow_add-result
overflow_add-result c =
    let i = (goal.at.overflow_add-result c).Start in
    fits_next c.args.at (64 * c.args.params.kappa_2) (length c.args.output.now) (room i) (long i)

pub overflow_add-result-2 : goal.overflow_add-result-2
overflow_add-result-2 c =
    let i = (goal.at.overflow_add-result-2 c).Start in
    fits_end c.args.at (64 * c.args.params.kappa_2) (length c.args.output.now) (room i) (long i)

pub shape_of-output : goal.shape_of-output
shape_of-output c = ap length (stored (goal.at.shape_of-output c).After-compute_u2) ∙ length-splice _ _ _

pub returns : goal.returns
returns c =
    let i = (goal.at.returns c).Start in (
      next_place c.args.at (64 * c.args.params.kappa_2) (u₂_in (parameters_of c.args.params) c.args.regions c.args.scratch.now c.args.job.now)
          (size i),
      stored (goal.at.returns c).After-compute_u2,
    )
