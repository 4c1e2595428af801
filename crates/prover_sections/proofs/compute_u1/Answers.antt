-- `compute_u1` meets its contract: the section is B times the digits of t and C times those of g.
use mathlib.Core.Path.{◌≡◌, ap, ◌∙◌}
use mathlib.Core.List.{[], ◌∷◌}
use Prim.Native.Nat.{ℕ, ◌+◌, ◌*◌, ◌≤◌, ◌<◌, ◌^◌}
use native.Mathlib.Omega.{arith}
use borrow.Author.Rules.{scaled_Fits}
use lib.ListN.{length}
use Rattle.math.specs.lists.Part.{splice}
use Rattle.math.proofs.lists.Splice.{length-splice}
use Rattle.spec_protocol.specs.Layout.{sections}
use Rattle.spec_protocol.proofs.Flat.{length-flat-table}
use Rattle.relation_env_params.specs.Parameters.{parameters_of}
use Rattle.prover_sections.specs.Sections.{u₁_in}
use Rattle.core_workspace.proofs.Ready.{ready-sized}
use Rattle.prover_sections.proofs.SectionMade.{u₁-stored}
use Rattle.prover_p_and_b.proofs.TranscriptSections.{next_place, section_stored}
use Rattle.prover_commit.proofs.Room.{fits_product, placed, base-room, B-room, C-room, t_cells, triangle-cells}
use Rattle.prover_p_and_b.proofs.SectionRoom.{fits_words, fits_count, section_room, count_room, words-room, fits_next, fits_end}
use Rattle.prover_sections.proofs.compute_u1.Goals.{After-compute_u1, Start}
use Rattle.prover_sections.proofs.compute_u1.Goals as goal

-- the output's length fits, and its bytes too
long : (c : Start) → length c.args.output.now < 2 ^ 64
long c = omega arith

bytes : (c : Start) → length c.args.output.now * 4 < 2 ^ 63
bytes c = omega arith

-- the section's words, and their room
size : (c : Start) → length (u₁_in (parameters_of c.args.params) c.args.regions c.args.scratch.now c.args.job.now) ≡ 64 * c.args.params.kappa_1
size c = length-flat-table c.args.params.kappa_1 _

room : (c : Start) → c.args.at + 1 + 64 * c.args.params.kappa_1 ≤ length c.args.output.now
room c = section_room c.args.at (64 * c.args.params.kappa_1) (u₁_in (parameters_of c.args.params) c.args.regions c.args.scratch.now c.args.job.now)
    c.args.output.now (size c) c.requires.1

few : (c : Start) → c.args.params.kappa_1 ≤ 1024
few c = up c.args.params.kappa_1 (ready-sized c.args.job.now c.args.params c.args.regions c.args.scratch.now c.requires.0).within.κ₁.1
  where
    up : (k : ℕ) → k ≤ 16 → k ≤ 1024
    up k h = omega arith

-- the section stands in its place
stored : (c : After-compute_u1)
    → c.compute_u1.new.out ≡ splice c.args.output.now c.args.at
    (sections (u₁_in (parameters_of c.args.params) c.args.regions c.args.scratch.now c.args.job.now ∷ []))
stored c =
    section_stored c.args.output.now c.compute_u1.new.out c.args.at (64 * c.args.params.kappa_1)
    (u₁_in (parameters_of c.args.params) c.args.regions c.args.scratch.now c.args.job.now) _ c.compute_u1.ensures
    (u₁-stored (parameters_of c.args.params) c.args.regions c.args.scratch.now c.args.job.now _ _ _ c.of_job-b_at.ensures
    c.of_job-c_at.ensures c.triangle.ensures.0) (size c.before.before.before.before.before.before.before.before.before.before.before)

pub overflow_mul-t : goal.overflow_mul-t
overflow_mul-t c =
    fits_product c.args.params.multiplicity c.args.params.kappa
    (ready-sized c.args.job.now c.args.params c.args.regions c.args.scratch.now c.requires.0).within.r.1
    (ready-sized c.args.job.now c.args.params c.args.regions c.args.scratch.now c.requires.0).within.κ.1

pub triangle-requires : goal.triangle-requires
triangle-requires c =
    (ready-sized c.args.job.now c.args.params c.args.regions c.args.scratch.now c.requires.0).within.r.1

pub of_job-b_at-requires : goal.of_job-b_at-requires
of_job-b_at-requires c =
    (ready-sized c.args.job.now c.args.params c.args.regions c.args.scratch.now c.requires.0, omega arith)

pub of_job-c_at-requires : goal.of_job-c_at-requires
of_job-c_at-requires c =
    (ready-sized c.args.job.now c.args.params c.args.regions c.args.scratch.now c.requires.0, omega arith)

pub overflow_mul-count : goal.overflow_mul-count
overflow_mul-count c =
    let i = (goal.at.overflow_mul-count c).Start in
    fits_words c.args.params.kappa_1 (few i)

pub overflow_cast-output : goal.overflow_cast-output
overflow_cast-output c =
    let i = (goal.at.overflow_cast-output c).Start in
    fits_count c.args.params.kappa_1 (few i)

pub offset_bounds-output-at : goal.offset_bounds-output-at
offset_bounds-output-at c =
    let i = (goal.at.offset_bounds-output-at c).Start in
    scaled_Fits c.args.at (length c.args.output.now) 4 (count_room c.args.at (64 * c.args.params.kappa_1) (length c.args.output.now) (room i)) (bytes i)

pub bounds-output-at : goal.bounds-output-at
bounds-output-at c =
    let i = (goal.at.bounds-output-at c).Start in
    count_room c.args.at (64 * c.args.params.kappa_1) (length c.args.output.now) (room i)

pub overflow_add-at : goal.overflow_add-at
overflow_add-at c =
    let i = (goal.at.overflow_add-at c).Start in
    fits_next c.args.at (64 * c.args.params.kappa_1) (length c.args.output.now) (room i) (long i)

pub compute_u1-requires : goal.compute_u1-requires
compute_u1-requires c =
    let i = (goal.at.compute_u1-requires c).Start in
    let p = placed c.args.job.now c.args.params c.args.regions c.args.scratch.now c.requires.0 in
    let tri = c.triangle in (
      B-room c.args.job.now c.args.params c.args.regions c.args.scratch.now c.requires.0 c.of_job-b_at.result c.of_job-b_at.ensures,
      t_cells c.args.params c.args.regions c.args.scratch.now p,
      C-room c.args.job.now c.args.params c.args.regions c.args.scratch.now c.requires.0 c.of_job-c_at.result tri.result c.of_job-c_at.ensures tri.ensures.0,
      triangle-cells c.args.params c.args.regions.g c.args.params.t_2 tri.result c.args.scratch.now p.g p.sized.within.t₂.1 tri.ensures,
      base-room c.args.params c.args.regions c.args.scratch.now p,
      words-room c.args.at (64 * c.args.params.kappa_1) (64 * c.args.params.kappa_1) c.args.output.now (room i),
    )

pub overflow_add-result : goal.overflow_add-result
overflow_add-result c =
    let i = (goal.at.overflow_add-result c).Start in
    fits_next c.args.at (64 * c.args.params.kappa_1) (length c.args.output.now) (room i) (long i)

pub overflow_add-result-2 : goal.overflow_add-result-2
overflow_add-result-2 c =
    let i = (goal.at.overflow_add-result-2 c).Start in
    fits_end c.args.at (64 * c.args.params.kappa_1) (length c.args.output.now) (room i) (long i)

pub shape_of-output : goal.shape_of-output
shape_of-output c = ap length (stored (goal.at.shape_of-output c).After-compute_u1) ∙ length-splice _ _ _

pub returns : goal.returns
returns c =
    let i = (goal.at.returns c).Start in (
      next_place c.args.at (64 * c.args.params.kappa_1) (u₁_in (parameters_of c.args.params) c.args.regions c.args.scratch.now c.args.job.now)
          (size i),
      stored (goal.at.returns c).After-compute_u1,
    )
