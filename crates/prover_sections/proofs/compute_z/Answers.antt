-- `compute_z` meets its contract: the section is the sum of the witness vectors times the challenges.
use mathlib.Core.Path.{◌≡◌, refl, ap, ◌∙◌}
use mathlib.Core.List.{[], ◌∷◌}
use Prim.Native.Nat.{ℕ, ◌+◌, ◌*◌, ◌≤◌, ◌<◌, ◌^◌}
use native.Mathlib.Omega.{arith}
use borrow.Author.Rules.{scaled_Fits}
use lib.ListN.{length}
use Rattle.math.specs.lists.Part.{splice}
use Rattle.math.proofs.lists.Splice.{length-splice}
use Rattle.spec_protocol.specs.Layout.{sections}
use Rattle.spec_protocol.proofs.Flat.{length-flat-table}
use Rattle.relation_env_params.specs.Parameters.{parameters_of}
use Rattle.prover_sections.specs.Sections.{z_in}
use Rattle.prover_p_and_b.proofs.TranscriptSections.{next_place, section_stored}
use Rattle.prover_p_and_b.proofs.SectionRoom.{fits_words, fits_count, section_room, count_room, words-room, fits_next, fits_end}
use Rattle.prover_sections.proofs.compute_z.Goals.{After-compute_z, Start}
use Rattle.prover_sections.proofs.compute_z.Goals as goal

-- the output's length fits, and its bytes too
long : (c : Start) → length c.args.output.now < 2 ^ 64
long c = omega arith

bytes : (c : Start) → length c.args.output.now * 4 < 2 ^ 63
bytes c = omega arith

-- the section's words, and their room
size : (c : Start) → length (z_in (parameters_of c.args.params) c.args.regions c.args.scratch.now c.args.witness.now) ≡ 64 * c.args.params.rank
size c = length-flat-table c.args.params.rank _

room : (c : Start) → c.args.at + 1 + 64 * c.args.params.rank ≤ length c.args.output.now
room c =
    section_room c.args.at (64 * c.args.params.rank) (z_in (parameters_of c.args.params) c.args.regions c.args.scratch.now c.args.witness.now) c.args.output.now (size c)
    c.requires.3

few : (c : Start) → c.args.params.rank ≤ 1024
few c = up c.args.params.rank c.requires.0.sized.within.n.1
  where
    up : (k : ℕ) → k ≤ 64 → k ≤ 1024
    up k h = omega arith

-- the section stands in its place
stored : (c : After-compute_z)
    → c.compute_z.new.out ≡ splice c.args.output.now c.args.at
    (sections (z_in (parameters_of c.args.params) c.args.regions c.args.scratch.now c.args.witness.now ∷ []))
stored c =
    section_stored c.args.output.now c.compute_z.new.out c.args.at (64 * c.args.params.rank)
    (z_in (parameters_of c.args.params) c.args.regions c.args.scratch.now c.args.witness.now) _ c.compute_z.ensures
    refl (size c.before.before.before.before.before.before.before)

pub overflow_mul-count : goal.overflow_mul-count
overflow_mul-count c =
    let i = (goal.at.overflow_mul-count c).Start in
    fits_words c.args.params.rank (few i)

pub overflow_cast-output : goal.overflow_cast-output
overflow_cast-output c =
    let i = (goal.at.overflow_cast-output c).Start in
    fits_count c.args.params.rank (few i)

pub offset_bounds-output-at : goal.offset_bounds-output-at
offset_bounds-output-at c =
    let i = (goal.at.offset_bounds-output-at c).Start in
    scaled_Fits c.args.at (length c.args.output.now) 4 (count_room c.args.at (64 * c.args.params.rank) (length c.args.output.now) (room i)) (bytes i)

pub bounds-output-at : goal.bounds-output-at
bounds-output-at c =
    let i = (goal.at.bounds-output-at c).Start in
    count_room c.args.at (64 * c.args.params.rank) (length c.args.output.now) (room i)

pub overflow_add-at : goal.overflow_add-at
overflow_add-at c =
    let i = (goal.at.overflow_add-at c).Start in
    fits_next c.args.at (64 * c.args.params.rank) (length c.args.output.now) (room i) (long i)

pub compute_z-requires : goal.compute_z-requires
compute_z-requires c =
    let i = (goal.at.compute_z-requires c).Start in
    let l = c.requires.0.sized.within in (
      c.requires.1,
      c.requires.0.challenges,
      words-room c.args.at (64 * c.args.params.rank) (64 * c.args.params.rank) c.args.output.now (room i),
      l.r.1,
      l.n.1,
      c.requires.2,
    )

pub overflow_add-result : goal.overflow_add-result
overflow_add-result c =
    let i = (goal.at.overflow_add-result c).Start in
    fits_next c.args.at (64 * c.args.params.rank) (length c.args.output.now) (room i) (long i)

pub overflow_add-result-2 : goal.overflow_add-result-2
overflow_add-result-2 c =
    let i = (goal.at.overflow_add-result-2 c).Start in
    fits_end c.args.at (64 * c.args.params.rank) (length c.args.output.now) (room i) (long i)

pub shape_of-output : goal.shape_of-output
shape_of-output c = ap length (stored (goal.at.shape_of-output c).After-compute_z) ∙ length-splice _ _ _

pub returns : goal.returns
returns c =
    let i = (goal.at.returns c).Start in (
      next_place c.args.at (64 * c.args.params.rank) (z_in (parameters_of c.args.params) c.args.regions c.args.scratch.now c.args.witness.now)
          (size i),
      stored (goal.at.returns c).After-compute_z,
    )
