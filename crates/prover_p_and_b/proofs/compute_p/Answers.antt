-- `compute_p` meets its contract: the section is the projection of all witness vectors.
use mathlib.Core.Path.{◌≡◌, ap, ◌∙◌}
use mathlib.Core.List.{[], ◌∷◌}
use Prim.Native.Nat.{ℕ, ◌+◌, ◌*◌, ◌≤◌, ◌<◌, ◌^◌}
use native.Mathlib.Omega.{arith}
use borrow.Author.Rules.{scaled_Fits}
use lib.ListN.{length}
use Rattle.math.specs.lists.Part.{splice}
use Rattle.math.proofs.lists.Splice.{length-splice}
use Rattle.spec_protocol.specs.Layout.{sections}
use Rattle.relation_env_params.specs.Parameters.{parameters_of}
use Rattle.prover_p_and_b.specs.Sections.{p_in}
use Rattle.math.proofs.lists.Table.{length-table}
use Rattle.core_jl.specs.Run as Jl
use Rattle.prover_p_and_b.proofs.TranscriptSections.{next_place, section_stored}
use Rattle.prover_p_and_b.proofs.SectionRoom.{section_room, count_room, words-room, fits_next, p-room}
use Rattle.prover_p_and_b.proofs.compute_p.Goals.{After-project_run, Start}
use Rattle.prover_p_and_b.proofs.compute_p.Goals as goal

-- the output's length fits, and its bytes too
long : (c : Start) → length c.args.output.now < 2 ^ 64
long c = omega arith

bytes : (c : Start) → length c.args.output.now * 4 < 2 ^ 63
bytes c = omega arith

-- the section's words, and their room
size : (c : Start) → length (p_in (parameters_of c.args.params) c.args.randomness.now c.args.witness.now) ≡ 256
size c = length-table 256 _

room : (c : Start) → c.args.at + 1 + 256 ≤ length c.args.output.now
room c = section_room c.args.at 256 (p_in (parameters_of c.args.params) c.args.randomness.now c.args.witness.now) c.args.output.now (size c) c.requires.1

-- the section stands in its place
stored : (c : After-project_run)
    → c.project_run.new.out ≡ splice c.args.output.now c.args.at
    (sections (p_in (parameters_of c.args.params) c.args.randomness.now c.args.witness.now ∷ []))
stored c =
    section_stored c.args.output.now c.project_run.new.out c.args.at 256
    (p_in (parameters_of c.args.params) c.args.randomness.now c.args.witness.now) _ c.project_run.ensures
    (ap (λ a. Jl.run c.args.randomness.now a c.args.witness.now 1 c.args.params.rank 0 c.args.params.multiplicity) c.of_randomness-pi_at.ensures)
    (size c.before.before.before.before.before.before.before)

-- the place after the section
last : (at n : ℕ) → at + 1 + 256 ≤ n → n < 2 ^ 64 → at + 257 < 2 ^ 64
last at n h f = omega arith

turned : (at : ℕ) → at + 257 ≡ at + 1 + 256
turned at = omega arith

pub of_randomness-pi_at-requires : goal.of_randomness-pi_at-requires
of_randomness-pi_at-requires c =
    (c.requires.0.sized, omega arith)

pub offset_bounds-output-at : goal.offset_bounds-output-at
offset_bounds-output-at c =
    let i = (goal.at.offset_bounds-output-at c).Start in
    scaled_Fits c.args.at (length c.args.output.now) 4 (count_room c.args.at 256 (length c.args.output.now) (room i)) (bytes i)

pub bounds-output-at : goal.bounds-output-at
bounds-output-at c =
    let i = (goal.at.bounds-output-at c).Start in
    count_room c.args.at 256 (length c.args.output.now) (room i)

pub overflow_add-at : goal.overflow_add-at
overflow_add-at c =
    let i = (goal.at.overflow_add-at c).Start in
    fits_next c.args.at 256 (length c.args.output.now) (room i) (long i)

pub project_run-requires : goal.project_run-requires
project_run-requires c =
    let i = (goal.at.project_run-requires c).Start in (
      p-room c.args.params c.args.randomness.now c.args.witness.now c.requires.0 c.of_randomness-pi_at.result c.of_randomness-pi_at.ensures,
      words-room c.args.at 256 256 c.args.output.now (room i),
    )

pub overflow_add-result : goal.overflow_add-result
overflow_add-result c =
    let i = (goal.at.overflow_add-result c).Start in
    record { fits = last c.args.at (length c.args.output.now) (room i) (long i) }

pub shape_of-output : goal.shape_of-output
shape_of-output c = ap length (stored (goal.at.shape_of-output c).After-project_run) ∙ length-splice _ _ _

pub returns : goal.returns
returns c =
    let i = (goal.at.returns c).Start in
    (turned c.args.at ∙ next_place c.args.at 256 (p_in (parameters_of c.args.params) c.args.randomness.now c.args.witness.now) (size i), stored (goal.at.returns c).After-project_run)
