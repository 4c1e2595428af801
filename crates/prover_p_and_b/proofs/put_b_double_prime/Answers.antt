-- `put_b_double_prime` meets its contract: the section is b'' of its region.
use mathlib.Core.Path.{◌≡◌, refl, ap, ◌∙◌}
use mathlib.Core.List.{[], ◌∷◌}
use Prim.Native.Nat.{ℕ, ◌+◌, ◌*◌, ◌≤◌, ◌<◌, ◌^◌}
use native.Mathlib.Omega.{arith}
use lib.ListN.{length}
use Rattle.math.specs.lists.Part.{splice}
use Rattle.math.proofs.lists.Splice.{length-splice, length_part}
use Rattle.spec_protocol.specs.Layout.{sections}
use Rattle.relation_env_params.specs.Parameters.{parameters_of}
use Rattle.prover_p_and_b.specs.Sections.{b''_in}
use Rattle.prover_p_and_b.proofs.TranscriptSections.{next_place, section_copied}
use Rattle.prover_p_and_b.proofs.SectionRoom.{few_words, fits_words, section_room, fits_next, fits_end}
use Rattle.prover_p_and_b.proofs.put_b_double_prime.Goals.{After-put_section, Start}
use Rattle.prover_p_and_b.proofs.put_b_double_prime.Goals as goal

-- the output's length fits
long : (c : Start) → length c.args.output.now < 2 ^ 64
long c = omega arith

-- the section's words, and their room
size : (c : Start) → length (b''_in (parameters_of c.args.params) c.args.regions c.args.scratch.now) ≡ 64 * c.args.params.const_agg_length
size c = length_part c.args.scratch.now c.args.regions.b2 (64 * c.args.params.const_agg_length) c.requires.0.b''

room : (c : Start) → c.args.at + 1 + 64 * c.args.params.const_agg_length ≤ length c.args.output.now
room c =
    section_room c.args.at (64 * c.args.params.const_agg_length) (b''_in (parameters_of c.args.params) c.args.regions c.args.scratch.now) c.args.output.now (size c)
    c.requires.1

few : (c : Start) → c.args.params.const_agg_length ≤ 1024
few c = up c.args.params.const_agg_length c.requires.0.sized.within.L.1
  where
    up : (k : ℕ) → k ≤ 32 → k ≤ 1024
    up k h = omega arith

-- the section stands in its place
stored : (c : After-put_section)
    → c.put_section.new.to ≡ splice c.args.output.now c.args.at (sections (b''_in (parameters_of c.args.params) c.args.regions c.args.scratch.now ∷ []))
stored c =
    section_copied c.args.output.now c.put_section.new.to c.args.scratch.now c.args.at c.args.regions.b2 (64 * c.args.params.const_agg_length)
    _ c.put_section.ensures refl (size c.before.before.before.before.before.before)

pub overflow_mul-count : goal.overflow_mul-count
overflow_mul-count c =
    let i = (goal.at.overflow_mul-count c).Start in fits_words c.args.params.const_agg_length (few i)

pub put_section-requires : goal.put_section-requires
put_section-requires c =
    let i = (goal.at.put_section-requires c).Start in
    (room i, c.requires.0.b'', few_words c.args.params.const_agg_length (few i))

pub overflow_add-result : goal.overflow_add-result
overflow_add-result c =
    let i = (goal.at.overflow_add-result c).Start in
    fits_next c.args.at (64 * c.args.params.const_agg_length) (length c.args.output.now) (room i) (long i)

pub overflow_add-result-2 : goal.overflow_add-result-2
overflow_add-result-2 c =
    let i = (goal.at.overflow_add-result-2 c).Start in
    fits_end c.args.at (64 * c.args.params.const_agg_length) (length c.args.output.now) (room i) (long i)

pub shape_of-output : goal.shape_of-output
shape_of-output c = ap length (stored (goal.at.shape_of-output c).After-put_section) ∙ length-splice _ _ _

pub returns : goal.returns
returns c =
    let i = (goal.at.returns c).Start in
    (next_place c.args.at (64 * c.args.params.const_agg_length) (b''_in (parameters_of c.args.params) c.args.regions c.args.scratch.now) (size i), stored (goal.at.returns c).After-put_section)
