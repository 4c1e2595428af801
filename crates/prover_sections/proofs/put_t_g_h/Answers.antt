-- `put_t_g_h` meets its contract: the sections are t, g and h of their regions.
use mathlib.Core.Path.{◌≡◌, refl, sym, ap, subst, ◌∙◌}
use mathlib.Core.List.{List, [], ◌∷◌}
use Prim.Native.Nat.{ℕ, ◌+◌, ◌*◌, ◌≤◌, ◌<◌, ◌^◌}
use native.Mathlib.Omega.{arith}
use lib.ListN.{length}
use Rattle.math.specs.lists.Part.{splice}
use Rattle.math.proofs.lists.Splice.{length-splice, length_part}
use Rattle.spec_protocol.specs.Layout.{sections}
use Rattle.spec_protocol.specs.Parameters.{T}
use Rattle.relation_env_params.specs.Parameters.{parameters_of}
use Rattle.prover_sections.specs.Sections.{t_in, g_in, h_in}
use Rattle.prover_p_and_b.proofs.TranscriptSections.{next_place, section_copied, section_after, length-one, length-sections-append}
use Rattle.prover_commit.proofs.Room.{small_product, fits_product}
use Rattle.prover_p_and_b.proofs.SectionRoom.{few_words, fits_words, fits_next, fits_end, sections-room, sections-end, room_1, room_2}
use Rattle.prover_sections.proofs.put_t_g_h.Goals.{After-put_section, After-put_section-2, After-put_section-3, After-triangle-count, Start}
use Rattle.prover_sections.proofs.put_t_g_h.Goals as goal

-- the output's length fits
long : (c : Start) → length c.args.output.now < 2 ^ 64
long c = omega arith

-- the words of t
t-size : (c : Start) → length (t_in (parameters_of c.args.params) c.args.regions c.args.scratch.now) ≡ 64 * (c.args.params.multiplicity * c.args.params.kappa)
t-size c = length_part c.args.scratch.now c.args.regions.t (64 * (c.args.params.multiplicity * c.args.params.kappa)) c.requires.0.t

-- few cells
t-few : (c : Start) → c.args.params.multiplicity * c.args.params.kappa ≤ 1024
t-few c =
    up (c.args.params.multiplicity * c.args.params.kappa)
    (small_product c.args.params.multiplicity c.args.params.kappa c.requires.0.sized.within.r.1 c.requires.0.sized.within.κ.1)
  where
    up : (k : ℕ) → k ≤ 256 → k ≤ 1024
    up k h = omega arith

few : (n : ℕ) → n ≤ 136 → n ≤ 1024
few n h = omega arith

-- the words of g and of h
g-size : (c : After-triangle-count) → length (g_in (parameters_of c.args.params) c.args.regions c.args.scratch.now) ≡ 64 * c.triangle-count.result
g-size c = length_part c.args.scratch.now c.args.regions.g (64 * T (parameters_of c.args.params)) c.requires.0.g
    ∙ ap (λ n. 64 * n) (sym c.triangle-count.ensures.0)

h-size : (c : After-triangle-count) → length (h_in (parameters_of c.args.params) c.args.regions c.args.scratch.now) ≡ 64 * c.triangle-count.result
h-size c = length_part c.args.scratch.now c.args.regions.a_or_h (64 * T (parameters_of c.args.params)) c.requires.0.h
    ∙ ap (λ n. 64 * n) (sym c.triangle-count.ensures.0)

-- the room of the three
room : (c : After-triangle-count)
    → c.args.at + 1 + 64 * (c.args.params.multiplicity * c.args.params.kappa) + 1 + 64 * c.triangle-count.result + 1 + 64 * c.triangle-count.result ≤ length c.args.output.now
room c =
    sections-room c.args.at (64 * (c.args.params.multiplicity * c.args.params.kappa)) (64 * c.triangle-count.result)
    (t_in (parameters_of c.args.params) c.args.regions c.args.scratch.now) (g_in (parameters_of c.args.params) c.args.regions c.args.scratch.now)
    (h_in (parameters_of c.args.params) c.args.regions c.args.scratch.now) c.args.output.now
    (length_part c.args.scratch.now c.args.regions.t (64 * (c.args.params.multiplicity * c.args.params.kappa)) c.requires.0.t) (g-size c) (h-size c) c.requires.1

-- t stands in its place
first : (c : After-put_section)
    → c.put_section.new.to ≡ splice c.args.output.now c.args.at (sections (t_in (parameters_of c.args.params) c.args.regions c.args.scratch.now ∷ []))
first c =
    section_copied c.args.output.now c.put_section.new.to c.args.scratch.now c.args.at c.args.regions.t
    (64 * (c.args.params.multiplicity * c.args.params.kappa)) _ c.put_section.ensures refl
    (length_part c.args.scratch.now c.args.regions.t (64 * (c.args.params.multiplicity * c.args.params.kappa)) c.requires.0.t)

-- a section within what a store left
within : (o o' : List ℕ) (at : ℕ) (ws : List ℕ) (n : ℕ) → o' ≡ splice o at ws → n ≤ length o → n ≤ length o'
within o o' at ws n e h = subst (λ k. n ≤ k) (sym (ap length e ∙ length-splice o at ws)) h

-- g stands after it
second : (c : After-put_section-2)
    → c.put_section-2.new.to ≡ splice c.args.output.now c.args.at
    (sections (t_in (parameters_of c.args.params) c.args.regions c.args.scratch.now ∷ g_in (parameters_of c.args.params) c.args.regions c.args.scratch.now ∷ []))
second c =
    section_after c.args.output.now c.put_section.new.to c.put_section-2.new.to c.args.at
    (c.args.at + 1 + 64 * (c.args.params.multiplicity * c.args.params.kappa)) (t_in (parameters_of c.args.params) c.args.regions c.args.scratch.now ∷ [])
    (g_in (parameters_of c.args.params) c.args.regions c.args.scratch.now ∷ [])
    (section_copied c.args.output.now c.put_section.new.to c.args.scratch.now c.args.at c.args.regions.t (64 * (c.args.params.multiplicity * c.args.params.kappa)) _ c.put_section.ensures
    refl (length_part c.args.scratch.now c.args.regions.t (64 * (c.args.params.multiplicity * c.args.params.kappa)) c.requires.0.t))
    (section_copied c.put_section.new.to c.put_section-2.new.to c.args.scratch.now
    (c.args.at + 1 + 64 * (c.args.params.multiplicity * c.args.params.kappa)) c.args.regions.g (64 * c.triangle-count.result) _ c.put_section-2.ensures
    (ap (λ n. 64 * n) c.triangle-count.ensures.0) (length_part c.args.scratch.now c.args.regions.g (64 * T (parameters_of c.args.params)) c.requires.0.g
    ∙ ap (λ n. 64 * n) (sym c.triangle-count.ensures.0)))
    (next_place c.args.at (64 * (c.args.params.multiplicity * c.args.params.kappa)) (t_in (parameters_of c.args.params) c.args.regions c.args.scratch.now)
    (length_part c.args.scratch.now c.args.regions.t (64 * (c.args.params.multiplicity * c.args.params.kappa)) c.requires.0.t))

-- the place after t and g
two : (at a b : ℕ) (us vs : List ℕ) → length us ≡ a → length vs ≡ b → at + 1 + a + 1 + b ≡ at + length (sections (us ∷ vs ∷ []))
two at a b us vs e f = omega (arith, e, f, length-sections-append (us ∷ []) (vs ∷ []), length-one us, length-one vs)

-- h stands after them
stored : (c : After-put_section-3)
    → c.put_section-3.new.to ≡ splice c.args.output.now c.args.at
    (sections (t_in (parameters_of c.args.params) c.args.regions c.args.scratch.now ∷ g_in (parameters_of c.args.params) c.args.regions
    c.args.scratch.now ∷ h_in (parameters_of c.args.params) c.args.regions c.args.scratch.now ∷ []))
stored c =
    section_after c.args.output.now c.put_section-2.new.to c.put_section-3.new.to c.args.at
    (c.args.at + 1 + 64 * (c.args.params.multiplicity * c.args.params.kappa) + 1 + 64 * c.triangle-count.result)
    (t_in (parameters_of c.args.params) c.args.regions c.args.scratch.now ∷ g_in (parameters_of c.args.params) c.args.regions c.args.scratch.now ∷ [])
    (h_in (parameters_of c.args.params) c.args.regions c.args.scratch.now ∷ [])
    (section_after c.args.output.now c.put_section.new.to c.put_section-2.new.to c.args.at (c.args.at + 1 + 64 * (c.args.params.multiplicity * c.args.params.kappa))
    (t_in (parameters_of c.args.params) c.args.regions c.args.scratch.now ∷ []) (g_in (parameters_of c.args.params) c.args.regions c.args.scratch.now ∷ [])
    (section_copied c.args.output.now c.put_section.new.to c.args.scratch.now c.args.at c.args.regions.t (64 * (c.args.params.multiplicity * c.args.params.kappa)) _
    c.put_section.ensures refl (length_part c.args.scratch.now c.args.regions.t (64 * (c.args.params.multiplicity * c.args.params.kappa)) c.requires.0.t))
    (section_copied c.put_section.new.to c.put_section-2.new.to c.args.scratch.now (c.args.at + 1 + 64 * (c.args.params.multiplicity * c.args.params.kappa)) c.args.regions.g
    (64 * c.triangle-count.result) _ c.put_section-2.ensures (ap (λ n. 64 * n) c.triangle-count.ensures.0)
    (length_part c.args.scratch.now c.args.regions.g (64 * T (parameters_of c.args.params)) c.requires.0.g
    ∙ ap (λ n. 64 * n) (sym c.triangle-count.ensures.0))) (next_place c.args.at (64 * (c.args.params.multiplicity * c.args.params.kappa))
    (t_in (parameters_of c.args.params) c.args.regions c.args.scratch.now)
    (length_part c.args.scratch.now c.args.regions.t (64 * (c.args.params.multiplicity * c.args.params.kappa)) c.requires.0.t)))
    (section_copied c.put_section-2.new.to c.put_section-3.new.to c.args.scratch.now
    (c.args.at + 1 + 64 * (c.args.params.multiplicity * c.args.params.kappa) + 1 + 64 * c.triangle-count.result) c.args.regions.a_or_h (64 * c.triangle-count.result)
    _ c.put_section-3.ensures (ap (λ n. 64 * n) c.triangle-count.ensures.0) (length_part c.args.scratch.now c.args.regions.a_or_h (64 * T (parameters_of c.args.params)) c.requires.0.h
    ∙ ap (λ n. 64 * n) (sym c.triangle-count.ensures.0)))
    (two c.args.at (64 * (c.args.params.multiplicity * c.args.params.kappa)) (64 * c.triangle-count.result)
    (t_in (parameters_of c.args.params) c.args.regions c.args.scratch.now) (g_in (parameters_of c.args.params) c.args.regions c.args.scratch.now)
    (length_part c.args.scratch.now c.args.regions.t (64 * (c.args.params.multiplicity * c.args.params.kappa)) c.requires.0.t)
    (length_part c.args.scratch.now c.args.regions.g (64 * T (parameters_of c.args.params)) c.requires.0.g ∙ ap (λ n. 64 * n) (sym c.triangle-count.ensures.0)))

pub overflow_mul-cells : goal.overflow_mul-cells
overflow_mul-cells c =
    fits_product c.args.params.multiplicity c.args.params.kappa c.requires.0.sized.within.r.1 c.requires.0.sized.within.κ.1

pub overflow_mul-cells-2 : goal.overflow_mul-cells-2
overflow_mul-cells-2 c =
    let i = (goal.at.overflow_mul-cells-2 c).Start in
    fits_words (c.args.params.multiplicity * c.args.params.kappa) (t-few i)

pub triangle-count-requires : goal.triangle-count-requires
triangle-count-requires c =
    c.requires.0.sized.within.r.1

pub overflow_mul-count : goal.overflow_mul-count
overflow_mul-count c =
    fits_words c.triangle-count.result (few c.triangle-count.result c.triangle-count.ensures.1)

pub put_section-requires : goal.put_section-requires
put_section-requires c =
    let d = (goal.at.put_section-requires c).After-triangle-count in
    let i = (goal.at.put_section-requires c).Start in (
      room_1 c.args.at (64 * (c.args.params.multiplicity * c.args.params.kappa)) (64 * c.triangle-count.result) (length c.args.output.now) (room d),
      c.requires.0.t,
      few_words (c.args.params.multiplicity * c.args.params.kappa) (t-few i),
    )

pub put_section-requires-2 : goal.put_section-requires-2
put_section-requires-2 c =
    let d = (goal.at.put_section-requires-2 c).After-triangle-count in (
      within c.args.output.now _ c.args.at (sections (t_in (parameters_of c.args.params) c.args.regions c.args.scratch.now ∷ [])) _
          (first (goal.at.put_section-requires-2 c).After-put_section)
          (room_2 c.args.at (64 * (c.args.params.multiplicity * c.args.params.kappa)) (64 * c.triangle-count.result) (length c.args.output.now) (room d)),
      subst (λ k. c.args.regions.g + 64 * k ≤ length c.args.scratch.now) (sym c.triangle-count.ensures.0) c.requires.0.g,
      few_words c.triangle-count.result (few c.triangle-count.result c.triangle-count.ensures.1),
    )

pub put_section-requires-3 : goal.put_section-requires-3
put_section-requires-3 c =
    let d = (goal.at.put_section-requires-3 c).After-triangle-count in (
      within c.args.output.now _ c.args.at
          (sections (t_in (parameters_of c.args.params) c.args.regions c.args.scratch.now ∷ g_in (parameters_of c.args.params) c.args.regions
          c.args.scratch.now ∷ [])) _ (second (goal.at.put_section-requires-3 c).After-put_section-2) (room d),
      subst (λ k. c.args.regions.a_or_h + 64 * k ≤ length c.args.scratch.now) (sym c.triangle-count.ensures.0) c.requires.0.h,
      few_words c.triangle-count.result (few c.triangle-count.result c.triangle-count.ensures.1),
    )

pub overflow_add-g_at : goal.overflow_add-g_at
overflow_add-g_at c =
    let d = (goal.at.overflow_add-g_at c).After-triangle-count in
    let i = (goal.at.overflow_add-g_at c).Start in
    fits_next c.args.at (64 * (c.args.params.multiplicity * c.args.params.kappa)) (length c.args.output.now)
    (room_1 c.args.at (64 * (c.args.params.multiplicity * c.args.params.kappa)) (64 * c.triangle-count.result) (length c.args.output.now) (room d)) (long i)

pub overflow_add-g_at-2 : goal.overflow_add-g_at-2
overflow_add-g_at-2 c =
    let d = (goal.at.overflow_add-g_at-2 c).After-triangle-count in
    let i = (goal.at.overflow_add-g_at-2 c).Start in
    fits_end c.args.at (64 * (c.args.params.multiplicity * c.args.params.kappa)) (length c.args.output.now)
    (room_1 c.args.at (64 * (c.args.params.multiplicity * c.args.params.kappa)) (64 * c.triangle-count.result) (length c.args.output.now) (room d)) (long i)

pub overflow_add-h_at : goal.overflow_add-h_at
overflow_add-h_at c =
    let d = (goal.at.overflow_add-h_at c).After-triangle-count in
    let i = (goal.at.overflow_add-h_at c).Start in
    fits_next (c.args.at + 1 + 64 * (c.args.params.multiplicity * c.args.params.kappa)) (64 * c.triangle-count.result) (length c.args.output.now)
    (room_2 c.args.at (64 * (c.args.params.multiplicity * c.args.params.kappa)) (64 * c.triangle-count.result) (length c.args.output.now) (room d)) (long i)

pub overflow_add-h_at-2 : goal.overflow_add-h_at-2
overflow_add-h_at-2 c =
    let d = (goal.at.overflow_add-h_at-2 c).After-triangle-count in
    let i = (goal.at.overflow_add-h_at-2 c).Start in
    fits_end (c.args.at + 1 + 64 * (c.args.params.multiplicity * c.args.params.kappa)) (64 * c.triangle-count.result) (length c.args.output.now)
    (room_2 c.args.at (64 * (c.args.params.multiplicity * c.args.params.kappa)) (64 * c.triangle-count.result) (length c.args.output.now) (room d)) (long i)

pub overflow_add-result : goal.overflow_add-result
overflow_add-result c =
    let d = (goal.at.overflow_add-result c).After-triangle-count in
    let i = (goal.at.overflow_add-result c).Start in
    fits_next (c.args.at + 1 + 64 * (c.args.params.multiplicity * c.args.params.kappa) + 1 + 64 * c.triangle-count.result) (64 * c.triangle-count.result) (length c.args.output.now) (room d)
    (long i)

pub overflow_add-result-2 : goal.overflow_add-result-2
overflow_add-result-2 c =
    let d = (goal.at.overflow_add-result-2 c).After-triangle-count in
    let i = (goal.at.overflow_add-result-2 c).Start in
    fits_end (c.args.at + 1 + 64 * (c.args.params.multiplicity * c.args.params.kappa) + 1 + 64 * c.triangle-count.result) (64 * c.triangle-count.result) (length c.args.output.now) (room d)
    (long i)

pub shape_of-output : goal.shape_of-output
shape_of-output c = ap length (stored (goal.at.shape_of-output c).After-put_section-3) ∙ length-splice _ _ _

pub returns : goal.returns
returns c =
    let i = (goal.at.returns c).Start in
    let d = (goal.at.returns c).After-triangle-count in (
      sections-end c.args.at (64 * (c.args.params.multiplicity * c.args.params.kappa)) (64 * c.triangle-count.result)
          (t_in (parameters_of c.args.params) c.args.regions c.args.scratch.now) (g_in (parameters_of c.args.params) c.args.regions c.args.scratch.now)
          (h_in (parameters_of c.args.params) c.args.regions c.args.scratch.now) (t-size i) (g-size d) (h-size d),
      stored (goal.at.returns c).After-put_section-3,
    )
