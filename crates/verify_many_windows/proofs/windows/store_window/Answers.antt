-- `store_window` meets its contract.
use mathlib.Core.Path.{refl, ap, ◌∙◌}
use Prim.Native.Nat.{◌*◌}
use native.Mathlib.Omega.{arith}
use Rattle.ring_rq_matrix.proofs.Fill.{length_filled}
use Rattle.verifier_commitments.proofs.OuterLaws.{base_large, few_cells, few-t, t_cells, g_cells, h_cells}
use Rattle.verify_many_windows.proofs.WindowDigits.{window-stored}
use Rattle.verify_many_windows.proofs.windows.store_window.Goals as goal

pub store_cells-requires : goal.store_cells-requires
store_cells-requires c =
    let s = c.requires in
    let w = c.places-at.ensures in
    (t_cells _ _ s.0 _ _ c.of_transcript.ensures refl, base_large _ _ s.0, omega (arith, w.t, s.1))

pub store_cells-requires-2 : goal.store_cells-requires-2
store_cells-requires-2 c =
    let w = c.places-at.ensures in
    let t = c.triangle-cells.ensures in
    let size = length_filled _ c.args.scratch.now _ _ c.store_cells.ensures in (
      g_cells _ _ c.requires.0 _ _ c.of_transcript-2.ensures t,
      base_large _ _ c.requires.0,
      omega
          (arith, w.g, c.requires.1, size, ap (λ n. n * c.args.params.t_2) t.0),
    )

pub store_cells-requires-3 : goal.store_cells-requires-3
store_cells-requires-3 c =
    let w = c.places-at.ensures in
    let t = c.triangle-cells.ensures in
    let size = length_filled _ _ _ _ c.store_cells-2.ensures
    ∙ length_filled _ c.args.scratch.now _ _ c.store_cells.ensures in (
      h_cells _ _ c.requires.0 _ _ c.of_transcript-3.ensures t,
      base_large _ _ c.requires.0,
      omega
          (arith, w.h, c.requires.1, size, ap (λ n. n * c.args.params.t_1) t.0),
    )

pub returns : goal.returns
returns c =
    let s = c.args in
    window-stored _ s.transcript.now s.scratch.now _ _ _ s.start _ _ _ _ _
    c.places-at.ensures
    c.of_transcript.ensures
    c.of_transcript-2.ensures
    c.of_transcript-3.ensures
    c.triangle-cells.ensures.0
    c.store_cells.ensures c.store_cells-2.ensures
    c.store_cells-3.ensures

pub places-at-requires : goal.places-at-requires
places-at-requires c = (c.requires.0.sized, omega (arith, c.requires.1))

pub triangle-cells-requires : goal.triangle-cells-requires
triangle-cells-requires c = c.requires.0.sized.within.r.1

pub of_transcript-requires : goal.of_transcript-requires
of_transcript-requires c = (c.requires.0.sized, omega arith)

pub overflow_mul-t : goal.overflow_mul-t
overflow_mul-t c = few_cells _ (few-t _ _ c.requires.0)

pub of_transcript-requires-2 : goal.of_transcript-requires-2
of_transcript-requires-2 c = (c.requires.0.sized, omega arith)

pub of_transcript-requires-3 : goal.of_transcript-requires-3
of_transcript-requires-3 c = (c.requires.0.sized, omega arith)

pub shape_of-scratch : goal.shape_of-scratch
shape_of-scratch c = length_filled _ _ _ _ c.store_cells-3.ensures ∙ length_filled _ _ _ _ c.store_cells-2.ensures
    ∙ length_filled _ c.args.scratch.now _ _
    c.store_cells.ensures
