-- `store_window` meets its contract.
use mathlib.Core.Path.{refl, ap, ◌∙◌}
use Prim.Native.Nat.{◌+◌, ◌*◌}
use native.Mathlib.Omega.{arith}
use mir.Syntax.{w64}
use mir.Val.{Fits}
use Rattle.ring_rq_matrix.proofs.Fill.{length_filled}
use Rattle.relation_env_params.specs.Parameters.{parameters_of}
use Rattle.verifier_commitments.proofs.OuterLaws.{base_large, t_cells, g_cells, h_cells}
use Rattle.verify_many_windows.proofs.WindowLaws.{few}
use Rattle.verify_many_digits.proofs.CellLaws.{window-stored}
use Rattle.verify_many_digits.proofs.forms.store_window.Goals as goal

pub overflow_add-g_at : goal.overflow_add-g_at
overflow_add-g_at c =
    let small : Fits w64 (c.args.start + 192 * (c.args.params.multiplicity * c.args.params.kappa * c.args.params.t_1)) = omega (arith, c.requires.1) in
    small

pub overflow_add-h_at : goal.overflow_add-h_at
overflow_add-h_at c =
    let p = c.args.params in
    let t = c.triangle-cells in
    let small : Fits w64 (c.args.start + 192 * (p.multiplicity * p.kappa * p.t_1) + 192 * (t.result * p.t_2)) = omega (arith, c.requires.1, ap (λ n. n * p.t_2) t.ensures.0) in
    small

pub store_cells-requires : goal.store_cells-requires
store_cells-requires c =
    let s = c.requires in
    (t_cells _ _ s.0 _ _ c.of_transcript.ensures refl, base_large _ _ s.0, omega (arith, s.1))

pub store_cells-requires-2 : goal.store_cells-requires-2
store_cells-requires-2 c =
    let t = c.triangle-cells.ensures in
    let size = length_filled _ c.args.scratch.now _ _ c.store_cells.ensures in (
      g_cells _ _ c.requires.0 _ _ c.of_transcript-2.ensures t,
      base_large _ _ c.requires.0,
      omega
          (arith, c.requires.1, size, ap (λ n. n * c.args.params.t_2) t.0),
    )

pub store_cells-requires-3 : goal.store_cells-requires-3
store_cells-requires-3 c =
    let t = c.triangle-cells.ensures in
    let size = length_filled _ _ _ _ c.store_cells-2.ensures ∙ length_filled _ c.args.scratch.now _ _
    c.store_cells.ensures in (
      h_cells _ _ c.requires.0 _ _ c.of_transcript-3.ensures t,
      base_large _ _ c.requires.0,
      omega (arith, c.requires.1, size, ap (λ n. n * c.args.params.t_2) t.0, ap (λ n. n * c.args.params.t_1) t.0),
    )

pub returns : goal.returns
returns c =
    let s = c.args in
    window-stored (parameters_of s.params) s.transcript.now s.scratch.now _ _ _ s.start _ _ _ _ _ _
    c.of_transcript.ensures
    c.of_transcript-2.ensures
    c.of_transcript-3.ensures
    c.triangle-cells.ensures.0 refl refl c.store_cells.ensures
    c.store_cells-2.ensures c.store_cells-3.ensures

pub triangle-cells-requires : goal.triangle-cells-requires
triangle-cells-requires c = c.requires.0.sized.within.r.1

pub of_transcript-requires : goal.of_transcript-requires
of_transcript-requires c = (c.requires.0.sized, omega arith)

pub overflow_mul-t : goal.overflow_mul-t
overflow_mul-t c = omega (arith, (few _ 0 c.requires.0.sized (omega arith)).rκ)

pub of_transcript-requires-2 : goal.of_transcript-requires-2
of_transcript-requires-2 c = (c.requires.0.sized, omega arith)

pub of_transcript-requires-3 : goal.of_transcript-requires-3
of_transcript-requires-3 c = (c.requires.0.sized, omega arith)

pub overflow_mul-g_at : goal.overflow_mul-g_at
overflow_mul-g_at c = omega (arith, (few _ 0 c.requires.0.sized (omega arith)).rκ)

pub overflow_mul-g_at-2 : goal.overflow_mul-g_at-2
overflow_mul-g_at-2 c = omega (arith, (few _ 0 c.requires.0.sized (omega arith)).rκt₁)

pub overflow_mul-g_at-3 : goal.overflow_mul-g_at-3
overflow_mul-g_at-3 c = omega (arith, (few _ 0 c.requires.0.sized (omega arith)).rκt₁)

pub overflow_mul-h_at : goal.overflow_mul-h_at
overflow_mul-h_at c = omega (
  arith,
  (few _ _ c.requires.0.sized
      c.triangle-cells.ensures.1).tt₂,
)

pub overflow_mul-h_at-2 : goal.overflow_mul-h_at-2
overflow_mul-h_at-2 c = omega (
  arith,
  (few _ _ c.requires.0.sized
      c.triangle-cells.ensures.1).tt₂,
)

pub shape_of-scratch : goal.shape_of-scratch
shape_of-scratch c = length_filled _ _ _ _ c.store_cells-3.ensures ∙ length_filled _ _ _ _ c.store_cells-2.ensures
    ∙ length_filled _ c.args.scratch.now _ _ c.store_cells.ensures
