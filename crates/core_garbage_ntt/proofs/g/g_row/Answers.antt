-- `g_row` meets its contract.
use mathlib.Core.Path.{refl, ap, ◌∙◌}
use Prim.Native.Nat.{◌+◌, ◌*◌, ◌≤◌}
use native.Mathlib.Omega.{arith}
use lib.ListN.{length}
use Rattle.math.specs.lists.Part.{splice}
use Rattle.spec_protocol.specs.Formulas.{flat}
use Rattle.ring_rq_matrix.proofs.Place.{rows-within, product_bound}
use Rattle.ntt_vectors.proofs.Laws.{vector-values}
use Rattle.core_garbage_ntt.proofs.Laws.{values_copied, row_copied}
use Rattle.core_garbage_ntt.proofs.g.g_row.Goals as goal

pub copy-requires : goal.copy-requires
copy-requires c =
    let s = c.args in
    (omega arith, omega (arith, c.requires.0.within, rows-within s.i (s.i + 1) s.n (omega arith)))

pub row-requires : goal.row-requires
row-requires c =
    let s = c.args in
    let within : s.at + 192 * (s.i * s.n) + 192 * s.n ≤ length s.scratch.now = omega (arith, c.requires.0.within, rows-within s.i (s.i + 1) s.n (omega arith)) in (
      values_copied s.buffer.now _ s.scratch.now (s.at + 192 * (s.i * s.n)) s.n c.copy.ensures (omega arith) within
          (vector-values s.scratch.now s.at (s.i + 1) s.n s.i (s.at + 192 * (s.i * s.n)) c.requires.0 (omega arith) refl),
      c.requires.0,
      omega arith,
      omega arith,
      c.requires.1,
    )

pub returns : goal.returns
returns c =
    let s = c.args in
    let within : s.at + 192 * (s.i * s.n) + 192 * s.n ≤ length s.scratch.now = omega (arith, c.requires.0.within, rows-within s.i (s.i + 1) s.n (omega arith)) in
    let copied = c.copy.ensures in record {
      scratch_after = c.row.ensures
          ∙ ap (λ cells. splice s.scratch.now s.out_at (flat cells))
          (row_copied s.buffer.now _ s.scratch.now (s.at + 192 * (s.i * s.n)) s.n copied (omega arith) within s.at s.i (s.i + 1) refl);
      buffer_after = copied;
    }

pub overflow_mul-i : goal.overflow_mul-i
overflow_mul-i c = omega (arith, product_bound c.args.i c.args.n (omega arith) (omega arith))

pub overflow_mul-i-2 : goal.overflow_mul-i-2
overflow_mul-i-2 c = omega (arith, product_bound c.args.i c.args.n (omega arith) (omega arith))

pub overflow_add-at : goal.overflow_add-at
overflow_add-at c = omega (arith, product_bound c.args.i c.args.n (omega arith) (omega arith))
