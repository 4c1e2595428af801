-- `compute_h` meets its contract.
use Prim.Native.Nat.{◌*◌}
use native.Mathlib.Omega.{arith}
use borrow.Author.Rules.{rules}
use lib.ListN.{get_or}
use Rattle.ring_rq_matrix.proofs.Place.{product_bound}
use Rattle.ring_rq_matrix.proofs.Fill.{length_filled}
use Rattle.ntt_vectors.proofs.Laws.{ntt_form-values}
use Rattle.core_garbage_ntt.proofs.Made.{h-made}
use mir.Val.{Fits}
use mir.Syntax.{w32}
use Rattle.core_garbage_ntt.proofs.h.compute_h.Goals as goal

pub to_ntt_form-requires : goal.to_ntt_form-requires
to_ntt_form-requires c = (
  omega arith,
  omega
      (arith, product_bound c.args.r c.args.r (omega arith) (omega arith)),
)

pub lines-requires : goal.lines-requires
lines-requires c =
    let s = c.args in
    let k = c.to_ntt_form in
    let size = length_filled _ _ _ _ k.ensures.out_after in
    (ntt_form-values _ s.at s.s.now s.s_at (s.r * s.n) k.ensures.ntt_form, (omega arith, omega arith, omega (arith, size), omega arith, omega arith))

pub fold-requires : goal.fold-requires
fold-requires c =
    let size = length_filled _ _ _ _ c.to_ntt_form.ensures.out_after in
    let more = length_filled _ _ _ _ c.lines.ensures in
    (omega arith, omega (arith, size, more), omega arith)

pub returns : goal.returns
returns c =
    let s = c.args in
    let k = c.to_ntt_form in
    h-made s.scratch.now _ _ _ s.phi_at s.s.now s.s_at s.r s.n s.at s.square s.out_at (omega arith) (omega arith) (omega arith) (omega arith)
    (λ i. let f : Fits w32 (get_or s.scratch.now i 0) = search rules in omega arith)
    k.ensures.out_after k.ensures.ntt_form c.lines.ensures c.fold.ensures

pub overflow_mul-r : goal.overflow_mul-r
overflow_mul-r c = omega (arith, product_bound c.args.r c.args.n (omega arith) (omega arith))
