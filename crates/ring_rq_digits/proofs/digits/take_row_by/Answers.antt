use native.Mathlib.Omega.{arith}
use borrow.Author.Rules.{rules}
use lib.ListN.{get_or}
use mir.Val.{Fits}
use mir.Syntax.{w32}
use Rattle.math.proofs.lists.Padded.{padded-none, padded_done}
use Rattle.ring_rq_digits.proofs.Row.{rest_below, quotient_fits, so_far_next}
use Rattle.ring_rq_digits.proofs.digits.take_row_by.Goals as goal

pub digit_of-requires : goal.digit_of-requires
digit_of-requires g c = rest_below _ _ _ _ (omega arith) (c.requires.divides _ _ c.divide-taken.ensures)

pub next_of-requires : goal.next_of-requires
next_of-requires g c =
    let w : Fits w32 (get_or c.args.sizes c.loop-j.j 0) = search rules in
    quotient_fits _ _ _ _ (omega arith) (c.requires.divides _ _ c.divide-taken.ensures) w.fits

pub loop-j-preserved : goal.loop-j-preserved
loop-j-preserved g c =
    let s = c.args in
    so_far_next s.a s.sizes _ _ _ _ _ _ _ _ _ c.loop-j.invariant (omega arith) (c.requires.divides _ _ c.divide-taken.ensures)
    c.is_larger_than_half.ensures c.digit_of.ensures c.next_of.ensures

pub returns : goal.returns
returns g c = (padded_done 64 0 _ _ _ c.loop-j.invariant.1 (omega arith), padded_done 64 0 _ _ _ c.loop-j.invariant.2 (omega arith))

pub loop-j-init : goal.loop-j-init
loop-j-init g c = (omega arith, padded-none 64 0 _, padded-none 64 0 _)
