-- `divide_by_shift` meets its contract: a shift divides by 2^shift, and the mask 2^shift − 1 keeps the rest.
use Rattle.std.proofs.Common.{refl, arith, pow_pos}
use lib.Bits.{and_mask}
use Rattle.ring_zq.proofs.reciprocal.divide_by_shift.Goals as goal

pub returns : goal.returns
returns c = (rw c.requires.1 refl, rw c.requires.1 (and_mask c.args.x c.args.shift))

pub overflow_sub-result : goal.overflow_sub-result
overflow_sub-result c = omega (arith, pow_pos c.args.shift)
