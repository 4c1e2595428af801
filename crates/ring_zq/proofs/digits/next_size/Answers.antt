-- `next_size` meets its contract.
use Rattle.std.proofs.Common.{div-lt_iff_lt-mul, arith}
use Rattle.ring_zq.proofs.digits.next_size.Goals as goal

pub next_of-requires : goal.next_of-requires
next_of-requires c =
    let s = c.args in
    (div-lt_iff_lt-mul {k = s.base} {x = s.size} {y = 4294967295} (omega arith)).1 (omega arith)
