-- `join` meets its contract.
use Rattle.std.proofs.Common.{◌≡◌, ℕ, ◌+◌, ◌-◌, ◌*◌, ◌%◌, ◌^◌, ◌<◌, arith}
use Rattle.spec_leaves.specs.Zq.{lack_Q}
use Rattle.ring_rq_product.proofs.Halves.{growth-small}
use Rattle.ring_rq_product.proofs.product.join.Goals as goal

-- a difference modulo 2^64 with a number added
difference : (sum upper taken rest r : ℕ) → (rest + taken) % 2 ^ 64 ≡ sum → taken < 2 ^ 64 → r ≡ (rest + upper) % 2 ^ 64
    → r ≡ (sum + (2 ^ 64 - taken) + upper) % 2 ^ 64
difference sum upper taken rest r d l e = omega arith

pub returns : goal.returns
returns c =
    let s = c.args in
    difference s.h.sum (s.h.upper * lack_Q) (s.h.upper % 4294967296 * 4294967296) _ _ c.wrapping_sub_u64-lower.ensures.value (omega arith) c.wrapping_add_u64.ensures.value

pub overflow_mul-h-2 : goal.overflow_mul-h-2
overflow_mul-h-2 c = omega (arith, growth-small)
