-- `divide` meets its contract: what the quotient or one less leaves is below twice the base.
use Rattle.std.proofs.Common.{refl, arith}
use Rattle.ring_zq.proofs.Near.{product_fits, near_quotient, quotient_is}
use Rattle.ring_zq.proofs.reciprocal.divide.Goals as goal

pub overflow_mul-near : goal.overflow_mul-near
overflow_mul-near c = let s = c.args in omega (arith, product_fits s.x s.base s.reciprocal (omega arith) (omega arith) c.requires.1)

pub overflow_cast-quotient : goal.overflow_cast-quotient
overflow_cast-quotient c = let s = c.args in omega (arith, product_fits s.x s.base s.reciprocal (omega arith) (omega arith) c.requires.1)

pub overflow_mul-rest : goal.overflow_mul-rest
overflow_mul-rest c = let s = c.args in omega (arith, (near_quotient s.x s.base s.reciprocal (omega arith) (omega arith) c.requires.1 _ refl).0)

pub overflow_sub-rest : goal.overflow_sub-rest
overflow_sub-rest c = let s = c.args in omega (arith, (near_quotient s.x s.base s.reciprocal (omega arith) (omega arith) c.requires.1 _ refl).0)

pub overflow_add-result : goal.overflow_add-result
overflow_add-result c = let s = c.args in omega (arith, product_fits s.x s.base s.reciprocal (omega arith) (omega arith) c.requires.1)

pub returns-then-base-rest : goal.returns-then-base-rest
returns-then-base-rest c =
    let s = c.args in
    let near = near_quotient s.x s.base s.reciprocal (omega arith) (omega arith) c.requires.1 _ refl in
    quotient_is s.x s.base _ _ (omega arith) (omega arith)

pub returns-else-base-rest : goal.returns-else-base-rest
returns-else-base-rest c =
    let s = c.args in
    let near = near_quotient s.x s.base s.reciprocal (omega arith) (omega arith) c.requires.1 _ refl in
    quotient_is s.x s.base _ _ (omega arith) (omega arith)
