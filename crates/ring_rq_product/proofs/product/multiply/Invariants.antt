-- `multiply` meets its contract.
use Rattle.std.proofs.Common.{ℕ, ◌≤◌, List}
use Rattle.ring_rq_product.specs.Product.{Finished, Forms}
use Rattle.ring_rq_product.proofs.product.multiply.Given as goal

-- for k in 0..64 { out[k] = (dot(&x, &y, k + 1) % MODULUS) as u32; }
-- At its head the first k coefficients of `out` are those of a·b and the later ones zero, for the a and b of which x and y are the forms.
abbrev pub invariant-loop-k : goal.invariant-loop-k
invariant-loop-k l = (l.k ≤ 64) × ((a b : List ℕ) → Forms l.x l.y a b → Finished l.k l.out a b)
