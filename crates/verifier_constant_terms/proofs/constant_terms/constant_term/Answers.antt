-- `constant_term` meets its contract.
use mathlib.Core.Path.{◌≡◌}
use Prim.Native.Nat.{ℕ, ◌+◌, ◌%◌}
use native.Mathlib.Omega.{arith}
use Rattle.spec_leaves.specs.Zq.{Q}
use Rattle.verifier_constant_terms.specs.Terms.{products}
use Rattle.verifier_constant_terms.proofs.constant_terms.constant_term.Goals as goal

-- a sum after another, modulo Q
both : (t f a b : ℕ) → t % Q ≡ (f + b) % Q → f % Q ≡ (0 + a) % Q → t % Q ≡ (a + b) % Q
both t f a b e g = omega arith

pub returns : goal.returns
returns c =
    let s = c.args in
    both c.add_products-total.result c.add_products-first.result
    (products s.randomness.now s.psi s.job.now s.b0 s.l)
    (products s.randomness.now s.omega s.transcript.now s.projection 256)
    c.add_products-total.ensures.0
    c.add_products-first.ensures.0

pub add_products-first-requires : goal.add_products-first-requires
add_products-first-requires c = (omega arith, omega arith, omega arith)

pub add_products-total-requires : goal.add_products-total-requires
add_products-total-requires c = (omega arith, omega arith, omega arith)
