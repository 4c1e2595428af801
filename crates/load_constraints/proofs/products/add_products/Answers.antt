use mathlib.Core.Path.{◌≡◌, refl, ap, ◌∙◌}
use Prim.Native.Nat.{ℕ, ◌+◌, ◌*◌}
use native.Mathlib.Omega.{arith}
use Rattle.math.specs.lists.Table.{table}
use Rattle.math.specs.lists.Part.{splice}
use Rattle.ring_inner_product.specs.Run.{run}
use Rattle.spec_protocol.specs.Formulas.{flat}
use Rattle.ring_rq_matrix.proofs.Fill.{length_filled}
use Rattle.load_constraints.specs.Products.{with_terms}
use Rattle.load_constraints.proofs.Blocks.{before_same, blocks_none, blocks_next}
use Rattle.load_constraints.proofs.products.add_products.Invariants.{taken}
use Rattle.load_constraints.proofs.products.add_products.Goals as goal

pub loop-b-init : goal.loop-b-init
loop-b-init c =
    let s = c.args in
    let none : 0 ≡ taken s.m 0 = omega arith in (
      blocks_none s.job.now s.base s.m s.to s.count c.requires.0 (run s.s.now s.s_at 64) c.requires.1
          ∙ ap (λ k. splice s.job.now s.to (flat (table s.count (with_terms s.job.now s.base s.m s.to 0 k (run s.s.now s.s_at 64))))) none,
      refl,
    )

pub add_block-requires : goal.add_block-requires
add_block-requires c =
    let s = c.args in
    let l = c.loop-b in
    let room = before_same s.job.now s.base s.m s.to s.count c.requires.0 l.job l.invariant.1 in
    (room, omega (arith, c.min-n.ensures), omega (arith, c.min-n.ensures), omega (arith, c.min-n.ensures))

pub loop-b-preserved : goal.loop-b-preserved
loop-b-preserved c =
    let s = c.args in
    let l = c.loop-b in
    let made = c.add_block.ensures in
    let here : taken s.m l.b ≡ 32 * l.b = omega arith in
    let next : 32 * l.b + c.min-n.result ≡ taken s.m (l.b + 1) = omega (arith, c.min-n.ensures) in
    let so_far : ℕ → _ = λ k. splice s.job.now s.to (flat (table s.count (with_terms s.job.now s.base s.m s.to 0 k (run s.s.now s.s_at 64)))) in (
      blocks_next s.job.now s.base s.m s.to s.count c.requires.0 l.job _ (32 * l.b) _ s.s.now s.s_at _ (omega (arith, c.min-n.ensures)) refl (l.invariant.0 ∙ ap so_far here) made
          ∙ ap so_far next,
      length_filled _ _ _ _ made ∙ l.invariant.1,
    )

pub returns : goal.returns
returns c =
    let s = c.args in
    let all : taken s.m c.loop-b.b ≡ s.m = omega arith in
    c.loop-b.invariant.0 ∙ ap (λ k. splice s.job.now s.to (flat (table s.count (with_terms s.job.now s.base s.m s.to 0 k (run s.s.now s.s_at 64))))) all
