use mathlib.Core.Path.{◌≡◌, refl, ap, ◌∙◌}
use Prim.Native.Nat.{◌+◌, ◌*◌}
use native.Mathlib.Omega.{arith}
use Rattle.math.specs.lists.Table.{table}
use Rattle.math.specs.lists.Part.{splice}
use Rattle.ring_inner_product.specs.Run.{run}
use Rattle.ring_challenge_products.proofs.Product.{powers_inner_product}
use Rattle.spec_protocol.specs.Formulas.{flat}
use Rattle.spec_protocol.proofs.Stored.{stored-none}
use Rattle.ring_rq_matrix.proofs.Place.{column-run}
use Rattle.ring_rq_matrix.proofs.Word.{words_of-column}
use Rattle.ring_rq_matrix.proofs.Fill.{length_filled, fill_next}
use Rattle.transcript_challenges.proofs.compute_z.Invariants.{z_of}
use Rattle.transcript_challenges.proofs.compute_z.Goals as goal

pub inner_product-element-requires : goal.inner_product-element-requires
inner_product-element-requires c =
    let s = c.args in
    let m = c.loop-m.m in
    (c.store.ensures.0.places, column-run s.s.now s.s_at s.n m s.r (omega arith) (omega arith) (omega arith) (omega arith) (omega arith))

pub loop-m-preserved : goal.loop-m-preserved
loop-m-preserved c =
    let s = c.args in
    let l = c.loop-m in
    let z = z_of s.s.now s.s_at s.c.now s.c_at s.r s.n in
    let powers = c.store.ensures.0 in
    let column = c.inner_product-element.ensures ∙ powers_inner_product _ s.s.now (s.s_at + 64 * l.m) (64 * s.n) s.c.now s.c_at s.r powers in
    let next = words_of-column _ s.s.now s.s_at s.n l.m s.r (run s.c.now s.c_at 64) column in
    let filled = fill_next s.out.now s.out_at _ _ _ l.m l.place z l.invariant.2 l.invariant.1 next c.store-in-loop-m.ensures in
    (omega arith, omega arith, filled, length_filled _ s.out.now s.out_at (flat (table (l.m + 1) z)) filled)

pub returns : goal.returns
returns c =
    let s = c.args in
    let l = c.loop-m in
    let done : l.m ≡ s.n = omega arith in
    l.invariant.2 ∙ ap (λ k. splice s.out.now s.out_at (flat (table k (z_of s.s.now s.s_at s.c.now s.c_at s.r s.n)))) done

pub store-requires : goal.store-requires
store-requires c = (c.requires.5, omega arith, omega arith)

pub loop-m-init : goal.loop-m-init
loop-m-init c = (omega arith, omega arith, stored-none _ _ _, refl)
