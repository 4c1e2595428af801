use mathlib.Core.Path.{◌≡◌, refl, sym, ap, subst, ◌∙◌}
use Prim.Native.Nat.{ℕ, ◌<◌}
use native.Mathlib.Omega.{arith}
use borrow.Author.Rules.{rules}
use lib.ListN.{length}
use Rattle.math.proofs.lists.Splice.{length-splice}
use Rattle.ring_challenge_products.specs.Powers.{Sparse, RowOf}
use Rattle.ring_challenge_products.proofs.Row.{rows_next, powers_of}
use Rattle.ring_challenge_products.proofs.powers.store.Goals as goal

pub loop-i-preserved : goal.loop-i-preserved
loop-i-preserved c =
    let l = c.loop-i in
    let row = c.row in
    let n : length row.result ≡ 64 = search rules in
    let this = subst (RowOf row.result) c.load.ensures row.ensures in (
      omega arith,
      rows_next c.args.c.now c.args.at l.i l.powers row.result _ l.invariant.1 n (omega arith) this c.store.ensures,
      ap length c.store.ensures ∙ length-splice _ _ _ ∙ l.invariant.2,
    )

pub returns : goal.returns
returns c =
    let l = c.loop-i in
    let n : l.i ≡ c.args.r = omega arith in
    (powers_of l.powers c.args.c.now c.args.at c.args.r (omega arith) c.requires.0 (λ q h. l.invariant.1 q (omega arith)), l.invariant.2)

none : (q : ℕ) → q < 0 → ⊥
none q h = omega arith

pub loop-i-init : goal.loop-i-init
loop-i-init c = (omega arith, (λ q h. absurd (none q h)), refl)

pub row-requires : goal.row-requires
row-requires c = subst Sparse (sym c.load.ensures) (c.requires.0 c.loop-i.i (omega arith))

pub shape_of-powers : goal.shape_of-powers
shape_of-powers c = c.loop-i.invariant.2
