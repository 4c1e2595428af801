-- `extend` meets its contract.
use native.Mathlib.Omega.{arith}
use borrow.Author.Rules.{rules}
use lib.ListN.{get_or}
use mir.Val.{Fits}
use mir.Syntax.{w32}
use Rattle.ring_rq_product.proofs.Coefficient.{extended-words}
use Rattle.ring_challenge_products.proofs.Extension.{stored-by, extension}
use Rattle.ring_challenge_products.proofs.products.extend.Goals as goal

pub doubled-twice-requires : goal.doubled-twice-requires
doubled-twice-requires c =
    let a = c.args.a in
    rw c.extend-once.ensures (extended-words a (λ i l. let w : Fits w32 (get_or a i 0) = search rules in omega arith))

pub returns : goal.returns
returns c =
    let a = c.args.a in
    let once = c.extend-once in
    let twice = c.doubled-twice in
    extension a once.result twice.result _ (λ i l. let w : Fits w32 (get_or a i 0) = search rules in omega arith) once.ensures twice.ensures
    (stored-by once.result twice.result _ _ _ _ c.copy.ensures c.copy-2.ensures c.copy-3.ensures c.copy-4.ensures)
