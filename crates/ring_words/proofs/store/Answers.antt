-- `store` meets its contract.
use Rattle.std.proofs.Common.{◌≡◌, rules, refl, length, arith}
use Rattle.ring_words.proofs.Overwritten.{overwritten}
use Rattle.ring_words.proofs.store.Goals as goal

pub returns : goal.returns
returns c =
    let s = c.args in
    let n : length s.element.coeffs ≡ 64 = search rules in
    overwritten s.at 64 _ s.words.now _ _ refl c.copy_from_slice.ensures.after n (omega arith)
