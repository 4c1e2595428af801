-- `copy` meets its contract.
use Rattle.std.proofs.Common.{◌≡◌, ◌+◌, ◌-◌, ap, refl, ◌∙◌, drop, take, arith}
use Rattle.math.proofs.lists.Splice.{length_part}
use Rattle.ring_words.proofs.Overwritten.{overwritten}
use Rattle.ring_words.proofs.copy.Goals as goal

pub returns : goal.returns
returns c =
    let s = c.args in
    let n : s.start + s.count - s.start ≡ s.count = omega arith in
    overwritten s.at s.count _ s.to.now _ _ refl (c.copy_from_slice.ensures.after ∙ ap (λ n. take n (drop s.start s.from.now)) n) (length_part s.from.now s.start s.count (omega arith)) (omega arith)
