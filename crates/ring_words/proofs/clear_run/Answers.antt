-- `clear_run` meets its contract.
use Rattle.std.proofs.Common.{◌≡◌, ℕ, ◌+◌, ◌-◌, refl, ap, ◌∙◌, length, take, drop, replicate, arith}
use Rattle.std.proofs.Math.ListN.{length-replicate, length-take, length-drop}
use Rattle.ring_words.proofs.Overwritten.{overwritten}
use Rattle.ring_words.proofs.clear_run.Goals as goal

pub returns : goal.returns
returns c =
    let s = c.args in
    let n : length (take (s.at + s.count - s.at) (drop s.at s.words.now)) ≡ s.count = simp (length-take, length-drop) (omega arith) in
    overwritten s.at s.count _ s.words.now _ _ refl (c.fill.ensures.after (λ x same. same) ∙ ap (λ n. replicate n 0) n) (length-replicate {A = ℕ} s.count 0) (omega arith)
