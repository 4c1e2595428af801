-- `put_section` meets its contract.
use Rattle.std.proofs.Common.{◌≡◌, ℕ, ◌+◌, List, ◌∷◌, length, add-one, ap, ◌∙◌}
use lib.ListN.{set}
use lib.Seq.{sets}
use Rattle.math.specs.lists.Part.{splice}
use Rattle.math.proofs.lists.Splice.{length-splice}
use Rattle.prover_p_and_b.proofs.put_section.Goals as goal

-- a word and then others stored right after it are one run
stored : (to new : List ℕ) (at x : ℕ) (xs : List ℕ) → new ≡ splice (set to at x) (at + 1) xs → new ≡ splice to at (x ∷ xs)
unfolding splice
stored to new at x xs e = e ∙ ap (λ n. sets (set to at x) n xs) (add-one at)

pub shape_of-to : goal.shape_of-to
shape_of-to c = let s = c.args in ap length (stored s.to.now _ s.at s.count _ c.copy.ensures) ∙ length-splice _ _ _

pub returns : goal.returns
returns c = let s = c.args in stored s.to.now _ s.at s.count _ c.copy.ensures
