-- `counted` meets its contract.
use mathlib.Core.Path.{◌≡◌, refl, sym, ap, ◌∙◌}
use Prim.Native.Nat.{ℕ, zero, suc}
use Rattle.spec_leaves.specs.Answer.{fine}
use Rattle.mistyped.specs.Told.{mistyped_answer, counted_answer}
use Rattle.mistyped.proofs.answers.counted.Goals as goal

-- some entries
some : (n : ℕ) → (n ≡ 0 → ⊥) → mistyped_answer fine n ≡ counted_answer n
some zero h = absurd (h refl)
some (suc n) h = refl

pub returns-then-entries-eq0 : goal.returns-then-entries-eq0
returns-then-entries-eq0 c = c.refused.ensures ∙ sym (ap counted_answer c.if-entries-eq0.true)

pub returns : goal.returns
returns c = some c.args.entries c.if-entries-eq0.false
