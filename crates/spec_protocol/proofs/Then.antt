-- Laws of `_then_`: answers one after the other.
use mathlib.Core.Path.{◌≡◌, refl, sym, ap, ◌∙◌}
use mathlib.Core.Bool.{Bool, true, false, cond}
use Prim.Native.Nat.{ℕ}
use Rattle.spec_leaves.specs.Answer.{Answer, fine, accepted, refused, failed, ◌then◌}
use Rattle.spec_protocol.proofs.Checks.{then_fine}
use Rattle.spec_protocol.proofs.Fine.{then_fine_left, then_fine_right}

-- the order of bracketing is free
pub then_assoc : (a b c : Answer) → a then b then c ≡ a then (b then c)
then_assoc fine b c = refl
then_assoc (accepted cells) b c = refl
then_assoc (refused n p) b c = refl
then_assoc (failed n vs) b c = refl

-- b stands in one of two places, and fine in the other
pub then_either : (t : Bool) (a b : Answer) → a then b ≡ a then cond t b fine then cond t fine b
then_either true a b = sym (then_fine (a then b))
then_either false a b = ap (λ x. x then b) (sym (then_fine a))

-- what is fine wherever a is fine is left out
pub then_only : (a b c d e : Answer) → (a ≡ fine → b then c then e ≡ fine) → a then b then c then d then e ≡ a then d
then_only (accepted cells) b c d e h = refl
then_only (refused n p) b c d e h = refl
then_only (failed n vs) b c d e h = refl
then_only fine b c d e h =
    let all : b then c then e ≡ fine = h refl in
    let both : b then c ≡ fine = then_fine_left (b then c) e all in
    ap (λ x. x then d then e) both ∙ ap (λ x. d then x) (then_fine_right (b then c) e all) ∙ then_fine d

-- a refusal that is not the second answer's is the first's
pub refused-first : (a b : Answer) (n p : ℕ) → (b ≡ refused n p → ⊥) → a then b ≡ refused n p → a ≡ refused n p
refused-first fine b n p h e = absurd (h e)
refused-first (accepted cells) b n p h e = e
refused-first (refused n' p') b n p h e = e
refused-first (failed n' vs) b n p h e = e
