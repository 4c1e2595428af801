-- A section stored at the start of an output, and the first words of a buffer set to zero.
use mathlib.Core.Path.{◌≡◌, refl, sym, ap, ap₂, ◌∙◌}
use mathlib.Core.List.{List, [], ◌∷◌, ◌++◌, append-nil}
use Prim.Native.Nat.{ℕ, suc, ◌+◌, ◌≤◌}
use native.Mathlib.Omega.{arith}
use lib.ListN.{length, set, drop, replicate, length-replicate}
use Rattle.math.specs.lists.Part.{splice}
use Rattle.math.proofs.lists.Splice.{splice_eq}
use Rattle.spec_protocol.specs.Layout.{Section, span, sections}
use Rattle.spec_protocol.specs.Prover.{zeroed}
use Rattle.spec_sheds.specs.Runs.{stored}

-- the words after a first one
after_first : (a : ℕ) (l : List ℕ) (n m : ℕ) → m ≡ 1 + n → drop m (a ∷ l) ≡ drop n l
after_first a l n m e = let f : m ≡ suc n = omega arith in ap (λ k. drop k (a ∷ l)) f

-- a count stored, and as many words after it
pub section_put : (made : List Section) (O O' : List ℕ) (count : ℕ) (ws : List ℕ) → length ws ≡ count → span made ≡ 1 + count → 1 + count ≤ length O
    → O' ≡ splice (set O 0 count) 1 ws → O' ≡ stored made ws O
section_put made [] O' count ws size need room e = absurd (omega arith)
section_put made (o ∷ os) O' count ws size need room e =
    e
    ∙ splice_eq (count ∷ os) 1 ws (omega arith)
    ∙ ap₂ (λ a b. (a ∷ ws) ++ b) (sym size) (after_first count os (length ws) (1 + length ws) refl ∙ sym (after_first o os (length ws) (span made) (omega arith)))
    ∙ ap (λ l. (length ws ∷ l) ++ drop (span made) (o ∷ os)) (sym (append-nil ws))
    ∙ is_stored
  where
    is_stored : (length ws ∷ (ws ++ [])) ++ drop (span made) (o ∷ os) ≡ stored made ws (o ∷ os)
    is_stored = unfold stored sections in refl

-- the first words set to zero
pub zeros_put : (need : ℕ) (O O' : List ℕ) → need ≤ length O → O' ≡ splice O 0 (replicate need 0) → O' ≡ zeroed need O
zeros_put need O O' h e =
    let size : 0 + length (replicate {A = ℕ} need 0) ≡ need = omega (arith, length-replicate {A = ℕ} need 0) in
    e ∙ splice_eq O 0 (replicate need 0) (omega arith) ∙ ap (λ n. replicate need 0 ++ drop n O) size
