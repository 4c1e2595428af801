-- Which part of all weights lets errors through: where ε_k is not 0, of 129 weights w_k ⊕ x at most one lets Σ w_i⊗ε_i vanish.
use mathlib.Core.Path.{◌≡◌, sym, ap, ◌∙◌}
use Prim.Native.Nat.{ℕ, ◌<◌}
use Rattle.spec_leaves.specs.Rq.{Element, rzero}
use Rattle.spec_leaves.specs.Ring.{words, RqOps}
use Rattle.spec_leaves.proofs.RqRing.{words_path}
use Rattle.spec_leaves.proofs.Bridge.{words-nil}
use Rattle.spec_protocol.specs.Views.{Public}
use Rattle.spec_protocol.specs.Conditions.{ring_error, alpha_error}
use Rattle.theorem_soundness.specs.Weights.{shift, shifted, with_alpha, OneWeightAtMost, OneAlphaAtMost}
use Rattle.theorem_soundness.proofs.OneWeight.{one_weight-at_most}

-- of the 129 weights beta_k ⊕ x at most one lets Σ beta_i⊗ε_i vanish, whatever the ε
pub one-beta-at_most : (X : Public) (ε : ℕ → Element) (k : ℕ) → k < X.P.L → (ε k ≡ RqOps.nil → ⊥) → OneWeightAtMost X.P.L X.beta ε k
one-beta-at_most X ε k h bad = one_weight-at_most X.P.L X.beta ε k h bad

-- where ring constraint k is not met, of the 129 weights alpha_k ⊕ x at most one lets check 27's condition hold
pub one-alpha-at_most : (X : Public) (s : ℕ → ℕ → Element) (k : ℕ) → k < X.P.K → (words (ring_error X s k) ≡ rzero → ⊥) → OneAlphaAtMost X s k
unfolding alpha_error ring_error
one-alpha-at_most X s k h bad x y a b p q =
    one_weight-at_most X.P.K X.alpha (ring_error X s) k h (λ e. bad (ap words e ∙ words-nil)) x y a b (vanishes x p) (vanishes y q)
  where
    vanishes : (x : ℕ) → words (alpha_error (with_alpha X (shifted X.alpha k (shift x))) s) ≡ rzero → alpha_error (with_alpha X (shifted X.alpha k (shift x))) s ≡ RqOps.nil
    vanishes x e = words_path (alpha_error (with_alpha X (shifted X.alpha k (shift x))) s) RqOps.nil (e ∙ sym words-nil)
