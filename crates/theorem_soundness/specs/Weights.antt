-- What alpha and beta let through (the paper's second aggregation): errors ε_0 … ε_{n−1} in Rq, weighed by elements w_0 … w_{n−1}.
use Rattle.std.specs.Prelude.{◌≡◌, cond, ℕ, zero, suc, ◌+◌, ◌-◌, ◌*◌, eqb, ltb}
use Rattle.math.specs.lists.Table.{table}
use Rattle.math.specs.algebra.Ops.{Ops}
use Rattle.spec_leaves.specs.Rq.{Element, rzero}
use Rattle.spec_leaves.specs.Ring.{words, element, RqOps}
use Rattle.spec_protocol.specs.Views.{Public}
use Rattle.spec_protocol.specs.Formulas.{◌⊕◌, ◌⊗◌, sum}
use Rattle.spec_protocol.specs.Conditions.{alpha_error}
use Rattle.theorem_soundness.specs.Share.{AtMostOne}
use Rattle.theorem_soundness.specs.Rows.{with_weights}

-- X^i, for i < 64
unfoldable pub monomial : ℕ → Element
monomial i = element (table 64 (λ k. cond (eqb k i) 1 0))

-- how many elements 0, X^i and −X^i there are, i < 64
abbrev pub shifts : ℕ
shifts = 1 + 2 * 64

-- they by number: 0, then X^0 … X^63, then −X^0 … −X^63
unfoldable pub shift : ℕ → Element
shift zero = RqOps.nil
shift (suc m) = cond (ltb m 64) (monomial m) (RqOps.neg (monomial (m - 64)))

-- e has an inverse
abbrev pub IsUnit : (O : Ops) → O.Carrier → Type 0
IsUnit O e = (f : O.Carrier) × (O.mul e f ≡ O.one)

-- the weights w with v added to w_k
unfoldable pub shifted : (ℕ → Element) → ℕ → Element → ℕ → Element
shifted w k v i = cond (eqb i k) (w i ⊕ v) (w i)

-- of the 129 weights w_k ⊕ shift x at most one lets Σ w_i⊗ε_i vanish, the other weights as they are.
-- With w_k each w_k ⊕ shift x runs through all elements: so at most one in 129 of all weights w_k does.
abbrev pub OneWeightAtMost : (n : ℕ) → (w ε : ℕ → Element) → ℕ → Type 0
OneWeightAtMost n w ε k = AtMostOne shifts (λ x. sum n (λ i. shifted w k (shift x) i ⊗ ε i) ≡ RqOps.nil)

-- the public values with other weights in the place of alpha
abbrev pub with_alpha : Public → (ℕ → Element) → Public
with_alpha X α = with_weights X X.psi α

-- of the 129 weights alpha_k ⊕ shift x at most one lets the alpha-weighted errors of the ring constraints sum to zero
abbrev pub OneAlphaAtMost : Public → (ℕ → ℕ → Element) → ℕ → Type 0
OneAlphaAtMost X s k = AtMostOne shifts (λ x. words (alpha_error (with_alpha X (shifted X.alpha k (shift x))) s) ≡ rzero)
