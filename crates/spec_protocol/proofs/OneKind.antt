-- Statements of one kind only (document 02, Item 4).
use mathlib.Core.Path.{◌≡◌, ap, ◌∙◌}
use Prim.Native.Nat.{ℕ, ◌+◌, ◌*◌, ◌%◌, ◌≤◌}
use native.Mathlib.Decide.{dec_le}
use native.Mathlib.Omega.{arith}
use borrow.Author.Tests.{le-ltb}
use Rattle.math.specs.lists.Sum.{Σ}
use Rattle.math.specs.algebra.Ops as Ops
use Rattle.spec_leaves.specs.Zq.{Q, top_Q}
use Rattle.spec_leaves.specs.Answer.{Answer, refused, ◌then◌}
use Rattle.spec_leaves.specs.Leaf.{limited}
use Rattle.spec_leaves.specs.Rq.{Element, rzero}
use Rattle.spec_leaves.specs.Ring.{words}
use Rattle.spec_leaves.proofs.Bridge.{words-nil}
use Rattle.spec_protocol.specs.Parameters.{Parameters, limits}
use Rattle.spec_protocol.specs.Views.{Public}
use Rattle.spec_protocol.specs.Formulas.{◌⊗◌, sum}
use Rattle.spec_protocol.specs.Conditions.{constant_error, psi_error, ring_error, alpha_error}
use Rattle.spec_protocol.proofs.Fine.{require-holds}
use Rattle.spec_protocol.proofs.Checks.{then_fine}

module _ (X : Public) (s : ℕ → ℕ → Element) where
  -- "With K = 0 the alpha condition of demand 3 holds by itself"
  pub alpha-holds : X.P.K ≡ 0 → words (alpha_error X s) ≡ rzero
  unfolding alpha_error Ops.sum
  alpha-holds none = ap (λ K. words (sum K (λ k. X.alpha k ⊗ ring_error X s k))) none ∙ words-nil

  -- "with l = 0 the psi one"
  pub psi-holds : X.P.l ≡ 0 → (k : ℕ) → psi_error X s k ≡ 0
  unfolding psi_error Σ
  psi-holds none k = ap (λ l. Σ l (λ x. X.psi k x * constant_error X s x) % Q) none

-- document 01's first list of limits: "n 1 to 64; r, κ, κ1, κ2 1 to 16; K, l 1 to 64; log_q 16 to 32; b 2 to 4294967294; t1, t2 1 to 32"
abbrev pub first-limits : Parameters → Answer
first-limits P =
    limited 1 64 1 P.n
    then limited 1 16 2 P.r
    then limited 1 16 3 P.κ
    then limited 1 16 4 P.κ₁
    then limited 1 16 5 P.κ₂
    then limited 1 64 6 P.K
    then limited 1 64 7 P.l
    then limited 16 32 8 P.log_q
    then limited 2 top_Q 9 P.b
    then limited 1 32 10 P.t₁
    then limited 1 32 11 P.t₂

-- a value of at least 1 is limited from 1 on as from 0 on
from_one : (greatest place x : ℕ) → 1 ≤ x → limited 0 greatest place x ≡ limited 1 greatest place x
from_one greatest place x h = rw (le-ltb x 0 (omega arith), le-ltb x 1 h)

-- "Jobs accepted before answer as before.": where both kinds are there, the limits are document 01's first list, then that of L
pub limits_as-before : (P : Parameters) → 1 ≤ P.K → 1 ≤ P.l → limits P ≡ first-limits P then limited 1 32 12 P.L
unfolding limits
limits_as-before P k l =
    let head = limited 1 64 1 P.n then limited 1 16 2 P.r then limited 1 16 3 P.κ then limited 1 16 4 P.κ₁ then limited 1 16 5 P.κ₂ in
    ap (λ a. a then limited 16 32 8 P.log_q then limited 2 top_Q 9 P.b then limited 1 32 10 P.t₁ then limited 1 32 11 P.t₂ then limited 1 32 12 P.L)
    (ap (λ a. head then limited 0 64 6 P.K then limited 0 64 7 P.l then a) (require-holds (dec_le 1 (P.K + P.l)) (refused 4 7) (omega arith))
    ∙ then_fine (head then limited 0 64 6 P.K then limited 0 64 7 P.l)
    ∙ ap (λ a. head then a then limited 0 64 7 P.l) (from_one 64 6 P.K k)
    ∙ ap (λ a. head then limited 1 64 6 P.K then a) (from_one 64 7 P.l l))
