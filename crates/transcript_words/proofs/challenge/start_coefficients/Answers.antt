use mathlib.Core.Path.{◌≡◌, refl, ◌∙◌, ap}
use mathlib.Core.Bool.{Bool, true, false, cond}
use mathlib.Core.List.{List}
use Prim.Native.Nat.{ℕ, ◌≤◌}
use native.Mathlib.Omega.{arith}
use borrow.Author.Tests.{le-ltb}
use lib.Dec.{ltb, eqb}
use lib.ListN.{get_or}
use Rattle.math.specs.lists.Table.{padded}
use Rattle.math.proofs.lists.Table.{table_ext}
use Rattle.math.proofs.lists.Padded.{padded-none, padded-next}
use Rattle.spec_leaves.specs.Zq.{zneg}
use Rattle.spec_leaves.specs.Challenge.{start_size, start_coeff, start}
use Rattle.spec_leaves.proofs.Cases.{ltb_cases}
use Rattle.transcript_words.proofs.challenge.start_coefficients.Goals as goal

-- the coefficients from 41 on are zero
rest : (signs : List ℕ) (k : ℕ) → 41 ≤ k → 0 ≡ start_coeff signs k
rest signs k h = simp (le-ltb k 31 (omega arith), le-ltb k 41 h) (zero_sign (eqb (get_or signs k 0) 1))
  where
    zero_sign : (b : Bool) → 0 ≡ cond b 0 (zneg 0)
    zero_sign true = refl
    zero_sign false = refl

-- with 41 coefficients stored all are the definition's
all-stored : (signs coeffs : List ℕ) (k : ℕ) → coeffs ≡ padded 64 k 0 (start_coeff signs) → k ≡ 41 → coeffs ≡ start signs
unfolding padded start
all-stored signs coeffs k e n =
    e
    ∙ ap (λ m. padded 64 m 0 (start_coeff signs)) n
    ∙ table_ext 64 (λ k. cond (ltb k 41) (start_coeff signs k) 0) (start_coeff signs)
    (λ k l. ltb_cases (λ t. cond t (start_coeff signs k) 0 ≡ start_coeff signs k) k 41 (λ h. refl) (λ h. rest signs k h))

-- a size with its sign is the coefficient
coefficient : (signs : List ℕ) (k v s : ℕ) → v ≡ cond (eqb (get_or signs k 0) 1) s (zneg s) → s ≡ start_size k → v ≡ start_coeff signs k
coefficient signs k v s e h = e ∙ ap (λ n. cond (eqb (get_or signs k 0) 1) n (zneg n)) h

pub loop-k-preserved : goal.loop-k-preserved
loop-k-preserved c =
    let l = c.loop-k in
    let signs = c.args.signs.now in
    (omega arith, padded-next 64 0 _ _ _ _ l.invariant.1 (omega arith) (coefficient signs l.k _ _ c.with_sign.ensures c.start_size.ensures))

pub returns : goal.returns
returns c = all-stored _ _ _ c.loop-k.invariant.1 (omega arith)

pub loop-k-init : goal.loop-k-init
loop-k-init c = (omega arith, padded-none 64 0 _)
