-- An inner product with a vector that is zero from a place on.
use mathlib.Core.Path.{◌≡◌, sym, ◌∙◌, ap}
use Prim.Native.Nat.{ℕ, ◌+◌, ◌-◌, ◌≤◌, ◌<◌}
use native.Mathlib.Omega.{arith}
use Rattle.math.specs.algebra.Ops.{Ops, dot}
use Rattle.math.proofs.algebra.Ring.{CRing, mul-nil}
use Rattle.math.proofs.algebra.Sum.{sum_is-nil}
use Rattle.math.proofs.algebra.Dot.{dot_split}

-- it is that with the entries before
pub dot_used : (O : Ops) (R : CRing O) (m n : ℕ) (f g : ℕ → O.Carrier) → m ≤ n → ((i : ℕ) → m ≤ i → i < n → g i ≡ O.nil) → dot O m f g ≡ dot O n f g
unfolding dot
dot_used O R m n f g h z =
    let whole : m + (n - m) ≡ n = omega arith in
    sym (ap (λ k. dot O k f g) (sym whole)
    ∙ dot_split O R m (n - m) f g
    ∙ ap (O.add (dot O m f g)) (sum_is-nil O R (n - m) (λ i. O.mul (f (m + i)) (g (m + i))) (λ i l. ap (O.mul (f (m + i))) (z (m + i) (omega arith) (omega arith)) ∙ mul-nil O R (f (m + i))))
    ∙ R.add-nil (dot O m f g))
