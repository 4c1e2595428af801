-- Transcripts of one job with the same randomness in part: the formulas that read no more are the same.
use mathlib.Core.Path.{◌≡◌, refl, ap}
use mathlib.Core.List.{List}
use Prim.Native.Nat.{ℕ, ◌*◌, ◌%◌, ◌<◌}
use Rattle.math.proofs.lists.Sum.{Σ_ext}
use Rattle.math.proofs.algebra.Sum.{sum_ext}
use Rattle.math.proofs.algebra.Form.{form_ext}
use Rattle.spec_leaves.specs.Zq.{Q}
use Rattle.spec_leaves.specs.Rq.{Element}
use Rattle.spec_leaves.specs.Ring.{RqOps, scale}
use Rattle.spec_protocol.specs.Parameters.{parameters}
use Rattle.spec_protocol.specs.Formulas as F
use Rattle.spec_protocol.specs.Formulas.{coefficient}
use Rattle.spec_protocol.specs.Conditions.{constant_error, ring_error}
use Rattle.theorem_extraction.specs.Fork.{Branch, values, SameΠ, SamePsi, SameOmega}
use Rattle.theorem_extraction.proofs.SameWeights.{same-φ''}

module _ {J : List ℕ} (X Y : Branch J) (s : ℕ → ℕ → Element) where
  open parameters J use {n, r, l}
  open values X use {a'}

  -- row k of b'', of the same Π and the same rows k
  pub b''-same : SameΠ (values X) (values Y) → (k : ℕ) → SamePsi (values X) (values Y) k → SameOmega (values X) (values Y) k → F.b'' (values X) s k ≡ F.b'' (values Y) s k
  unfolding F.b'' F.a''
  b''-same same_Π k same_psi same_omega =
      form_ext RqOps r n (F.a'' (values X) k) (F.a'' (values Y) k) (F.φ'' (values X) k) (F.φ'' (values Y) k) s s
      (λ i j hi hj. sum_ext RqOps l (λ x. scale (a' x i j) ((values X).psi k x)) (λ x. scale (a' x i j) ((values Y).psi k x)) (λ x h. ap (scale (a' x i j)) (same_psi x h)))
      (same-φ'' X Y same_Π k same_psi same_omega)
      (λ i m hi hm. refl)

  -- entry j of p, of the same Π
  pub p-same : SameΠ (values X) (values Y) → (j : ℕ) → j < 256 → F.p (values X) s j ≡ F.p (values Y) s j
  unfolding F.p F.projection
  p-same same_Π j h =
      ap (λ x. x % Q) (Σ_ext r (λ i. F.projection (values X) s i j) (λ i. F.projection (values Y) s i j)
      (λ i hi. Σ_ext (64 * n) (λ m. (values X).Π i j m * coefficient (s i) m) (λ m. (values Y).Π i j m * coefficient (s i) m) (λ m hm. ap (λ w. w * coefficient (s i) m) (same_Π i j m hi h hm))))

  -- the errors of the constraints read no randomness
  pub constant_error-same : (x : ℕ) → constant_error (values X) s x ≡ constant_error (values Y) s x
  unfolding constant_error
  constant_error-same x = refl

  pub ring_error-same : (k : ℕ) → ring_error (values X) s k ≡ ring_error (values Y) s k
  unfolding ring_error
  ring_error-same k = refl
