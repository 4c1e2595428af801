-- The cells of the contracts are those of the prover's formulas.
use mathlib.Core.Path.{◌≡◌, refl, ap₂}
use mathlib.Core.List.{List}
use Prim.Native.Nat.{ℕ, ◌<◌}
use Rattle.math.proofs.algebra.Dot.{dot_ext}
use Rattle.spec_leaves.specs.Ring.{RqOps}
use Rattle.spec_protocol.specs.Layout.{start, witness_sections}
use Rattle.spec_protocol.specs.Views.{public, witness}
use Rattle.spec_protocol.specs.Formulas as F
use Rattle.spec_protocol.specs.Formulas.{◌⊕◌, dot, triangle}
use Rattle.spec_protocol.proofs.Region.{Vectors, triangle_ext}
use Rattle.ring_rq_matrix.specs.Region.{vector, gram}
use Rattle.core_garbage_polynomials.specs.Garbage.{h_of}

module _ (J R W : List ℕ) where
  open public J R use {P}
  open P use {n, r}

  -- g of the witness
  pub g_formula : triangle r (gram W (start (witness_sections P) 0) n) ≡ triangle r (F.g (public J R) (witness P W))
  unfolding F.g
  g_formula = refl

  -- h of the witness and of the φ that a slice holds
  pub h_formula : (S : List ℕ) (φ-at : ℕ) → Vectors S φ-at r n (F.φ_sum (public J R))
      → triangle r (h_of S φ-at W (start (witness_sections P) 0) n) ≡ triangle r (F.h (public J R) (witness P W))
  unfolding F.h
  h_formula S φ-at holds =
      triangle_ext r (h_of S φ-at W (start (witness_sections P) 0) n) (λ i j. dot n (F.φ_sum (public J R) i) (witness P W j) ⊕ dot n (F.φ_sum (public J R) j) (witness P W i))
      (λ i j l m. ap₂ ◌⊕◌ (line i j l) (line j i m))
    where
      line : (i j : ℕ) → i < r → dot n (vector S φ-at n i) (witness P W j) ≡ dot n (F.φ_sum (public J R) i) (witness P W j)
      line i j l = dot_ext RqOps n (vector S φ-at n i) (F.φ_sum (public J R) i) (witness P W j) (witness P W j) (λ k m. holds i k l m) (λ k m. refl)
