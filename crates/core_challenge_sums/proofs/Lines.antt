-- Σ⟨φ_i,z⟩·c_i is what the constraints' lines come to, weighed.
use mathlib.Core.Path.{◌≡◌, refl, ap, ap₂, ◌∙◌}
use mathlib.Core.List.{List}
use Prim.Native.Nat.{ℕ, ◌+◌, ◌*◌, ◌≤◌}
use native.Mathlib.Omega.{arith}
use Rattle.math.specs.lists.Part.{part}
use Rattle.math.proofs.algebra.Sum.{sum_ext}
use Rattle.math.proofs.algebra.Dot.{dot_ext}
use Rattle.spec_leaves.specs.Rq.{Element}
use Rattle.spec_leaves.specs.Ring.{RqOps, element}
use Rattle.spec_leaves.proofs.RqRing.{rq_ring}
use Rattle.spec_protocol.specs.Formulas.{◌⊕◌, ◌⊗◌, sum, dot}
use Rattle.ring_inner_product.specs.declared.Strided.{Strided}
use Rattle.ring_inner_product.specs.Run.{run, strided, further}
use Rattle.ring_rq_matrix.proofs.Word.{stands_for}
use Rattle.ring_challenge_products.specs.Powers.{PowersOf}
use Rattle.ring_challenge_products.proofs.Product.{powers_inner_product}
use Rattle.ntt_vectors.specs.NttForm.{NttForm}
use Rattle.core_aggregate.specs.Weighed.{mixed}
use Rattle.core_challenge_sums.specs.Lines.{combined, combined_line, weighed_lines, φ_lines}
use Rattle.core_challenge_sums.proofs.Swapped.{both_swapped}
use Rattle.core_challenge_sums.proofs.Columns.{line_is}

-- element m of vector i of constraint k, n elements a vector
abbrev at_vector : List ℕ → Strided → ℕ → ℕ → ℕ → ℕ → Element
at_vector words x n k i m = strided words (further x (i * n + m)) k

-- its place
place : (at step n k i m : ℕ) → at + step * k + 64 * m + 64 * n * i ≡ at + 64 * (i * n + m) + step * k
place at step n k i m = omega arith

-- the lines of one kind of constraints
weighed_is : (words : List ℕ) (x : Strided) (r n : ℕ) (c : List ℕ) (c-at : ℕ) (powers z weights : List ℕ) (weights-at : ℕ) (Z : List ℕ) (z_at : ℕ)
    → PowersOf powers c c-at r → n ≤ 64 → NttForm z 0 Z z_at n
    → weighed_lines words x r n powers z weights weights-at
    ≡ sum x.count (λ k. dot n (run Z z_at 64) (λ m. dot r (λ i. at_vector words x n k i m) (run c c-at 64)) ⊗ run weights weights-at 64 k)
unfolding combined
weighed_is words x r n c c-at powers z weights weights-at Z z_at made few form =
    sum_ext RqOps x.count (λ k. combined_line words (x.at + x.step * k) r n powers z ⊗ run weights weights-at 64 k)
    (λ k. dot n (run Z z_at 64) (λ m. dot r (λ i. at_vector words x n k i m) (run c c-at 64)) ⊗ run weights weights-at 64 k) (λ k l.
    ap (λ e. e ⊗ run weights weights-at 64 k)
    (line_is words (x.at + x.step * k) r n powers z Z z_at few form
    ∙ dot_ext RqOps n (run Z z_at 64) (run Z z_at 64) (combined words (x.at + x.step * k) r n powers) (λ m. dot r (λ i. at_vector words x n k i m) (run c c-at 64)) (λ m b. refl)
    (λ m b. stands_for _ (dot r (run words (x.at + x.step * k + 64 * m) (64 * n)) (run c c-at 64)) (powers_inner_product powers words (x.at + x.step * k + 64 * m) (64 * n) c c-at r made)
    ∙ dot_ext RqOps r (run words (x.at + x.step * k + 64 * m) (64 * n)) (λ i. at_vector words x n k i m) (run c c-at 64) (run c c-at 64)
    (λ i d. ap (λ p. element (part words p 64)) (place x.at x.step n k i m)) (λ i d. refl))))

-- both kinds
pub lines_are : (J : List ℕ) (x : Strided) (W : List ℕ) (alpha beta : ℕ) (S : List ℕ) (y : Strided) (r n c-at : ℕ) (powers z Z : List ℕ) (z_at : ℕ)
    → PowersOf powers S c-at r → n ≤ 64 → NttForm z 0 Z z_at n
    → weighed_lines J x r n powers z W alpha ⊕ weighed_lines S y r n powers z W beta ≡ φ_lines J x W alpha beta S y r n c-at Z z_at
unfolding mixed
lines_are J x W alpha beta S y r n c-at powers z Z z_at made few form =
    ap₂ ◌⊕◌ (weighed_is J x r n S c-at powers z W alpha Z z_at made few form) (weighed_is S y r n S c-at powers z W beta Z z_at made few form)
    ∙ both_swapped RqOps rq_ring x.count y.count r n (run W alpha 64) (run W beta 64) (run S c-at 64) (run Z z_at 64) (at_vector J x n) (at_vector S y n)
