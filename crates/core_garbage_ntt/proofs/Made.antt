-- h from the square of all inner products.
use mathlib.Core.Path.{◌≡◌, ap, ap₂, ◌∙◌}
use mathlib.Core.List.{List}
use Prim.Native.Nat.{ℕ, ◌+◌, ◌*◌, ◌≤◌}
use native.Mathlib.Omega.{arith}
use lib.ListN.{length, get_or}
use Rattle.math.specs.lists.Part.{splice}
use Rattle.math.proofs.lists.Splice.{length-splice}
use Rattle.spec_leaves.specs.Rq.{Element}
use Rattle.spec_protocol.specs.Formulas.{dot, flat, rows, triangle}
use Rattle.ring_rq_matrix.specs.Region.{vector}
use Rattle.core_garbage_polynomials.specs.Garbage.{h_of}
use Rattle.ntt_vectors.specs.NttForm.{ntt_words, NttForm}
use Rattle.core_garbage_ntt.specs.NttLines.{ntt_line, both_ways, lines_of}
use Rattle.core_garbage_ntt.proofs.LineLaws.{lines_are}
use Rattle.core_garbage_ntt.proofs.Square.{both_stored}

pub h-made : (S S₁ S₂ S₃ : List ℕ) (φ-at : ℕ) (s : List ℕ) (s-at r n at square to : ℕ) → n ≤ 64 → at + 192 * (r * n) ≤ square → square + 64 * (r * r) ≤ φ-at → φ-at ≤ length S
    → ((k : ℕ) → get_or S k 0 ≤ 4294967295)
    → S₁ ≡ splice S at (ntt_words s s-at (r * n)) → NttForm S₁ at s s-at (r * n) → S₂ ≡ splice S₁ square (flat (rows r r (ntt_line S₁ φ-at at n)))
    → S₃ ≡ splice S₂ to (flat (triangle r (both_ways S₂ square r)))
    → S₃ ≡ splice (lines_of S φ-at s s-at r n at square) to (flat (triangle r (h_of S φ-at s s-at n)))
unfolding lines_of
h-made S S₁ S₂ S₃ φ-at s s-at r n at square to few a b d small e₁ k e₂ e₃ =
    e₃ ∙ ap₂ (λ l cells. splice l to (flat cells)) (stored ∙ ap (λ l. splice l square (flat (rows r r f))) e₁)
    (both_stored S₁ S₂ square r f stored (omega (arith, ap length e₁, length-splice S at (ntt_words s s-at (r * n)))))
  where
    f : ℕ → ℕ → Element
    f i j = dot n (vector S φ-at n i) (vector s s-at n j)

    stored : S₂ ≡ splice S₁ square (flat (rows r r f))
    stored = e₂ ∙ ap (λ cells. splice S₁ square (flat cells)) (lines_are S S₁ at s s-at φ-at r n few e₁ (omega arith) k small)
