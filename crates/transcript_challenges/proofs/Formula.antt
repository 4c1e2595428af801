-- The challenges and z of the contracts are those of the public values and of the prover's formulas.
use mathlib.Core.Path.{◌≡◌, refl, sym, ap, ap₂, subst, ◌∙◌}
use mathlib.Core.List.{List}
use Prim.Native.Nat.{ℕ, ◌+◌, ◌*◌}
use native.Mathlib.Omega.{arith}
use lib.ListN.{length}
use Rattle.math.specs.lists.Table.{table}
use Rattle.math.specs.lists.Part.{part}
use Rattle.math.proofs.lists.Table.{length-table, get_or-table, table_ext}
use Rattle.math.proofs.lists.Part.{part_of-part, part_flat_map}
use Rattle.math.proofs.algebra.Sum.{sum_ext}
use Rattle.spec_leaves.specs.Rq.{Element}
use Rattle.spec_leaves.specs.Ring.{RqOps, words, element}
use Rattle.spec_leaves.specs.Challenge.{challenge}
use Rattle.spec_leaves.proofs.Bridge.{words-element}
use Rattle.spec_leaves.proofs.Challenge.{length-challenge, challenge-canonical}
use Rattle.ring_inner_product.specs.Run.{run}
use Rattle.ring_challenge_products.specs.Powers.{Sparse, AllSparse}
use Rattle.ring_challenge_products.proofs.Sparse.{challenge-sparse}
use Rattle.spec_protocol.specs.Layout.{start, randomness_sections, witness_sections}
use Rattle.spec_protocol.specs.Views.{public, witness}
use Rattle.spec_protocol.specs.Formulas as F
use Rattle.spec_protocol.specs.Formulas.{◌⊗◌, sum, flat}
use Rattle.spec_protocol.proofs.Flat.{length-words, length-flat-table}
use Rattle.spec_protocol.proofs.Region.{Elements}
use Rattle.ring_rq_matrix.specs.Region.{vector}

-- a challenge's coefficients are the words of its element
pub words_of-challenge : (l ws : List ℕ) (signs signs' shuffle shuffle' : ℕ) → l ≡ challenge (part ws signs 41) (part ws shuffle 63) → signs ≡ signs' → shuffle ≡ shuffle'
    → l ≡ words (element (challenge (part ws signs' 41) (part ws shuffle' 63)))
words_of-challenge l ws signs signs' shuffle shuffle' h e f =
    h
    ∙ ap₂ (λ a b. challenge (part ws a 41) (part ws b 63)) e f
    ∙ sym (words-element (challenge (part ws signs' 41) (part ws shuffle' 63))
    (length-challenge (part ws signs' 41) (part ws shuffle' 63), challenge-canonical (part ws signs' 41) (part ws shuffle' 63)))

-- challenges that stand one after the other in a slice have few coefficients
pub challenges-sparse : (S : List ℕ) (at r : ℕ) (signs shuffle : ℕ → List ℕ)
    → part S at (length (flat (table r (λ i. element (challenge (signs i) (shuffle i)))))) ≡ flat (table r (λ i. element (challenge (signs i) (shuffle i)))) → AllSparse S at r
unfolding flat
challenges-sparse S at r signs shuffle held i h = subst Sparse (sym stands) (challenge-sparse (signs i) (shuffle i))
  where
    c : ℕ → Element
    c i = element (challenge (signs i) (shuffle i))

    stands : part S (at + 64 * i) 64 ≡ challenge (signs i) (shuffle i)
    stands =
        sym (part_of-part S at (length (flat (table r c))) (64 * i) 64 (omega (arith, length-flat-table r c)))
        ∙ ap (λ l. part l (64 * i) 64) held
        ∙ part_flat_map words 64 length-words (table r c) i (c 0) (omega (arith, length-table r c))
        ∙ ap words (get_or-table r c i (c 0) h)
        ∙ words-element (challenge (signs i) (shuffle i)) (length-challenge (signs i) (shuffle i), challenge-canonical (signs i) (shuffle i))

module _ (J R : List ℕ) where
  open public J R use {P, c}
  open P use {n, r}

  -- the challenges of the randomness
  pub challenges_formula : table r (λ i. element (challenge (part R (start (randomness_sections P) 5 + 41 * i) 41) (part R (start (randomness_sections P) 6 + 63 * i) 63))) ≡ table r c
  challenges_formula = refl

  -- z of the witness and of the challenges that a slice holds
  pub z_formula : (W S : List ℕ) (c-at : ℕ) → Elements S c-at r c
      → table n (λ m. sum r (λ i. vector W (start (witness_sections P) 0) n i m ⊗ run S c-at 64 i)) ≡ table n (F.z (public J R) (witness P W))
  unfolding F.z
  z_formula W S c-at holds =
      table_ext n (λ m. sum r (λ i. witness P W i m ⊗ run S c-at 64 i)) (λ m. sum r (λ i. witness P W i m ⊗ c i))
      (λ m l. sum_ext RqOps r (λ i. witness P W i m ⊗ run S c-at 64 i) (λ i. witness P W i m ⊗ c i) (λ i k. ap (λ e. witness P W i m ⊗ e) (holds i k)))
