-- Two transcripts that the prover made of one witness, the second with 1 added to a weight of the first's randomness: they fork at that weight.
use mathlib.Core.Path.{◌≡◌, sym, ap, subst, ◌∙◌}
use mathlib.Core.List.{List}
use Prim.Native.Nat.{ℕ, ◌+◌, ◌*◌, ◌%◌, ◌≤◌, ◌<◌}
use native.Mathlib.Nat.{le_refl}
use native.Mathlib.Omega.{arith}
use lib.ListN.{get_or, take}
use lib.Seq.{get_or-set_other, take-set-le}
use Rattle.math.proofs.lists.Rows.{index_below}
use Rattle.spec_leaves.specs.Zq.{Q}
use Rattle.spec_leaves.specs.Ring.{residue, ZqOps, RqOps, element}
use Rattle.spec_protocol.specs.Parameters.{parameters}
use Rattle.spec_protocol.specs.Layout.{span, start, randomness_sections}
use Rattle.spec_protocol.specs.Views.{public, witness}
use Rattle.spec_protocol.proofs.Alike.{upto, p_alike, b''_alike}
use Rattle.theorem_extraction.specs.Fork.{Branch}
use Rattle.theorem_extraction.specs.Tree.{DifferAt, SameRows, AtAlpha, AtBeta, SameProjection, AtPsi, AtOmega}
use Rattle.theorem_extraction.specs.Honest.{Made, raised, alpha_place, beta_place, psi_place, omega_place}
use Rattle.theorem_extraction.proofs.Honest.{made_agrees, made-size}
use Rattle.theorem_extraction.proofs.HonestRandomness.{stored_elsewhere, alike_Π, alike_psi, alike_omega, alike_alpha}
use Rattle.theorem_extraction.proofs.HonestRaised.{raised-words, raised_elements}

module _ (J W : List ℕ) where
  open parameters J use {K, l, L}

  abbrev of : ℕ → ℕ
  of = start (randomness_sections (parameters J))

  -- two transcripts that the prover made
  module _ (X Y : Branch J) (made : Made W X) (made' : Made W Y) where
    abbrev A : List ℕ
    A = X.accepted.randomness

    abbrev B : List ℕ
    B = Y.accepted.randomness

    -- randomness alike for three sections: the same rows
    rows_alike : take (upto (parameters J) 3) A ≡ take (upto (parameters J) 3) B → SameRows X Y
    unfolding span
    rows_alike alike = record {
      same_Π = alike_Π J A B (upto (parameters J) 3) alike (omega arith);
      same_psi = alike_psi J A B (upto (parameters J) 3) alike (omega arith);
      same_omega = alike_omega J A B (upto (parameters J) 3) alike (omega arith);
      same_b'' = λ k h. (made_agrees J W X made).b'' k h
          ∙ b''_alike J A B (upto (parameters J) 3) alike (witness (parameters J) W) (le_refl (upto (parameters J) 3)) k h
          ∙ sym ((made_agrees J W Y made').b'' k h);
    }

    -- for one: the same Π and p
    projection_alike : take (upto (parameters J) 1) A ≡ take (upto (parameters J) 1) B → SameProjection X Y
    projection_alike alike = record {
      same_Π = alike_Π J A B (upto (parameters J) 1) alike (le_refl (upto (parameters J) 1));
      same_p = λ j h. (made_agrees J W X made).p j h
          ∙ p_alike J A B (upto (parameters J) 1) alike (witness (parameters J) W) (le_refl (upto (parameters J) 1)) j h
          ∙ sym ((made_agrees J W Y made').p j h);
    }

    -- before a raised word they are alike
    starts : (p N : ℕ) → B ≡ raised p A → N ≤ p → take N A ≡ take N B
    unfolding raised
    starts p N e h = sym (ap (take N) e ∙ take-set-le N A p ((get_or A p 0 + 1) % Q) h)

    pub made-alpha : (k : ℕ) → k < K → B ≡ raised (alpha_place (parameters J) k) A → AtAlpha X Y k
    unfolding raised span start
    made-alpha k h e =
        let p = alpha_place (parameters J) k in
        record {
          rows = rows_alike (starts p (upto (parameters J) 3) e (omega arith));
          alphas = subst (λ S. DifferAt RqOps K k (public J A).alpha (public J S).alpha) (sym e) (raised_elements A (of 3) K k (omega (arith, made-size J W X made)));
          betas = λ i j. sym (ap (λ S. (public J S).beta i) e ∙ ap element (stored_elsewhere p ((get_or A p 0 + 1) % Q) A (of 4 + 64 * i) 64 (λ m a b f. omega arith)));
        }

    pub made-beta : (k : ℕ) → k < L → B ≡ raised (beta_place (parameters J) k) A → AtBeta X Y k
    unfolding span start
    made-beta k h e =
        let p = beta_place (parameters J) k in
        record {
          rows = rows_alike (starts p (upto (parameters J) 3) e (omega arith));
          alphas = alike_alpha J A B (upto (parameters J) 4) (starts p (upto (parameters J) 4) e (omega arith)) (le_refl (upto (parameters J) 4));
          betas = subst (λ S. DifferAt RqOps L k (public J A).beta (public J S).beta) (sym e) (raised_elements A (of 4) L k (omega (arith, made-size J W X made)));
        }

    pub made-psi : (k x : ℕ) → k < L → x < l → B ≡ raised (psi_place (parameters J) k x) A → AtPsi X Y k x
    unfolding raised span start
    made-psi k x h g e =
        let p = psi_place (parameters J) k x in
        let below = index_below L l k x h g in
        record {
          projection = projection_alike (starts p (upto (parameters J) 1) e (omega arith));
          psis = subst (λ S. DifferAt ZqOps l x (λ i. residue ((public J A).psi k i)) (λ i. residue ((public J S).psi k i))) (sym e)
              (raised-words A (λ i. of 1 + (k * l + i)) l x (λ i f. omega arith) (omega (arith, made-size J W X made, below)));
          omegas = λ j m. sym (ap (λ S. (public J S).omega k j) e ∙ get_or-set_other A p (of 2 + (k * 256 + j)) ((get_or A p 0 + 1) % Q) 0 (λ f. omega (arith, f, below)));
        }

    pub made-omega : (k j : ℕ) → k < L → j < 256 → B ≡ raised (omega_place (parameters J) k j) A → AtOmega X Y k j
    unfolding span start
    made-omega k j h g e =
        let p = omega_place (parameters J) k j in
        let below = index_below L 256 k j h g in
        record {
          projection = projection_alike (starts p (upto (parameters J) 1) e (omega arith));
          psis = alike_psi J A B (upto (parameters J) 2) (starts p (upto (parameters J) 2) e (omega arith)) (le_refl (upto (parameters J) 2)) k h;
          omegas = subst (λ S. DifferAt ZqOps 256 j (λ i. residue ((public J A).omega k i)) (λ i. residue ((public J S).omega k i))) (sym e)
              (raised-words A (λ i. of 2 + (k * 256 + i)) 256 j (λ i f. omega arith) (omega (arith, made-size J W X made, below)));
        }
