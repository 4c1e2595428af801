-- Of one accepted transcript that the prover made there is a fork, where check 23 has room for z at the flipped challenges: the premises of T4 can be met, and the witness is what it gives.
use mathlib.Core.Path.{◌≡◌, refl, sym, ap, subst, ◌∙◌}
use mathlib.Core.List.{List}
use Prim.Native.Nat.{ℕ, ◌+◌, ◌*◌, ◌%◌, ◌≤◌, ◌<◌}
use native.Mathlib.Nat.{le_refl}
use native.Mathlib.Omega.{arith}
use lib.ListN.{length, take}
use Rattle.math.specs.lists.Sum.{Σ}
use Rattle.math.proofs.lists.Sum.{Σ_ext}
use Rattle.math.proofs.algebra.Sum.{sum_ext}
use Rattle.spec_leaves.specs.Zq.{Q}
use Rattle.spec_leaves.specs.Answer.{fine, accepted}
use Rattle.spec_leaves.specs.Norm.{square}
use Rattle.spec_leaves.specs.Rq.{Element}
use Rattle.spec_leaves.specs.Ring.{RqOps, words}
use Rattle.spec_protocol.specs.Parameters.{parameters}
use Rattle.spec_protocol.specs.Layout.{span, job_refusal, randomness_refusal, witness_refusal, scratch_refusal, output_refusal}
use Rattle.spec_protocol.specs.Views.{public, witness}
use Rattle.spec_protocol.specs.Formulas as Formulas
use Rattle.spec_protocol.specs.Formulas.{◌⊗◌, one_if_left}
use Rattle.spec_protocol.specs.Prover.{whole, made_sections, prove_refusal, work_refusal, prove}
use Rattle.spec_protocol.specs.Conditions.{p_norm, constant_error, psi_error, digit_sum, cells_left, ring_error, alpha_error, conditions}
use Rattle.spec_protocol.proofs.Fine.{then_both_fine, then_fine_each}
use Rattle.spec_protocol.proofs.Accepted.{admitted, before-work, in_work}
use Rattle.spec_protocol.proofs.Alike.{upto, p_alike, h_alike}
use Rattle.spec_protocol.proofs.Handed.{four, work_alike}
use Rattle.spec_protocol.proofs.Stated.{stated}
use Rattle.theorem_extraction.specs.Fork.{Node, base, first, second, mixed, Used, SameWeights, Fork}
use Rattle.theorem_extraction.specs.Honest.{HonestFork, flipped, sign_place, flipped_at}
use Rattle.theorem_extraction.proofs.HonestRandomness.{alike_weights, node_alike}
use Rattle.theorem_extraction.proofs.HonestStored.{flipped-fine}
use Rattle.theorem_extraction.proofs.HonestFork.{flipped-fork, flipped-fork-honest, flipped-fork-randomness}

-- 7 and 8 of the randomness of each transcript that is used
node_fine : (J R : List ℕ) (v : Node) → Used (parameters J).r v → randomness_refusal (parameters J) 7 R ≡ fine → randomness_refusal (parameters J) 7 (flipped_at (parameters J) R v) ≡ fine
unfolding flipped_at
node_fine J R base used e = e
node_fine J R (first i) used e = flipped-fine J R i 0 used (omega arith) e
node_fine J R (second i) used e = flipped-fine J R i 1 used (omega arith) e
node_fine J R (mixed i j) used e =
    flipped-fine J (flipped (sign_place (parameters J) i 0) R) j 0 used.1 (omega arith) (flipped-fine J R i 0 (omega (arith, used.0, used.1)) (omega arith) e)

-- two slices of randomness that begin alike for five sections
module _ (J R R' : List ℕ) (alike : take (upto (parameters J) 5) R ≡ take (upto (parameters J) 5) R') where
  open parameters J use {n, r, κ, K, l, t₁, t₂, b, L, beta_prime_sq}

  -- the prover refuses the second nothing where it refuses the first nothing, and 7 and 8 do
  proved_alike : (W scratch output : List ℕ) → randomness_refusal (parameters J) 7 R' ≡ fine → prove whole J R W (length scratch) (length output) ≡ fine
      → prove whole J R' W (length scratch) (length output) ≡ fine
  unfolding prove prove_refusal work_refusal
  proved_alike W scratch output randomness e =
      let P = parameters J in
      let each = then_fine_each (job_refusal J) (randomness_refusal P 7 R) (witness_refusal P W) (scratch_refusal P (length scratch)) (output_refusal (made_sections whole P) (length output))
      (before-work whole J R W scratch output e)
      in
      then_both_fine
      (then_both_fine (then_both_fine (then_both_fine (then_both_fine each.0 randomness) each.2) each.3) each.4)
      (sym (work_alike J R R' (witness P W) four alike) ∙ in_work whole J R W scratch output e)

  module _ (s : ℕ → ℕ → Element) where
    weights : SameWeights (public J R) (public J R')
    weights = alike_weights J R R' (upto (parameters J) 5) alike (le_refl (upto (parameters J) 5))

    five_hold_one : upto (parameters J) 1 ≤ upto (parameters J) 5
    unfolding span
    five_hold_one = omega arith

    p_norm_alike : p_norm (public J R) s ≡ p_norm (public J R') s
    unfolding p_norm
    p_norm_alike = Σ_ext 256 (λ j. square (Formulas.p (public J R) s j)) (λ j. square (Formulas.p (public J R') s j))
        (λ j h. ap square (p_alike J R R' (upto (parameters J) 5) alike s five_hold_one j h))

    psi_error_alike : (k : ℕ) → k < L → psi_error (public J R) s k ≡ psi_error (public J R') s k
    unfolding psi_error constant_error
    psi_error_alike k h = ap (λ x. x % Q) (Σ_ext l (λ x. (public J R).psi k x * constant_error (public J R) s x) (λ x. (public J R').psi k x * constant_error (public J R') s x)
        (λ x e. ap (λ w. w * constant_error (public J R) s x) (weights.same_psi k h x e)))

    alpha_error_alike : alpha_error (public J R) s ≡ alpha_error (public J R') s
    unfolding alpha_error ring_error
    alpha_error_alike = sum_ext RqOps K (λ k. (public J R).alpha k ⊗ ring_error (public J R) s k) (λ k. (public J R').alpha k ⊗ ring_error (public J R') s k)
        (λ k h. ap (λ a. a ⊗ ring_error (public J R) s k) (weights.same_alpha k h))

    cells_left_alike : cells_left (public J R) s ≡ cells_left (public J R') s
    unfolding cells_left Formulas.t Formulas.g
    cells_left_alike =
        ap (λ x. Σ r (λ i. Σ κ (λ k. one_if_left b t₁ (Formulas.t (public J R) s i k))) + Σ r (λ i. Σ (i + 1) (λ j. one_if_left b t₂ (Formulas.g (public J R) s i j))) + x)
        (Σ_ext r (λ i. Σ (i + 1) (λ j. one_if_left b t₁ (Formulas.h (public J R) s i j))) (λ i. Σ (i + 1) (λ j. one_if_left b t₁ (Formulas.h (public J R') s i j))) (λ i hi.
        Σ_ext (i + 1) (λ j. one_if_left b t₁ (Formulas.h (public J R) s i j)) (λ j. one_if_left b t₁ (Formulas.h (public J R') s i j)) (λ j hj.
        ap (one_if_left b t₁) (h_alike J R R' (upto (parameters J) 5) alike s (le_refl (upto (parameters J) 5)) i j hi (omega arith)))))

    -- the four conditions hold of the second where they hold of the first and check 23 has room
    conditions_alike : (cells : ℕ) → conditions (public J R) s ≡ accepted cells → digit_sum (public J R') s ≤ beta_prime_sq → conditions (public J R') s ≡ accepted cells
    conditions_alike cells e room =
        let here = ((stated {X = public J R} {s = s} refl).accepts_exactly_when cells).0 e in
        ((stated {X = public J R'} {s = s} refl).accepts_exactly_when cells).1 (
          record {
            projection = subst (λ x. x ≤ 128 * (parameters J).beta_sq) p_norm_alike here.0.projection;
            psi = λ k h. sym (psi_error_alike k h) ∙ here.0.psi k h;
            digits = room;
            alpha = ap words (sym alpha_error_alike) ∙ here.0.alpha;
          },
          here.1 ∙ cells_left_alike,
        )

-- what honest forks exist of: the prover refuses nothing, the verdict is an acceptance with no cell left, and the digits of z, t, g and h are within beta_prime_sq at each of the fork's challenges
module _ (J R W scratch output : List ℕ)
    (proved : prove whole J R W (length scratch) (length output) ≡ fine)
    (held : conditions (public J R) (witness (parameters J) W) ≡ accepted 0)
    (room : (v : Node) → Used (parameters J).r v → digit_sum (public J (flipped_at (parameters J) R v)) (witness (parameters J) W) ≤ (parameters J).beta_prime_sq) where
  proved_at : (v : Node) → Used (parameters J).r v → prove whole J (flipped_at (parameters J) R v) W (length scratch) (length output) ≡ fine
  proved_at v used = proved_alike J R (flipped_at (parameters J) R v) (node_alike J R v) W scratch output (node_fine J R v used randomness) proved
    where
      randomness : randomness_refusal (parameters J) 7 R ≡ fine
      randomness = (admitted whole J R W (length scratch) (length output) (before-work whole J R W scratch output proved)).randomness

  held_at : (v : Node) → Used (parameters J).r v → conditions (public J (flipped_at (parameters J) R v)) (witness (parameters J) W) ≡ accepted 0
  held_at v used = conditions_alike J R (flipped_at (parameters J) R v) (node_alike J R v) (witness (parameters J) W) 0 held (room v used)

  -- there is a fork of the prover's transcripts
  pub honest-fork_exists : (F : Fork J) × HonestFork W F
  honest-fork_exists = (flipped-fork J R W scratch output proved_at held_at, flipped-fork-honest J R W scratch output proved_at held_at)

  -- its first transcript is that of R
  pub honest-fork-randomness : (honest-fork_exists.0.branch base).accepted.randomness ≡ R
  unfolding honest-fork_exists
  honest-fork-randomness = flipped-fork-randomness J R W scratch output proved_at held_at
