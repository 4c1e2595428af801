-- Honest trees exist: the forks of the prover's transcripts at randomness with 1 added to a weight are a tree.
use mathlib.Core.Path.{◌≡◌, refl, sym, ap, ◌∙◌}
use mathlib.Core.List.{List}
use Prim.Native.Nat.{ℕ, ◌≤◌, ◌<◌}
use native.Mathlib.Decide.{dec_lt}
use lib.ListN.{length}
use Rattle.spec_leaves.specs.Answer.{fine, accepted}
use Rattle.spec_protocol.specs.Parameters.{Parameters, parameters}
use Rattle.spec_protocol.specs.Layout.{randomness_refusal}
use Rattle.spec_protocol.specs.Views.{public, witness}
use Rattle.spec_protocol.specs.Prover.{whole, prove}
use Rattle.spec_protocol.specs.Conditions.{digit_sum, conditions}
use Rattle.theorem_extraction.specs.Fork.{Node, base, Used, Fork}
use Rattle.theorem_extraction.specs.Tree.{Place, root, beta, alpha, psi, psi-beta, omega, omega-beta, Within, trunk, Tree}
use Rattle.theorem_extraction.specs.Honest.{Made, HonestFork, HonestTree, flipped_at, raised, alpha_place, beta_place, psi_place, omega_place, raised_at}
use Rattle.theorem_extraction.proofs.Honest.{made_u1}
use Rattle.theorem_extraction.proofs.HonestStored.{alpha-fine, beta-fine, psi-fine, omega-fine}
use Rattle.theorem_extraction.proofs.HonestExists.{honest-fork_exists, honest-fork-randomness}
use Rattle.theorem_extraction.proofs.HonestWeights.{made-alpha, made-beta, made-psi, made-omega}

-- whether a fork is used
within? : (P : Parameters) (p : Place) → Dec (Within P p)
within? P root = yes (record {})
within? P beta = yes (record {})
within? P (alpha k) = dec_lt k P.K
within? P (psi x) = dec_lt x P.l
within? P (psi-beta x) = dec_lt x P.l
within? P (omega j) = dec_lt j 256
within? P (omega-beta j) = dec_lt j 256

-- it where it is, else the root
within_or-root : (P : Parameters) (p : Place) → Dec (Within P p) → Place
within_or-root P p (yes h) = p
within_or-root P p (no d) = root

is_within : (P : Parameters) (p : Place) (d : Dec (Within P p)) → Within P (within_or-root P p d)
unfolding within_or-root
is_within P p (yes h) = h
is_within P p (no d) = record {}

is_itself : (P : Parameters) (p : Place) (d : Dec (Within P p)) → Within P p → within_or-root P p d ≡ p
unfolding within_or-root
is_itself P p (yes h) within = refl
is_itself P p (no d) within = absurd (d within)

-- 7 and 8 of the randomness of each fork that is used
pub place-fine : (J R : List ℕ) (row : ℕ) → row < (parameters J).L → (p : Place) → Within (parameters J) p → randomness_refusal (parameters J) 7 R ≡ fine
    → randomness_refusal (parameters J) 7 (raised_at (parameters J) row R p) ≡ fine
unfolding raised_at
place-fine J R row h root within e = e
place-fine J R row h beta within e = beta-fine J R row h e
place-fine J R row h (alpha k) within e = alpha-fine J R k within e
place-fine J R row h (psi x) within e = psi-fine J R row x h within e
place-fine J R row h (psi-beta x) within e = beta-fine J (raised (psi_place (parameters J) row x) R) row h (psi-fine J R row x h within e)
place-fine J R row h (omega j) within e = omega-fine J R row j h within e
place-fine J R row h (omega-beta j) within e = beta-fine J (raised (omega_place (parameters J) row j) R) row h (omega-fine J R row j h within e)

-- what honest trees exist of: the prover's transcripts at each fork's randomness are made, are accepted with no cell left, and check 23 has room for z at the flipped challenges
module _ (J R W scratch output : List ℕ) (row : ℕ) (row_below : row < (parameters J).L)
    (proved : (p : Place) → Within (parameters J) p → prove whole J (raised_at (parameters J) row R p) W (length scratch) (length output) ≡ fine)
    (held : (p : Place) → Within (parameters J) p → conditions (public J (raised_at (parameters J) row R p)) (witness (parameters J) W) ≡ accepted 0)
    (room : (p : Place) → Within (parameters J) p → (v : Node) → Used (parameters J).r v
    → digit_sum (public J (flipped_at (parameters J) (raised_at (parameters J) row R p) v)) (witness (parameters J) W) ≤ (parameters J).beta_prime_sq) where
  -- the fork of one that is used
  fork_at : (p : Place) → Within (parameters J) p → (F : Fork J) × HonestFork W F
  fork_at p within = honest-fork_exists J (raised_at (parameters J) row R p) W scratch output (proved p within) (held p within) (room p within)

  abbrev place : Place → Place
  place p = within_or-root (parameters J) p (within? (parameters J) p)

  abbrev forks : Place → Fork J
  forks p = (fork_at (place p) (is_within (parameters J) p (within? (parameters J) p))).0

  honest : (p : Place) → HonestFork W (forks p)
  honest p = (fork_at (place p) (is_within (parameters J) p (within? (parameters J) p))).1

  made : (p : Place) → Made W (trunk (forks p))
  made p = honest p base (record {})

  -- the randomness of the first transcript of a fork
  randomness : (p : Place) → Within (parameters J) p → (trunk (forks p)).accepted.randomness ≡ raised_at (parameters J) row R p
  unfolding fork_at
  randomness p within =
      let it = is_within (parameters J) p (within? (parameters J) p) in
      honest-fork-randomness J (raised_at (parameters J) row R (place p)) W scratch output (proved (place p) it) (held (place p) it) (room (place p) it)
      ∙ ap (raised_at (parameters J) row R) (is_itself (parameters J) p (within? (parameters J) p) within)

  -- raised from that of another fork
  raised-from : (p q : Place) (at : ℕ) → Within (parameters J) p → Within (parameters J) q → raised_at (parameters J) row R q ≡ raised at (raised_at (parameters J) row R p)
      → (trunk (forks q)).accepted.randomness ≡ raised at (trunk (forks p)).accepted.randomness
  raised-from p q at h k e = randomness q k ∙ e ∙ ap (raised at) (sym (randomness p h))

  -- there is a tree of the prover's transcripts
  pub honest_tree_exists : (T : Tree J) × HonestTree W T
  unfolding raised_at
  honest_tree_exists = (
    record {
      fork = forks;
      row = row;
      row_below = row_below;
      same_u1 = λ p within. made_u1 J W (trunk (forks root)) (trunk (forks p)) (made root) (made p);
      at_alpha = λ k h. made-alpha J W (trunk (forks root)) (trunk (forks (alpha k))) (made root) (made (alpha k)) k h
          (raised-from root (alpha k) (alpha_place (parameters J) k) (record {}) h refl);
      at_beta = made-beta J W (trunk (forks root)) (trunk (forks beta)) (made root) (made beta) row row_below
          (raised-from root beta (beta_place (parameters J) row) (record {}) (record {}) refl);
      at_psi = λ x h. made-psi J W (trunk (forks root)) (trunk (forks (psi x))) (made root) (made (psi x)) row x row_below h
          (raised-from root (psi x) (psi_place (parameters J) row x) (record {}) h refl);
      at_psi_beta = λ x h. made-beta J W (trunk (forks (psi x))) (trunk (forks (psi-beta x))) (made (psi x)) (made (psi-beta x)) row row_below
          (raised-from (psi x) (psi-beta x) (beta_place (parameters J) row) h h refl);
      at_omega = λ j h. made-omega J W (trunk (forks root)) (trunk (forks (omega j))) (made root) (made (omega j)) row j row_below h
          (raised-from root (omega j) (omega_place (parameters J) row j) (record {}) h refl);
      at_omega_beta = λ j h. made-beta J W (trunk (forks (omega j))) (trunk (forks (omega-beta j))) (made (omega j)) (made (omega-beta j)) row row_below
          (raised-from (omega j) (omega-beta j) (beta_place (parameters J) row) h h refl);
    },
    λ p within. honest p,
  )
