-- Honest forks exist: the prover's transcripts at randomness with sign words flipped are a fork, where they are made and accepted.
use mathlib.Core.Path.{◌≡◌, refl, sym, ap, ◌∙◌}
use mathlib.Core.Bool.{cond}
use mathlib.Core.List.{List}
use mathlib.Core.Logic.{◌≢◌}
use Prim.Native.Nat.{ℕ, ◌<◌}
use native.Mathlib.Nat.{le_refl}
use native.Mathlib.Decide.{dec_lt, ℕ_discrete}
use native.Mathlib.Omega.{arith}
use lib.Dec.{eqb}
use lib.ListN.{length, take}
use borrow.Author.Tests.{eq-eqb, ne_eqb}
use Rattle.spec_leaves.specs.Answer.{fine, accepted}
use Rattle.spec_leaves.specs.Rq.{Element}
use Rattle.spec_leaves.specs.Ring.{RqOps}
use Rattle.spec_protocol.specs.Parameters.{parameters}
use Rattle.spec_protocol.specs.Layout.{span, randomness_sections, scratch_need}
use Rattle.spec_protocol.specs.Views.{public, witness}
use Rattle.spec_protocol.specs.Formulas as Formulas
use Rattle.spec_protocol.specs.Formulas.{◌⊗◌, digits_of, times}
use Rattle.spec_protocol.specs.Prover.{whole, prove}
use Rattle.spec_protocol.specs.Conditions.{conditions}
use Rattle.spec_protocol.proofs.Alike.{upto, h_alike}
use Rattle.spec_protocol.proofs.Demand3.{demand_3}
use Rattle.spec_protocol.proofs.Region.{triangle_ext}
use Rattle.spec_binding.specs.Openings.{nil, EqualU2}
use Rattle.theorem_soundness.specs.Altered.{made_transcript}
use Rattle.theorem_extraction.specs.Fork.{Branch, challenge_of, ◌⊖◌, Node, base, first, second, mixed, Used, changed, c, x, y, challenges_at, Fork}
use Rattle.theorem_extraction.specs.Honest.{Made, HonestFork, flipped, sign_place, flipped_at, UnitDifferences}
use Rattle.theorem_extraction.proofs.Honest.{made_agrees, made-size, made_u1}
use Rattle.theorem_extraction.proofs.HonestRandomness.{alike_weights, node_alike, challenge_stays, challenge_again, units_at}

-- whether a transcript is used
used? : (r : ℕ) (v : Node) → Dec (Used r v)
used? r base = yes (record {})
used? r (first i) = dec_lt i r
used? r (second i) = dec_lt i r
used? r (mixed i j) = both (dec_lt i j) (dec_lt j r)
  where
    both : Dec (i < j) → Dec (j < r) → Dec ((i < j) × (j < r))
    both (yes h) (yes l) = yes (h, l)
    both (yes h) (no d) = no (λ p. d p.1)
    both (no d) l = no (λ p. d p.0)

-- it where it is, else the first
used_or_base : (r : ℕ) (v : Node) → Dec (Used r v) → Node
used_or_base r v (yes h) = v
used_or_base r v (no d) = base

is_used : (r : ℕ) (v : Node) (d : Dec (Used r v)) → Used r (used_or_base r v d)
unfolding used_or_base
is_used r v (yes h) = h
is_used r v (no d) = record {}

is_itself : (r : ℕ) (v : Node) (d : Dec (Used r v)) → Used r v → used_or_base r v d ≡ v
unfolding used_or_base
is_itself r v (yes h) used = refl
is_itself r v (no d) used = absurd (d used)

-- what is x at i, and c k at any other k, is c with c_i → x
changed_at : (c : ℕ → Element) (i : ℕ) (x e : Element) (k : ℕ) → (k ≡ i → e ≡ x) → (k ≢ i → e ≡ c k) → e ≡ changed c i x k
unfolding changed
changed_at c i x e k there elsewhere = go (ℕ_discrete k i)
  where
    go : Dec (k ≡ i) → e ≡ cond (eqb k i) x (c k)
    go (yes q) = there q ∙ ap (λ t. cond t x (c k)) (sym (eq-eqb k i q))
    go (no d) = elsewhere d ∙ ap (λ t. cond t x (c k)) (sym (ne_eqb k i d))

module _ (J R W scratch output : List ℕ)
    (proved : (v : Node) → Used (parameters J).r v → prove whole J (flipped_at (parameters J) R v) W (length scratch) (length output) ≡ fine)
    (held : (v : Node) → Used (parameters J).r v → conditions (public J (flipped_at (parameters J) R v)) (witness (parameters J) W) ≡ accepted 0) where
  open parameters J use {r, κ₁, κ₂, b, t₁}

  -- the transcript of one that is used
  abbrev branch_at : (v : Node) → Used r v → Branch J
  branch_at v used = record {
    transcript = made_transcript J (flipped_at (parameters J) R v) W scratch output;
    accepted = record {
      randomness = flipped_at (parameters J) R v;
      scratch = scratch_need (parameters J);
      verdict = demand_3 J (flipped_at (parameters J) R v) W scratch output (scratch_need (parameters J)) (proved v used) (le_refl (scratch_need (parameters J))) ∙ held v used;
    };
  }

  abbrev node : Node → Node
  node v = used_or_base r v (used? r v)

  abbrev branches : Node → Branch J
  branches v = branch_at (node v) (is_used r v (used? r v))

  made : (v : Node) → Made W (branches v)
  made v = record { scratch = scratch; output = output; proved = proved (node v) (is_used r v (used? r v)); is_output = refl }

  -- the length of the randomness
  size : length R ≡ span (randomness_sections (parameters J))
  unfolding used? used_or_base flipped_at
  size = made-size J W (branches base) (made base)

  -- challenge k of a transcript
  abbrev at : Node → ℕ → Element
  at v k = (public J (flipped_at (parameters J) R v)).c k

  at_used : (v : Node) → Used r v → (k : ℕ) → challenge_of (branches v) k ≡ at v k
  at_used v used k = ap (λ w. (public J (flipped_at (parameters J) R w)).c k) (is_itself r v (used? r v) used)

  at_base : (k : ℕ) → challenge_of (branches base) k ≡ (public J R).c k
  unfolding used? used_or_base flipped_at
  at_base k = refl

  other_stays : (i j k : ℕ) → j < 41 → i < r → k ≢ i → (public J (flipped (sign_place (parameters J) i j) R)).c k ≡ challenge_of (branches base) k
  other_stays i j k h l d = challenge_stays J R i j k h l d ∙ sym (at_base k)

  same_challenges : (v : Node) → Used r v → (k : ℕ) → k < r → challenge_of (branches v) k ≡ challenges_at branches v k
  unfolding flipped_at
  same_challenges base used k h = refl
  same_challenges (first i) used k h =
      changed_at (c branches) i (x branches i) (challenge_of (branches (first i)) k) k (λ e. ap (challenge_of (branches (first i))) e)
      (λ d. at_used (first i) used k ∙ other_stays i 0 k (omega arith) used d)
  same_challenges (second i) used k h =
      changed_at (c branches) i (y branches i) (challenge_of (branches (second i)) k) k (λ e. ap (challenge_of (branches (second i))) e)
      (λ d. at_used (second i) used k ∙ other_stays i 1 k (omega arith) used d)
  same_challenges (mixed i j) used k h =
      changed_at (changed (c branches) i (x branches i)) j (x branches j) (challenge_of (branches (mixed i j)) k) k
      (λ e. ap (challenge_of (branches (mixed i j))) e ∙ at_used (mixed i j) used j ∙ challenge_again J R i j used.0 used.1 size ∙ sym (at_used (first j) used.1 j))
      (λ d. changed_at (c branches) i (x branches i) (challenge_of (branches (mixed i j)) k) k
      (λ e. stays d ∙ sym (at_used (first i) below k) ∙ ap (challenge_of (branches (first i))) e)
      (λ d'. stays d ∙ other_stays i 0 k (omega arith) below d'))
    where
      below : i < r
      below = omega (arith, used.0, used.1)

      stays : k ≢ j → challenge_of (branches (mixed i j)) k ≡ (public J (flipped (sign_place (parameters J) i 0) R)).c k
      stays d = at_used (mixed i j) used k ∙ challenge_stays J (flipped (sign_place (parameters J) i 0) R) j 0 k (omega arith) used.1 d

  -- u2 reads no challenge
  alike : (v : Node) → take (upto (parameters J) 5) (branches base).accepted.randomness ≡ take (upto (parameters J) 5) (branches v).accepted.randomness
  alike v = sym (node_alike J R (node base)) ∙ node_alike J R (node v)

  same_u2 : (v : Node) → EqualU2 J (branches base).transcript (branches v).transcript
  unfolding Formulas.u₂ Formulas.u₂_of
  same_u2 v k h =
      (made_agrees J W (branches base) (made base)).u₂ k h
      ∙ ap (λ l. times (public J R).D (digits_of b t₁ l) k) (triangle_ext r
      (Formulas.h (public J (branches base).accepted.randomness) (witness (parameters J) W)) (Formulas.h (public J (branches v).accepted.randomness) (witness (parameters J) W))
      (λ i j hi hj.
      h_alike J (branches base).accepted.randomness (branches v).accepted.randomness (upto (parameters J) 5) (alike v) (witness (parameters J) W) (le_refl (upto (parameters J) 5)) i j hi hj))
      ∙ sym ((made_agrees J W (branches v) (made v)).u₂ k h)

  -- the units, of the fork's challenges
  units : (i : ℕ) → i < r → UnitDifferences (c branches i) (x branches i) (y branches i)
  units i h = rw (at_base i, at_used (first i) h i, at_used (second i) h i) (units_at J R i h size)

  -- the inverse of x_i − c_i, of an i that is used
  inverse_of : (i : ℕ) → Dec (i < r) → Element
  inverse_of i (yes h) = (units i h).unit_x.0
  inverse_of i (no d) = nil

  inverse-holds : (i : ℕ) (d : Dec (i < r)) → i < r → (x branches i ⊖ c branches i) ⊗ inverse_of i d ≡ RqOps.one
  unfolding inverse_of
  inverse-holds i (yes h) l = (units i h).unit_x.1
  inverse-holds i (no d) l = absurd (d l)

  -- the fork
  pub flipped-fork : Fork J
  flipped-fork = record {
    branch = branches;
    same_weights = λ v used. alike_weights J (branches base).accepted.randomness (branches v).accepted.randomness (upto (parameters J) 5) (alike v) (le_refl (upto (parameters J) 5));
    same_u1 = λ v used. made_u1 J W (branches base) (branches v) (made base) (made v);
    same_u2 = λ v used. same_u2 v;
    same_challenges = same_challenges;
    inverse = λ i. inverse_of i (dec_lt i r);
    inverse_x = λ i h. inverse-holds i (dec_lt i r) h;
    unit_y = λ i h. (units i h).unit_y;
    unit_x_y = λ i h. (units i h).unit_x_y;
  }

  -- its transcripts are the prover's
  pub flipped-fork-honest : HonestFork W flipped-fork
  unfolding flipped-fork
  flipped-fork-honest v used = made v

  -- and the first has the randomness R
  pub flipped-fork-randomness : (flipped-fork.branch base).accepted.randomness ≡ R
  unfolding flipped-fork used? used_or_base flipped_at
  flipped-fork-randomness = refl
