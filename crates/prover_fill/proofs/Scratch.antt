-- What the scratch holds after each step of a round.
use mathlib.Core.Path.{◌≡◌, sym, ap, subst, ◌∙◌}
use mathlib.Core.Bool.{Bool, true, false}
use mathlib.Core.List.{List, ◌++◌}
use Prim.Native.Nat.{ℕ, ◌+◌, ◌*◌, ◌≤◌}
use native.Mathlib.Omega.{arith}
use lib.ListN.{length, length-append}
use Rattle.math.specs.lists.Part.{splice}
use Rattle.spec_protocol.specs.Parameters.{Parameters, parameters, T}
use Rattle.spec_protocol.specs.Layout.{scratch_need}
use Rattle.layout_regions.specs.declared.Regions.{Regions}
use Rattle.relation_env_params.specs.declared.env_params.EnvironmentParameters.{EnvironmentParameters}
use Rattle.relation_env_params.specs.Parameters.{parameters_of}
use Rattle.core_workspace.specs.Holds.{Holds, Unchanged}
use Rattle.core_workspace.specs.Aggregated.{a''_words, φ''_words, c_words, challenge_words}
use Rattle.core_workspace.specs.Ready.{Ready, Drawn, Challengeable}
use Rattle.core_workspace.proofs.Holds.{holds-first, holds-second}
use Rattle.core_workspace.proofs.Unchanged.{unchanged_refl, unchanged_trans, unchanged_stored}
use Rattle.core_workspace.proofs.Ready.{regions_end, φ''-end, a''-end, φ-end, a-end, g_end, c-end, t-end, u-end, length-φ'', length-a'', length-c, c_requires, c-made}
use Rattle.prover_commit.specs.Words.{t_words, g_words, b''_words, h_words}
use Rattle.prover_commit.specs.Work.{WorkGiven, Committed, Aggregated, Filled}
use Rattle.prover_fill.specs.Stored.{MadeWith, last_call}
use Rattle.prover_commit.proofs.Commitments.{held-stored, held-before, held_after, given-changed}
use Rattle.prover_commit.proofs.Lengths.{length-t, length-g, length-h, length-b''}

-- the scratch changed before a place
pub given_unchanged : (J W : List ℕ) (params : EnvironmentParameters) (regions : Regions) (k : ℕ) (S S' : List ℕ) → Unchanged k S S' → WorkGiven J W params regions S
    → WorkGiven J W params regions S'
given_unchanged J W params regions k S S' e h = given-changed J W params regions S h S' e.size

module _ (J R W : List ℕ) (params : EnvironmentParameters) (regions : Regions) (S : List ℕ) (h : WorkGiven J W params regions S) where
  abbrev P : Parameters
  P = parameters J

  -- the ends of the words stored
  double_prime_size : length (φ''_words J R ++ a''_words J R) ≡ 64 * (P.L * (P.r * P.n)) + 64 * (P.L * T P)
  double_prime_size = omega (arith, length-append (φ''_words J R) (a''_words J R), length-φ'' J R, length-a'' J R)

  double_prime_place : regions.a2 ≡ 0 + length (φ''_words J R)
  double_prime_place = omega (arith, length-φ'' J R, h.ready.laid.first, h.ready.laid.a2)

  double_prime_end : 0 + length (φ''_words J R ++ a''_words J R) ≤ regions.g
  double_prime_end =
      omega (
        arith,
        double_prime_size,
        h.ready.laid.first,
        φ''-end J params regions S h.ready,
        a''-end J params regions S h.ready,
        φ-end J params regions S
            h.ready,
        a-end J params regions S h.ready,
      )

  pub g-below : regions.g + length (g_words J W) ≤ regions.challenges
  g-below = omega (arith, length-g J W, g_end J params regions S h.ready)

  pub c-below : regions.challenges + length (c_words J R) ≤ regions.t
  c-below = omega (arith, length-c J R, c-end J params regions S h.ready)

  pub t-below : regions.t + length (t_words J W) ≤ regions.b2
  t-below = omega (arith, length-t J W, t-end J params regions S h.ready, u-end J params regions S h.ready)

  h-below : regions.a_or_h + length (h_words J R W) ≤ regions.g
  h-below = omega (arith, length-h J R W, a-end J params regions S h.ready)

  b''-below : regions.b2 + length (b''_words J R W) ≤ scratch_need P
  b''-below = omega (arith, length-b'' J R W, h.ready.sound.within.L.1, regions_end J params regions S h.ready)

  -- φ'' and a'' stored
  module _ (S' : List ℕ) (e : S' ≡ splice S 0 (φ''_words J R ++ a''_words J R)) where
    double_prime_held : Holds S' 0 (φ''_words J R ++ a''_words J R)
    double_prime_held = held-stored S S' 0 (φ''_words J R ++ a''_words J R) e (omega (arith, double_prime_end, g-below, c-below, t-below, b''-below, h.ready.room))

    pub φ''-held : Holds S' regions.phi2 (φ''_words J R)
    φ''-held = subst (λ k. Holds S' k (φ''_words J R)) (sym h.ready.laid.first) (holds-first S' 0 (φ''_words J R) (a''_words J R) double_prime_held)

    pub a''-held : Holds S' regions.a2 (a''_words J R)
    a''-held = subst (λ k. Holds S' k (a''_words J R)) (sym double_prime_place) (holds-second S' 0 (φ''_words J R) (a''_words J R) double_prime_held)

    -- g stands as it did
    g_held : Committed J W regions S → Holds S' regions.g (g_words J W)
    g_held k = held_after S S' 0 (φ''_words J R ++ a''_words J R) e regions.g (g_words J W) double_prime_end k.g

    double_prime_unchanged : Unchanged (scratch_need P) S S'
    double_prime_unchanged =
        unchanged_stored (scratch_need P) S S S' 0 (φ''_words J R ++ a''_words J R) (unchanged_refl (scratch_need P) S) e (omega (arith, double_prime_end, g-below, c-below, t-below, b''-below))

  -- b'' stored
  module _ (S' : List ℕ) (e : S' ≡ splice S regions.b2 (b''_words J R W)) where
    pub b''-held : Holds S' regions.b2 (b''_words J R W)
    b''-held = held-stored S S' regions.b2 (b''_words J R W) e (omega (arith, b''-below, h.ready.room))

    pub b''_unchanged : Unchanged (scratch_need P) S S'
    b''_unchanged = unchanged_stored (scratch_need P) S S S' regions.b2 (b''_words J R W) (unchanged_refl (scratch_need P) S) e b''-below

    -- the others stand as they did
    pub b''-before : (at : ℕ) (ws : List ℕ) → at + length ws ≤ regions.b2 → Holds S at ws → Holds S' at ws
    b''-before = held-before S S' regions.b2 (b''_words J R W) e

  -- the challenges stored
  module _ (S' : List ℕ) (e : S' ≡ splice S regions.challenges (c_words J R)) where
    c-held : Holds S' regions.challenges (c_words J R)
    c-held = held-stored S S' regions.challenges (c_words J R) e (omega (arith, c-below, t-below, b''-below, h.ready.room))

    c_unchanged : Unchanged (scratch_need P) S S'
    c_unchanged = unchanged_stored (scratch_need P) S S S' regions.challenges (c_words J R) (unchanged_refl (scratch_need P) S) e (omega (arith, c-below, t-below, b''-below))

    c-beside-b : Holds S regions.b2 (b''_words J R W) → Holds S' regions.b2 (b''_words J R W)
    c-beside-b k = held_after S S' regions.challenges (c_words J R) e regions.b2 (b''_words J R W) (omega (arith, c-below, t-below)) k

    c-aggregated : Aggregated J R W regions S → Aggregated J R W regions S'
    c-aggregated k =
        let before = held-before S S' regions.challenges (c_words J R) e in
        record {
          committed = record {
            t = held_after S S' regions.challenges (c_words J R) e regions.t (t_words J W) c-below k.committed.t;
            g = before regions.g (g_words J W) g-below k.committed.g;
          };
          h = before regions.a_or_h (h_words J R W) (omega (arith, h-below, g-below)) k.h;
        }

-- round 3: a scratch with t and g
module _ (J R W : List ℕ) (params : EnvironmentParameters) (regions : Regions) (S : List ℕ) (h : WorkGiven J W params regions S) (d : Drawn 3 J R)
    (S₁ : List ℕ) (unchanged : Unchanged (scratch_need (parameters J)) S S₁) (k : Committed J W regions S₁) where
  given₁ : WorkGiven J W params regions S₁
  given₁ = given_unchanged J W params regions (scratch_need (parameters J)) S S₁ unchanged h

  pub double_prime_needs : Ready J params regions S₁ × Drawn 3 J R
  double_prime_needs = (given₁.ready, d)

  -- then φ'' and a''
  module _ (S₂ : List ℕ) (e₂ : S₂ ≡ splice S₁ 0 (φ''_words J R ++ a''_words J R)) where
    given₂ : WorkGiven J W params regions S₂
    given₂ = given_unchanged J W params regions (scratch_need (parameters J)) S₁ S₂ (double_prime_unchanged J R W params regions S₁ given₁ S₂ e₂) given₁

    pub b''_needs : WorkGiven J W params regions S₂ × Holds S₂ regions.phi2 (φ''_words J R) × Holds S₂ regions.a2 (a''_words J R) × Holds S₂ regions.g (g_words J W)
    b''_needs = (given₂, φ''-held J R W params regions S₁ given₁ S₂ e₂, a''-held J R W params regions S₁ given₁ S₂ e₂, g_held J R W params regions S₁ given₁ S₂ e₂ k)

    -- and b''
    module _ (S₃ : List ℕ) (e₃ : S₃ ≡ splice S₂ regions.b2 (b''_words J R W)) where
      pub b''_there : Holds S₃ regions.b2 (b''_words J R W)
      b''_there = b''-held J R W params regions S₂ given₂ S₃ e₃

      pub round₃_unchanged : Unchanged (scratch_need (parameters J)) S S₃
      round₃_unchanged =
          unchanged_trans (scratch_need (parameters J)) S S₂ S₃ (unchanged_trans (scratch_need (parameters J)) S S₁ S₂ unchanged (double_prime_unchanged J R W params regions S₁ given₁ S₂ e₂))
          (b''_unchanged J R W params regions S₂ given₂ S₃ e₃)

-- the calls that are handed all randomness: a scratch with t, g and h
module _ (J R W : List ℕ) (params : EnvironmentParameters) (regions : Regions) (S : List ℕ) (h : WorkGiven J W params regions S) (d : Drawn 7 J R)
    (S₁ : List ℕ) (unchanged : Unchanged (scratch_need (parameters J)) S S₁) (k : Aggregated J R W regions S₁) where
  given₇ : WorkGiven J W params regions S₁
  given₇ = given_unchanged J W params regions (scratch_need (parameters J)) S S₁ unchanged h

  pub challenges_need : Challengeable R params regions S₁
  challenges_need = c_requires J R S₁ params regions given₇.ready d

  -- then the challenges
  module _ (S₂ : List ℕ) (stored : S₂ ≡ splice S₁ regions.challenges (challenge_words (parameters_of params) R)) where
    e : S₂ ≡ splice S₁ regions.challenges (c_words J R)
    e = stored ∙ ap (splice S₁ regions.challenges) (c-made J R S₁ params regions given₇.ready)

    pub c_there : Holds S₂ regions.challenges (c_words J R)
    c_there = c-held J R W params regions S₁ given₇ S₂ e

    pub c-others : Aggregated J R W regions S₂
    c-others = c-aggregated J R W params regions S₁ given₇ S₂ e k

    pub c_stays : Unchanged (scratch_need (parameters J)) S S₂
    c_stays = unchanged_trans (scratch_need (parameters J)) S S₁ S₂ unchanged (c_unchanged J R W params regions S₁ given₇ S₂ e)

    -- b'' stands as it did
    pub b_stands : Holds S₁ regions.b2 (b''_words J R W) → Holds S₂ regions.b2 (b''_words J R W)
    b_stands = c-beside-b J R W params regions S₁ given₇ S₂ e

-- t, g and h, and b'' where it is asked for
pub aggregated_of : (with-b : Bool) (J R W : List ℕ) (regions : Regions) (S : List ℕ) → MadeWith with-b J R W regions S → Aggregated J R W regions S
aggregated_of true J R W regions S k = k.0
aggregated_of false J R W regions S k = k

-- with the challenges they are what the last calls are filled with
pub last_filled : (with-b : Bool) (J R W : List ℕ) (params : EnvironmentParameters) (regions : Regions) (S : List ℕ) (h : WorkGiven J W params regions S) (d : Drawn 7 J R)
    (S₁ : List ℕ) (unchanged : Unchanged (scratch_need (parameters J)) S S₁) (S₂ : List ℕ)
    → S₂ ≡ splice S₁ regions.challenges (challenge_words (parameters_of params) R) → MadeWith with-b J R W regions S₁ → Filled J R W regions S₂ (last_call with-b)
last_filled true J R W params regions S h d S₁ unchanged S₂ stored k = (
  c-others J R W params regions S h d S₁ unchanged k.0 S₂ stored,
  (b_stands J R W params regions S h d S₁ unchanged k.0 S₂ stored k.1, c_there J R W params regions S h d S₁ unchanged k.0 S₂ stored),
)
last_filled false J R W params regions S h d S₁ unchanged S₂ stored k =
    (c-others J R W params regions S h d S₁ unchanged k S₂ stored, c_there J R W params regions S h d S₁ unchanged k S₂ stored)
